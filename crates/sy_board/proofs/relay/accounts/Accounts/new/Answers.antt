use Rattle.std.proofs.Common.{◌≡◌, ℕ, ◌+◌, List, [], ◌∷◌, ◌++◌, map, replicate, ap, ◌∙◌, refl, subst, arith}
use Rattle.std.proofs.lemmas.List.{map_push, replicate_more}
use Rattle.sy_board.specs.declared.relay.accounts.ActionCounts.{ActionCounts}
use Rattle.sy_board.specs.relay.Totals.{Counts, no_counts}
use Rattle.sy_board.specs.relay.Boards.{counts_of}
use Rattle.sy_board.specs.internal.Counting as counting
use Rattle.sy_board.proofs.relay.accounts.Accounts.new.Goals as goal

one_more : (xs : List ActionCounts) (x : ActionCounts) (n : ℕ) → counts_of x ≡ no_counts → map counts_of xs ≡ replicate n no_counts → map counts_of (xs ++ x ∷ []) ≡ replicate (n + 1) no_counts
one_more xs x n none e =
    let a = map_push counts_of xs x in
    let b = replicate_more n no_counts in
    cc

pub loop-init : goal.loop-init
loop-init c = ap (map counts_of) c.in_ok-counts.ensures.items

pub loop-preserved : goal.loop-preserved
loop-preserved c =
    ap (map counts_of) c.in_ok-push.ensures.items
    ∙ one_more c.loop.counts.items (record { done = 0; given_up = 0; left = 0 }) c.loop.counter refl c.loop.invariant

pub returns : goal.returns
returns c =
    let end : c.loop.counter ≡ c.args.actions = omega arith in
    let all : map counts_of c.loop.counts.items ≡ replicate c.args.actions no_counts = subst (λ n. map counts_of c.loop.counts.items ≡ replicate n no_counts) end c.loop.invariant in
    ap (λ (cs : List Counts). record (counting.nothing c.args.actions) { totals = record (counting.nothing c.args.actions).totals { actions = cs } }) all

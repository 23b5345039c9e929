-- What a relay holds, by its totals.
use Rattle.std.proofs.Common.{◌≡◌, ℕ, ◌+◌, ◌-◌, List, [], ◌∷◌, map, sum_by, refl, ap, ◌∙◌, sym, arith}
use Rattle.std.proofs.lemmas.List.Sums.{sum_by-cons}
use Rattle.sy_board.specs.declared.relay.accounts.ActionCounts.{ActionCounts}
use Rattle.sy_board.specs.relay.Boards.{Account, counts_of}
use Rattle.sy_runtime.specs.Standing.{held_by, runs_left}

left_of_due : (counts : ActionCounts) → runs_left (counts_of counts) ≡ counts.left
left_of_due counts = omega arith

all_left : (actions : List ActionCounts) → sum_by runs_left (map counts_of actions) ≡ sum_by (λ (c : ActionCounts). c.left) actions
all_left [] = refl
all_left (counts ∷ others) =
    let first = left_of_due counts in
    let more = all_left others in
    let a = sum_by-cons runs_left (counts_of counts) (map counts_of others) in
    let b = sum_by-cons (λ (c : ActionCounts). c.left) counts others in
    omega (arith, first, more, a, b)

pub held_is : (account : Account) (actions : List ActionCounts) (posts runs held : ℕ) → map counts_of actions ≡ account.totals.actions
    → account.totals.posted + account.totals.lost_post + posts ≡ account.totals.posts_due → runs ≡ sum_by (λ (c : ActionCounts). c.left) actions
    → held ≡ account.held_in_hands + account.held_in_queues + posts + runs → held ≡ held_by account
held_is account actions posts runs held are due left sum =
    let all : sum_by runs_left account.totals.actions ≡ runs = rw (← are) (all_left actions ∙ sym left) in
    omega (arith, due, sum, all)

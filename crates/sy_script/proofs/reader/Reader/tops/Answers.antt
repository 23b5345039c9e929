use Rattle.std.proofs.Common.{◌≡◌, ℕ, suc, List, [], ◌∷◌, ◌++◌, ◌+◌, ◌-◌, length, ◌==◌, true, false, Ok, refl, rules, arith}
use Rattle.std.proofs.lemmas.Bool.Decides.{nat_tests}
use Rattle.std.proofs.lemmas.Grind.{common_steps}
use Rattle.sy_script.specs.declared.token.Token.{Token}
use Rattle.sy_script.specs.declared.tree.Top.{Top}
use Rattle.sy_script.specs.Terms.{max_depth}
use Rattle.sy_script.specs.internal.ReadingStmt.{top, tops, tops_from, tops_then}
use Rattle.sy_script.proofs.Turns.{one_more, no_more}
use Rattle.sy_script.proofs.reader.Reader.tops.Goals as goal

tops_end : (bytes : List ℕ) (n : ℕ) (found : List Top) (ts : List Token) → (length ts == 0) ≡ true → tops_from bytes max_depth (suc n) found ts ≡ Ok found
unfolding tops_from
tops_end bytes n found [] e = refl
tops_end bytes n found (x ∷ ts) e = absurd (grind (arith, nat_tests))

tops_turn : (bytes : List ℕ) (n : ℕ) (found : List Top) (ts : List Token) → (length ts == 0) ≡ false → tops_from bytes max_depth (suc n) found ts ≡ tops_then (top bytes max_depth ts) (λ one after. tops_from bytes max_depth n (found ++ one ∷ []) after)
unfolding tops_from
tops_turn bytes n found [] e = absurd (grind (arith, nat_tests))
tops_turn bytes n found (x ∷ ts) e = refl

pub loop-turn-init : goal.loop-turn-init
unfolding tops
loop-turn-init c = first_of (search rules, grind (arith, common_steps))

pub returns-then-is_empty : goal.returns-then-is_empty
returns-then-is_empty c =
    let e = one_more (λ n. tops_from c.args.self.now.text.now max_depth n c.loop-turn.found c.loop-turn.rest.now) _ c.loop-turn._turn c.loop-turn-test.true c.loop-turn.invariant in
    let f = tops_end c.args.self.now.text.now (length c.args.tokens.now - (c.loop-turn._turn + 1)) c.loop-turn.found c.loop-turn.rest.now cc in
    first_of (search rules, grind (arith, common_steps))

pub returns-in_err-top : goal.returns-in_err-top
returns-in_err-top c =
    let e = one_more (λ n. tops_from c.args.self.now.text.now max_depth n c.loop-turn.found c.loop-turn.rest.now) _ c.loop-turn._turn c.loop-turn-test.true c.loop-turn.invariant in
    let f = tops_turn c.args.self.now.text.now (length c.args.tokens.now - (c.loop-turn._turn + 1)) c.loop-turn.found c.loop-turn.rest.now cc in
    first_of (search rules, grind (arith, common_steps))

pub loop-turn-preserved : goal.loop-turn-preserved
loop-turn-preserved c =
    let e = one_more (λ n. tops_from c.args.self.now.text.now max_depth n c.loop-turn.found c.loop-turn.rest.now) _ c.loop-turn._turn c.loop-turn-test.true c.loop-turn.invariant in
    let f = tops_turn c.args.self.now.text.now (length c.args.tokens.now - (c.loop-turn._turn + 1)) c.loop-turn.found c.loop-turn.rest.now cc in
    first_of (search rules, grind (arith, common_steps))

pub returns : goal.returns
unfolding tops_from
returns c =
    let e = no_more (λ n. tops_from c.args.self.now.text.now max_depth n c.loop-turn.found c.loop-turn.rest.now) _ c.loop-turn._turn c.loop-turn-test.false c.loop-turn.invariant in
    first_of (search rules, grind (arith, common_steps))

use Rattle.std.proofs.Common.{◌≡◌, rules, arith}
use Rattle.std.proofs.lemmas.Grind.{common_steps}
use Rattle.sy_script.specs.internal.ReadingExpr.{level, followed, group, negation, unit, chain, chain_from, expr}
use Rattle.sy_script.proofs.Turns.{one_more, no_more, deeper}
use Rattle.sy_script.proofs.reader.Reader.+expr.Goals as goal

pub chain-loop-turn-init : goal.chain-loop-turn-init
unfolding chain unit
chain-loop-turn-init t c = first_of (search rules, grind (arith, common_steps))

pub chain-returns-in_default : goal.chain-returns-in_default
unfolding chain_from
chain-returns-in_default t c =
    let e = one_more (λ n. chain_from c.args.joint (unit c.args.self.now.text.now c.args.place.left c.args.place.opened) n c.loop-turn.parts c.loop-turn.rest.now) _ c.loop-turn._turn c.loop-turn-test.true c.loop-turn.invariant in
    first_of (search rules, grind (arith, common_steps))

pub chain-returns-in_err-part : goal.chain-returns-in_err-part
unfolding chain_from
chain-returns-in_err-part t c =
    let e = one_more (λ n. chain_from c.args.joint (unit c.args.self.now.text.now c.args.place.left c.args.place.opened) n c.loop-turn.parts c.loop-turn.rest.now) _ c.loop-turn._turn c.loop-turn-test.true c.loop-turn.invariant in
    first_of (search rules, grind (arith, common_steps))

pub chain-loop-turn-preserved : goal.chain-loop-turn-preserved
unfolding chain_from
chain-loop-turn-preserved t c =
    let e = one_more (λ n. chain_from c.args.joint (unit c.args.self.now.text.now c.args.place.left c.args.place.opened) n c.loop-turn.parts c.loop-turn.rest.now) _ c.loop-turn._turn c.loop-turn-test.true c.loop-turn.invariant in
    first_of (search rules, grind (arith, common_steps))

pub chain-returns : goal.chain-returns
unfolding chain_from
chain-returns t c =
    let e = no_more (λ n. chain_from c.args.joint (unit c.args.self.now.text.now c.args.place.left c.args.place.opened) n c.loop-turn.parts c.loop-turn.rest.now) _ c.loop-turn._turn c.loop-turn-test.false c.loop-turn.invariant in
    first_of (search rules, grind (arith, common_steps))

pub group-returns-then-left-eq0 : goal.group-returns-then-left-eq0
unfolding level
group-returns-then-left-eq0 t c =
    let none : c.args.left ≡ 0 = omega arith in
    rw none (search rules)

pub group-returns-in_err-inner : goal.group-returns-in_err-inner
unfolding level expr
group-returns-in_err-inner t c =
    let e = deeper (λ n. group c.args.self.now.text.now n c.args.paren c.args.rest.now) c.args.left (omega arith) in
    first_of (search rules, grind (arith, common_steps))

pub group-returns-in_err-inner-2 : goal.group-returns-in_err-inner-2
unfolding level expr followed
group-returns-in_err-inner-2 t c =
    let e = deeper (λ n. group c.args.self.now.text.now n c.args.paren c.args.rest.now) c.args.left (omega arith) in
    first_of (search rules, grind (arith, common_steps))

pub group-returns : goal.group-returns
unfolding level expr followed
group-returns t c =
    let e = deeper (λ n. group c.args.self.now.text.now n c.args.paren c.args.rest.now) c.args.left (omega arith) in
    first_of (search rules, grind (arith, common_steps))

pub negation-returns-then-place-eq0 : goal.negation-returns-then-place-eq0
unfolding level
negation-returns-then-place-eq0 t c =
    let none : c.args.place.left ≡ 0 = omega arith in
    rw none (search rules)

pub negation-returns-in_err-token : goal.negation-returns-in_err-token
unfolding level
negation-returns-in_err-token t c =
    let e = deeper (λ n. negation c.args.self.now.text.now n c.args.place.opened c.args.word c.args.rest.now) c.args.place.left (omega arith) in
    first_of (search rules, grind (arith, common_steps))

pub negation-returns-in_err-group-in-LeftParen : goal.negation-returns-in_err-group-in-LeftParen
unfolding level
negation-returns-in_err-group-in-LeftParen t c =
    let e = deeper (λ n. negation c.args.self.now.text.now n c.args.place.opened c.args.word c.args.rest.now) c.args.place.left (omega arith) in
    first_of (search rules, grind (arith, common_steps))

pub negation-returns-in_err-inner-in-Prifilt : goal.negation-returns-in_err-inner-in-Prifilt
unfolding level
negation-returns-in_err-inner-in-Prifilt t c =
    let e = deeper (λ n. negation c.args.self.now.text.now n c.args.place.opened c.args.word c.args.rest.now) c.args.place.left (omega arith) in
    first_of (search rules, grind (arith, common_steps))

pub negation-returns-in_default : goal.negation-returns-in_default
unfolding level
negation-returns-in_default t c =
    let e = deeper (λ n. negation c.args.self.now.text.now n c.args.place.opened c.args.word c.args.rest.now) c.args.place.left (omega arith) in
    first_of (search rules, grind (arith, common_steps))

pub negation-returns : goal.negation-returns
unfolding level
negation-returns t c =
    let e = deeper (λ n. negation c.args.self.now.text.now n c.args.place.opened c.args.word c.args.rest.now) c.args.place.left (omega arith) in
    first_of (search rules, grind (arith, common_steps))

use Rattle.std.proofs.Common.{rules, arith}
use Rattle.std.proofs.lemmas.Grind.{common_steps}
use Rattle.sy_script.specs.declared.token.Kind.TheVariants as k
use Rattle.sy_script.specs.internal.Reading.{items_from, param, params_in}
use Rattle.sy_script.proofs.Turns.{one_more, no_more}
use Rattle.sy_script.proofs.reader.Reader.params_in.Goals as goal

pub loop-turn-init : goal.loop-turn-init
unfolding params_in
loop-turn-init c = first_of (search rules, grind (arith, common_steps))

pub returns-in-Some : goal.returns-in-Some
unfolding items_from
returns-in-Some c =
    let e = one_more (λ n. items_from k.RightParen c.args.opened (param c.args.self.now.text.now c.args.opened) n c.loop-turn.found c.loop-turn.rest.now) _ c.loop-turn._turn c.loop-turn-test.true c.loop-turn.invariant in
    first_of (search rules, grind (arith, common_steps))

pub returns-in_err-param : goal.returns-in_err-param
unfolding items_from
returns-in_err-param c =
    let e = one_more (λ n. items_from k.RightParen c.args.opened (param c.args.self.now.text.now c.args.opened) n c.loop-turn.found c.loop-turn.rest.now) _ c.loop-turn._turn c.loop-turn-test.true c.loop-turn.invariant in
    first_of (search rules, grind (arith, common_steps))

pub loop-turn-preserved : goal.loop-turn-preserved
unfolding items_from
loop-turn-preserved c =
    let e = one_more (λ n. items_from k.RightParen c.args.opened (param c.args.self.now.text.now c.args.opened) n c.loop-turn.found c.loop-turn.rest.now) _ c.loop-turn._turn c.loop-turn-test.true c.loop-turn.invariant in
    first_of (search rules, grind (arith, common_steps))

pub returns : goal.returns
unfolding items_from
returns c =
    let e = no_more (λ n. items_from k.RightParen c.args.opened (param c.args.self.now.text.now c.args.opened) n c.loop-turn.found c.loop-turn.rest.now) _ c.loop-turn._turn c.loop-turn-test.false c.loop-turn.invariant in
    first_of (search rules, grind (arith, common_steps))

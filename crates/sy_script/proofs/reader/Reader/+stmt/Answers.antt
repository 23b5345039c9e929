use Rattle.std.proofs.Common.{◌≡◌, rules, arith}
use Rattle.std.proofs.lemmas.Grind.{common_steps}
use Rattle.sy_script.specs.declared.token.Kind.TheVariants as k
use Rattle.sy_script.specs.internal.Reading.{items_from}
use Rattle.sy_script.specs.internal.ReadingStmt.{block, stmt, body}
use Rattle.sy_script.proofs.Turns.{one_more, no_more, deeper}
use Rattle.sy_script.proofs.reader.Reader.+stmt.Goals as goal

pub body-loop-turn-init : goal.body-loop-turn-init
unfolding body stmt
body-loop-turn-init t c = first_of (search rules, grind (arith, common_steps))

pub body-returns-in_err-stmt : goal.body-returns-in_err-stmt
unfolding items_from
body-returns-in_err-stmt t c =
    let e = one_more (λ n. items_from k.RightBrace c.args.place.opened (stmt c.args.self.now.text.now c.args.place.left c.args.place.opened) n c.loop-turn.found c.loop-turn.rest.now) _ c.loop-turn._turn c.loop-turn-test.true c.loop-turn.invariant in
    first_of (search rules, grind (arith, common_steps))

pub body-returns-in-Some : goal.body-returns-in-Some
unfolding items_from
body-returns-in-Some t c =
    let e = one_more (λ n. items_from k.RightBrace c.args.place.opened (stmt c.args.self.now.text.now c.args.place.left c.args.place.opened) n c.loop-turn.found c.loop-turn.rest.now) _ c.loop-turn._turn c.loop-turn-test.true c.loop-turn.invariant in
    first_of (search rules, grind (arith, common_steps))

pub body-loop-turn-preserved : goal.body-loop-turn-preserved
unfolding items_from
body-loop-turn-preserved t c =
    let e = one_more (λ n. items_from k.RightBrace c.args.place.opened (stmt c.args.self.now.text.now c.args.place.left c.args.place.opened) n c.loop-turn.found c.loop-turn.rest.now) _ c.loop-turn._turn c.loop-turn-test.true c.loop-turn.invariant in
    first_of (search rules, grind (arith, common_steps))

pub body-returns : goal.body-returns
unfolding items_from
body-returns t c =
    let e = no_more (λ n. items_from k.RightBrace c.args.place.opened (stmt c.args.self.now.text.now c.args.place.left c.args.place.opened) n c.loop-turn.found c.loop-turn.rest.now) _ c.loop-turn._turn c.loop-turn-test.false c.loop-turn.invariant in
    first_of (search rules, grind (arith, common_steps))

pub block-returns-in_err-last : goal.block-returns-in_err-last
unfolding block
block-returns-in_err-last t c =
    let none : c.args.place.left ≡ 0 = omega arith in
    rw none (first_of (search rules, grind (arith, common_steps)))

pub block-returns-then-place-eq0 : goal.block-returns-then-place-eq0
unfolding block
block-returns-then-place-eq0 t c =
    let none : c.args.place.left ≡ 0 = omega arith in
    rw none (first_of (search rules, grind (arith, common_steps)))

pub block-returns-in_err-token : goal.block-returns-in_err-token
unfolding block stmt body
block-returns-in_err-token t c =
    let e = deeper (λ n. block c.args.self.now.text.now n c.args.place.opened c.args.rest.now) c.args.place.left (omega arith) in
    first_of (search rules, grind (arith, common_steps))

pub block-returns-in_err-body : goal.block-returns-in_err-body
unfolding block stmt body
block-returns-in_err-body t c =
    let e = deeper (λ n. block c.args.self.now.text.now n c.args.place.opened c.args.rest.now) c.args.place.left (omega arith) in
    first_of (search rules, grind (arith, common_steps))

pub block-returns-then-same_kind : goal.block-returns-then-same_kind
unfolding block stmt body
block-returns-then-same_kind t c =
    let e = deeper (λ n. block c.args.self.now.text.now n c.args.place.opened c.args.rest.now) c.args.place.left (omega arith) in
    first_of (search rules, grind (arith, common_steps))

pub block-returns-in_err-stmt : goal.block-returns-in_err-stmt
unfolding block stmt body
block-returns-in_err-stmt t c =
    let e = deeper (λ n. block c.args.self.now.text.now n c.args.place.opened c.args.rest.now) c.args.place.left (omega arith) in
    first_of (search rules, grind (arith, common_steps))

pub block-returns : goal.block-returns
unfolding block stmt body
block-returns t c =
    let e = deeper (λ n. block c.args.self.now.text.now n c.args.place.opened c.args.rest.now) c.args.place.left (omega arith) in
    first_of (search rules, grind (arith, common_steps))

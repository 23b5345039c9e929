use Rattle.std.proofs.Common.{◌+◌, arith, subst, sym}
use Rattle.sy_warnings.proofs.Starting.{AreInputsTo, inputs_begin, inputs_done, inputs_more}
use Rattle.sy_warnings.proofs.coming.push_inputs.Goals as goal

pub loop-input-init : goal.loop-input-init
loop-input-init c = inputs_begin c.args.site.now c.args.relay c.args.found.now.items

pub loop-input-preserved : goal.loop-input-preserved
loop-input-preserved c = λ below.
    (let many = c.inputs_of-input-end.ensures in
    let low = c.loop-input-test.true in
    subst (AreInputsTo c.args.site.now c.args.relay (c.loop-input.input + 1)) (sym c.in_ok-push.ensures.items)
    (inputs_more c.args.site.now c.args.relay c.loop-input.input c.loop-input.found.items (omega (arith, many, low)) (c.loop-input.invariant below)))

pub returns : goal.returns
returns c = λ below.
    (let many = c.inputs_of-input-end.ensures in
    let end = c.loop-input-test.false in
    inputs_done c.args.site.now c.args.relay c.loop-input.input c.loop-input.found.items (omega (arith, many, end)) (c.loop-input.invariant below))

use Rattle.std.proofs.Common.{arith, get_or, ℕ}
use Rattle.std.proofs.lemmas.Option.{slice_get-get_or}
use Rattle.sy_endpoints.specs.Endpoints.{ShareAPort}
use Rattle.sy_endpoints.proofs.Meetings.{none_shares}
use Rattle.sy_endpoints.proofs.Searches.{at_all, one_more, there_below}
use Rattle.sy_endpoints.proofs.shared.shared_port.Goals as goal

pub loop-number-preserved : goal.loop-number-preserved
loop-number-preserved c =
    one_more (λ number. (other : ℕ) × ShareAPort c.args.inputs.now c.args.others.now number other) c.loop-number.number c.loop-number.invariant
    (none_shares c.args.inputs.now c.args.others.now c.loop-number.number
    (get_or c.args.inputs.now c.loop-number.number c.index-inputs-number.result)
    (slice_get-get_or c.args.inputs.now c.loop-number.number c.index-inputs-number.result c.loop-number-test.true) c.in_default.ensures.none)

pub returns-clause-none : goal.returns-clause-none
returns-clause-none c one other is =
    at_all (λ number. (other : ℕ) × ShareAPort c.args.inputs.now c.args.others.now number other) c.loop-number.number c.loop-number.invariant one
    (there_below c.args.inputs.now one is.input c.loop-number.number is.there (omega (arith, c.loop-number-test.false))) (other, is)

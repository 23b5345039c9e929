use Rattle.std.proofs.Common.{arith, ℕ}
use Rattle.sy_endpoints.specs.Endpoints.{MeetBy}
use Rattle.sy_endpoints.proofs.Searches.{at_all, one_more}
use Rattle.sy_endpoints.proofs.shared.meeting_at.Goals as goal

pub loop-earlier-preserved : goal.loop-earlier-preserved
loop-earlier-preserved c =
    one_more (λ earlier. (one : ℕ) × (other : ℕ) × MeetBy c.args.site.now c.args.relay earlier one other) c.loop-earlier.earlier
    c.loop-earlier.invariant (λ is. c.in_default.ensures.none is.0 is.1 is.2)

pub returns-clause-none : goal.returns-clause-none
returns-clause-none c one earlier is =
    let low = is.is_earlier in
    at_all (λ earlier. (one : ℕ) × (other : ℕ) × MeetBy c.args.site.now c.args.relay earlier one other) c.loop-earlier.earlier
    c.loop-earlier.invariant earlier.relay (omega (arith, low, c.loop-earlier-test.false)) (one, earlier.input, is.by)

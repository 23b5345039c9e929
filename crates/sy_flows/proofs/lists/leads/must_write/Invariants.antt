use Rattle.std.proofs.Common.{◌-◌}
use Rattle.sy_flows.proofs.Written.{IsNotWritten}
use Rattle.sy_flows.proofs.lists.leads.must_write.Given as goal

abbrev pub invariant-loop-number : goal.invariant-loop-number
invariant-loop-number l = IsNotWritten l.site l.fn.class l.archive l.at l.from

abbrev pub decreases-loop-number : goal.decreases-loop-number
decreases-loop-number l = 64 - l.from

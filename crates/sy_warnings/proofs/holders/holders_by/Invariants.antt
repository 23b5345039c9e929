use Rattle.sy_warnings.specs.internal.Holders.{AreHoldersBelow}
use Rattle.sy_warnings.proofs.holders.holders_by.Given as goal

abbrev pub invariant-loop-relay : goal.invariant-loop-relay
invariant-loop-relay l = AreHoldersBelow l.site l.relay 0 l.found.items

use Rattle.std.proofs.Common.{◌≡◌, take}
use Rattle.sy_fit.proofs.accepted.spares_of.Given as goal

abbrev pub invariant-loop-spare : goal.invariant-loop-spare
invariant-loop-spare l = l.copied.items ≡ take l.spare-index l.spares

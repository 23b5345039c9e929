use Rattle.std.proofs.Common.{take}
use Rattle.std.specs.Prelude.{IfSome}
use Rattle.sy_fit.specs.internal.Ranked.{IsBelow}
use Rattle.sy_fit.proofs.Comparing.{AreBelow}
use Rattle.sy_fit.proofs.ranks.falls_by.Given as goal

abbrev pub invariant-loop-hop : goal.invariant-loop-hop
invariant-loop-hop l = record {
  below : AreBelow l.site l.part l.rows l.rank (take l.hop-index l.hops);
  known : IfSome l.known (λ relay. IsBelow l.site l.part l.rows relay l.rank);
}

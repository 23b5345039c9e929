use Rattle.sy_fit.specs.internal.Inners.{AreInners}
use Rattle.sy_fit.proofs.inners.inners_of.Given as goal

abbrev pub invariant-loop-relay : goal.invariant-loop-relay
invariant-loop-relay l = AreInners l.site l.class l.relay 0 l.inners.items

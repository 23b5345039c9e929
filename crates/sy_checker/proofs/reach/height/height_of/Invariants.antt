use Rattle.std.proofs.Common.{take}
use Rattle.sy_checker.specs.internal.Loops.{IsHeightOf}
use Rattle.sy_checker.proofs.reach.height.height_of.Given as goal

abbrev pub invariant-loop-hop : goal.invariant-loop-hop
invariant-loop-hop l = IsHeightOf l.ranks (take l.hop-index l.hops) l.most

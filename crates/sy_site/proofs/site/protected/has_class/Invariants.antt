use Rattle.sy_site.specs.internal.Classes.{HasNoneBelow}
use Rattle.sy_site.proofs.site.protected.has_class.Given as goal

abbrev pub invariant-loop-number : goal.invariant-loop-number
invariant-loop-number l = HasNoneBelow l.selector l.number

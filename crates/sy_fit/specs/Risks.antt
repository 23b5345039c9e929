-- What may be wrong of the occurrences that an input's messages may execute.
use Rattle.sy_site.specs.machine.Findings.{Kind}
use Rattle.sy_fit.specs.declared.kinds.Risk.{Risk}
use Rattle.sy_fit.specs.declared.kinds.Risk.TheVariants as risks

-- the kind of finding that shows a risk
abbrev pub kind_of : Risk → Kind
kind_of risks.Post = Kind.InnerQueue
kind_of risks.GivesUp = Kind.GivesUp
kind_of risks.NoTarget = Kind.NoTarget

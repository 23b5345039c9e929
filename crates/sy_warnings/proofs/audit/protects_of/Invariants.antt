use Rattle.std.proofs.Common.{◌≡◌, ◌<◌, true}
use Rattle.sy_wire.specs.declared.class.Class.{Class}
use Rattle.sy_site.specs.Sites.{is_protected}
use Rattle.sy_warnings.proofs.audit.protects_of.Given as goal

abbrev pub invariant-loop-severity : goal.invariant-loop-severity
invariant-loop-severity l = (class : Class) → class.facility ≡ l.facility → class.severity < l.severity → is_protected l.site class ≡ true → ⊥

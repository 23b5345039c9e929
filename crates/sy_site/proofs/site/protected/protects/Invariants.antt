use Rattle.std.proofs.Common.{◌<◌, ℕ, get_or}
use Rattle.sy_site.specs.Sites.{Protection}
use Rattle.sy_site.specs.texts.HasFault.{IsEmpty}
use Rattle.sy_site.proofs.site.protected.protects.Given as goal

abbrev pub invariant-loop-protection : goal.invariant-loop-protection
invariant-loop-protection l = (k : ℕ) (d : Protection) → k < l.protection-index → IsEmpty (get_or l.protections k d).selector

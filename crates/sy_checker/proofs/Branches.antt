-- A site with an input that spare occurrences alone lead to has policy 2.
use Rattle.std.proofs.Common.{◌≡◌, inl, inr}
use Rattle.sy_wire.specs.declared.class.Class.{Class}
use Rattle.sy_site.specs.declared.site.SiteInput.{SiteInput}
use Rattle.sy_site.specs.Sites.{Site}
use Rattle.sy_site.specs.machine.Lawful.{IsLawful}
use Rattle.sy_fit.specs.Fit.{IsBranch}
use Rattle.sy_flows.proofs.Unspared.{reach_firm}

-- so only a site of policy 2 has an input that spare occurrences alone lead to
pub branch_policy : (site : Site) → IsLawful site → (class : Class) (x : SiteInput) → IsBranch site class x → site.policy ≡ 2
branch_policy site law class x branch = elim law.policy [
  | inl one ↦ absurd (branch.rest (reach_firm site one.1 class x branch.reached))
  | inr two ↦ two
]

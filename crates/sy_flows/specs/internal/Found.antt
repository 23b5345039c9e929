-- What is said of inputs that are found.
use Rattle.std.specs.Prelude.{◌≡◌, ◌⊎◌, Contains, List, ◌++◌}
use Rattle.std.specs.List.{IsDistinct}
use Rattle.sy_site.specs.declared.site.SiteInput.{SiteInput}
use Rattle.sy_flows.specs.Members.{same_input}

-- These are put behind the others, each that wasn't there.
pub record Adds (P : SiteInput → Type 0) (old new : List SiteInput) : Type 0 where
  pub more : List SiteInput
  pub whole : new ≡ old ++ more
  pub all : (x : SiteInput) → P x → Contains new x
  pub only : (x : SiteInput) → Contains new x → Contains old x ⊎ P x
  pub distinct : IsDistinct same_input old → IsDistinct same_input new

-- How the instances of what is found are gathered.
use Rattle.std.specs.Prelude.{◌≡◌, ℕ, ◌⊎◌, List, Some, slice_get}
use Rattle.sy_wire.specs.declared.class.Class.{Class}
use Rattle.sy_site.specs.declared.site.SiteInput.{SiteInput}
use Rattle.sy_site.specs.declared.finding.Kind.{Kind}
use Rattle.sy_findings.specs.declared.verdicts.instances.Instance.{Instance}
use Rattle.sy_findings.specs.Instances.{Tells, subject}

-- the instance at this place is of this kind at this input
pub record IsAt (instances : List Instance) (place : ℕ) (input : SiteInput) (k : Kind) : Type 0 where
  pub instance : Instance
  pub stands : slice_get instances place ≡ Some instance
  pub is_of : subject instance ≡ (input, k)

-- The kind at the input is told of these classes, and nothing else is new.
pub record Adds (P : Class → Type 0) (input : SiteInput) (k : Kind) (old new : List Instance) : Type 0 where
  pub kept : (c : Class) (i : SiteInput) (j : Kind) → Tells old c i j → Tells new c i j
  pub all : (c : Class) → P c → Tells new c input k
  pub only : (c : Class) (i : SiteInput) (j : Kind) → Tells new c i j → Tells old c i j ⊎ (P c × (i ≡ input) × (j ≡ k))

-- A sound site is refused for want of memory alone.
use Rattle.std.proofs.Common.{◌≡◌, List, refl}
use Rattle.sy_wire.specs.declared.class.Class.{Class}
use Rattle.sy_site.specs.declared.site.SiteInput.{SiteInput}
use Rattle.sy_site.specs.Sites.{Site}
use Rattle.sy_site.specs.machine.Findings.{IsFinding, Kind, WayRow}
use Rattle.sy_site.specs.machine.Soundness.{IsSound}
use Rattle.sy_site.specs.declared.finding.Refusal.{Refusal}
use Rattle.sy_site.specs.declared.finding.Refusal.TheVariants as refusal
use Rattle.sy_site.specs.Finding.{IsTrueRefusal, kind_of, way_of}

pub memory_alone : (site : Site)
    → ((site : Site) → IsSound site → (class : Class) (way : List WayRow) (input : SiteInput) (kind : Kind) → IsFinding site class way input kind → ⊥)
    → (why : Refusal) → IsTrueRefusal site why → IsSound site → why ≡ refusal.NoMemory
memory_alone site none (refusal.Finding found) is sound =
    absurd (none site sound found.class (way_of found.way) found.input (kind_of found.kind) is)
memory_alone site none refusal.NoMemory is sound = refl

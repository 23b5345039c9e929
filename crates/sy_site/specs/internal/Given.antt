-- The files that a caller gives, and what is refused of one (this profile's own).
use Rattle.std.specs.Prelude.{ℕ, List}
use Rattle.sy_site.specs.declared.texts.files.Refusal.{Refusal}
use Rattle.sy_site.specs.declared.texts.files.Refusal.TheVariants as refusal
use Rattle.sy_site.specs.texts.HasFault.{IsFileFault}

abbrev pub IsRefused : List ℕ → Refusal → Type 0
IsRefused bytes (refusal.Fault f) = IsFileFault bytes f
IsRefused bytes refusal.NoMemory = Unit {0}

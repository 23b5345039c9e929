-- The relays of a text's lines, and what is refused of a line (this profile's own).
use Rattle.std.specs.Prelude.{◌≡◌, ℕ, Bool, false, ◌&&◌, List, ◌++◌, All, Option, Some, None, map}
use Rattle.std.specs.List.{list_any}
use Rattle.std.specs.Str.{bytes_eq}
use Rattle.std.specs.Arc.{arc_value}
use Rattle.sy_rules.specs.PlanValue.{Plan}
use Rattle.sy_rules.specs.Whole.{IsWhole}
use Rattle.sy_site.specs.declared.fault.RelayFault.{RelayFault}
use Rattle.sy_site.specs.declared.fault.SiteFault.{SiteFault}
use Rattle.sy_site.specs.declared.fault.SiteFault.TheVariants as fault
use Rattle.sy_site.specs.declared.site.lookup.Missing.{Missing}
use Rattle.sy_site.specs.declared.site.lookup.Missing.TheVariants as missing
use Rattle.sy_site.specs.declared.site.relay.Relay.{Relay as Kept}
use Rattle.sy_site.specs.declared.texts.reading.Given.{Given}
use Rattle.sy_site.specs.internal.Reading.{line_given}
use Rattle.sy_site.specs.internal.SiteInside.{relay_of}
use Rattle.sy_site.specs.Sites.{Site, plan_at, relay_named}
use Rattle.sy_site.specs.texts.Describes.{AllPaired, AreLines, File, IsRelay, file_named, relay_lines}
use Rattle.sy_site.specs.texts.HasFault.{IsFileFault}
use Rattle.sy_site.specs.texts.Lines.{word_lines}
use Rattle.sy_site.specs.texts.Shapes.{Line, RelayLine, SpareLine}

-- The relay line of this number has no file, or one that is no plan.
pub data IsRefusedRelay (files : List File) (line : RelayLine) (number : ℕ) : SiteFault → Type 0 where
  no_file : file_named files line.file ≡ None → IsRefusedRelay files line number (fault.NoFile number)
  no_plan : (bytes : List ℕ) (why : RelayFault) → file_named files line.file ≡ Some bytes → IsFileFault bytes why
      → IsRefusedRelay files line number (fault.Relay number line.name why)

-- these are the relays of the relay lines of a text
pub record AreRelays (text : List ℕ) (files : List File) (relays : List Kept) : Type 0 where
  pub lines : List Line
  pub are_lines : AreLines (word_lines text) lines
  pub paired : AllPaired (IsRelay files) (relay_lines lines) (map relay_of relays)

-- a relay of a line, with a whole plan
pub record IsWholeRelay (files : List File) (line : RelayLine) (relay : Kept) : Type 0 where
  pub is_relay : IsRelay files line (relay_of relay)
  pub whole : IsWhole (arc_value relay.plan)

-- Behind the earlier ones stands what belongs to these lines.
pub record HasMore {A B : Type 0} (P : A → B → Type 0) (lines : List A) (old new : List B) : Type 0 where
  pub more : List B
  pub new_is : new ≡ old ++ more
  pub paired : AllPaired P lines more

-- No relay has a name, or the one that has it hasn't what is asked of its plan.
abbrev pub IsMissing : Site → List ℕ → (Plan → Option ℕ) → Missing → Type 0
IsMissing site name part missing.Relay = relay_named site.relays name ≡ None
IsMissing site name part missing.Part = (relay : ℕ) × (relay_named site.relays name ≡ Some relay) × (part (plan_at site relay) ≡ None)

-- it is a protect line, and names the action that the spare line names
abbrev pub names_action : Line → SpareLine → Bool
names_action (Line.Protect it) spare = bytes_eq it.relay spare.relay && bytes_eq it.action spare.action
names_action _ spare = false

-- a protect line among those that were read names the action of the spare line
abbrev pub is_protected : List Given → SpareLine → Bool
is_protected found spare = list_any (λ given. names_action (line_given given) spare) found

abbrev pub NoneProtected : List Given → List SpareLine → Type 0
NoneProtected found spares = All (λ spare. is_protected found spare ≡ false) spares

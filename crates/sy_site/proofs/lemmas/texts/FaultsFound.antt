-- Faults that are there, since a line's file, relay, input, archive or action is missing, or since a protect line names a spare action.
use Rattle.std.proofs.Common.{◌≡◌, ℕ, Bool, true, false, ◌==◌, ◌&&◌, List, [], ◌∷◌, map, Some, None, refl, sym, ap, subst, ◌∙◌, inl, inr}
use Rattle.std.proofs.lemmas.Bool.{false≢true}
use Rattle.std.proofs.lemmas.List.Folds.{Any-from_list_any, list_any_at}
use Rattle.std.proofs.lemmas.Slice.Eq.{bytes_eq-Decides}
use Rattle.std.specs.Prelude.{All, Contains}
use Rattle.std.specs.List.{position}
use Rattle.std.specs.Str.{bytes_eq}
use Rattle.sy_site.specs.declared.fault.RelayFault.{RelayFault}
use Rattle.sy_site.specs.declared.fault.SiteFault.{SiteFault}
use Rattle.sy_site.specs.declared.fault.SiteFault.TheVariants as fault
use Rattle.sy_site.specs.Sites.{plan_at, relay_named}
use Rattle.sy_site.specs.texts.Lines.{word_lines}
use Rattle.sy_site.specs.texts.Shapes.{Line, RelayLine, EntryLine, ProtectLine, SpareLine, IsLine, IsProtectLine}
use Rattle.sy_site.specs.texts.Describes.{File, NameOne, file_named, is_archive, protect_lines}
use Rattle.sy_site.specs.texts.HasFault.{HasFault, IsFileFault, IsOf}
use Rattle.sy_site.specs.declared.texts.reading.Given.{Given}
use Rattle.sy_site.specs.internal.Reading.{IsFound, IsLineAt, IsPlaced, line_given}
use Rattle.sy_site.specs.internal.Relays.{AreRelays, IsRefusedRelay, NoneProtected, is_protected, names_action}
use Rattle.sy_site.specs.internal.SiteInside.{site_with, relay_of}
use Rattle.sy_site.proofs.lemmas.texts.Described.{has_plan, unknown_relay}
use Rattle.sy_site.proofs.lemmas.texts.Again.{among_cases, among_first, among_later, none_in}
use Rattle.sy_site.proofs.lemmas.texts.Found.{stands_among}

-- each line that was read is the one of its number
pub all_found : (text : List ℕ) (found : List Given) → All (IsPlaced text) found → All (IsFound text) found
all_found text found placed = λ k d l.
    let p = placed k d l in record { before = p.before; line = p.line; stands = p.stands; number_is = p.number_is; shaped = p.shaped }

pub file_refused : (files : List File) (line : RelayLine) (place : ℕ) (bytes : List ℕ) (why : RelayFault) (name : List ℕ) → name ≡ line.name
    → file_named files line.file ≡ Some bytes → IsFileFault bytes why → IsRefusedRelay files line place (fault.Relay place name why)
file_refused files line place bytes why name same given refused =
    subst (λ n. IsRefusedRelay files line place (fault.Relay place n why)) (sym same) (IsRefusedRelay.no_plan bytes why given refused)

pub relay_refused : (text : List ℕ) (files : List File) (line : RelayLine) (place : ℕ) (f : SiteFault) → IsLineAt text place (Line.Relay line)
    → IsRefusedRelay files line place f → HasFault text files f
relay_refused text files line place f at (IsRefusedRelay.no_file none) = rw at.number_is (HasFault.no_file at.before at.line line at.stands at.shaped none)
relay_refused text files line place f at (IsRefusedRelay.no_plan bytes why given refused) =
    rw at.number_is (HasFault.no_plan at.before at.line line bytes why at.stands at.shaped given refused)

module _ (text : List ℕ) (files : List File) {relays : _} (r : AreRelays text files relays) (place : ℕ) where
  pub entry_unknown : (it : EntryLine) → IsLineAt text place (Line.Entry it) → relay_named (map relay_of relays) it.relay ≡ None
      → HasFault text files (fault.Line place)
  entry_unknown it at none =
      rw at.number_is (HasFault.unknown at.before at.line it.relay at.stands (IsOf.entry it at.shaped) (unknown_relay text files r it.relay none))

  pub protect_unknown : (it : ProtectLine) → IsLineAt text place (Line.Protect it) → relay_named (map relay_of relays) it.relay ≡ None
      → HasFault text files (fault.Line place)
  protect_unknown it at none =
      rw at.number_is (HasFault.unknown at.before at.line it.relay at.stands (IsOf.protect it at.shaped) (unknown_relay text files r it.relay none))

  pub no_entry : (it : EntryLine) → IsLineAt text place (Line.Entry it) → (relay : ℕ) → relay_named (map relay_of relays) it.relay ≡ Some relay
      → position (λ i. i.port == it.port) (plan_at (site_with relays) relay).inputs ≡ None → HasFault text files (fault.NoSuchEntry place)
  no_entry it at relay is none =
      rw at.number_is (HasFault.no_entry at.before at.line it (plan_at (site_with relays) relay) at.stands at.shaped (has_plan text files r it.relay relay is) none)

  pub no_archive : (it : ProtectLine) → IsLineAt text place (Line.Protect it) → (relay : ℕ) → relay_named (map relay_of relays) it.relay ≡ Some relay
      → position (λ a. is_archive a.destination && bytes_eq a.name it.action) (plan_at (site_with relays) relay).actions ≡ None
      → HasFault text files (fault.NoSuchArchive place)
  no_archive it at relay is none =
      rw at.number_is (HasFault.no_archive at.before at.line it (plan_at (site_with relays) relay) at.stands at.shaped (has_plan text files r it.relay relay is) none)

  pub spare_unknown : (it : SpareLine) → IsLineAt text place (Line.Spare it) → relay_named (map relay_of relays) it.relay ≡ None
      → HasFault text files (fault.Line place)
  spare_unknown it at none =
      rw at.number_is (HasFault.unknown at.before at.line it.relay at.stands (IsOf.spare it at.shaped) (unknown_relay text files r it.relay none))

  pub no_action : (it : SpareLine) → IsLineAt text place (Line.Spare it) → (relay : ℕ) → relay_named (map relay_of relays) it.relay ≡ Some relay
      → position (λ a. bytes_eq a.name it.action) (plan_at (site_with relays) relay).actions ≡ None → HasFault text files (fault.NoSuchAction place)
  no_action it at relay is none =
      rw at.number_is (HasFault.no_action at.before at.line it (plan_at (site_with relays) relay) at.stands at.shaped (has_plan text files r it.relay relay is) none)

-- ---- a spare line whose action a protect line names

both_first : (a b : Bool) → (a && b) ≡ true → a ≡ true
both_first true b e = refl
both_first false b e = e

both_second : (a b : Bool) → (a && b) ≡ true → b ≡ true
both_second true b e = e
both_second false b e = absurd (false≢true e)

abbrev pub NamesAs : Line → SpareLine → Type 0
NamesAs line spare = (protect : ProtectLine) × (line ≡ Line.Protect protect) × NameOne protect spare

pub named_by : (line : Line) (spare : SpareLine) → names_action line spare ≡ true → NamesAs line spare
named_by Line.Policy spare e = absurd (false≢true e)
named_by (Line.Relay it) spare e = absurd (false≢true e)
named_by (Line.Entry it) spare e = absurd (false≢true e)
named_by (Line.Spare it) spare e = absurd (false≢true e)
named_by (Line.Outside it) spare e = absurd (false≢true e)
named_by (Line.Protect it) spare e = (
  it,
  refl,
  (
    (bytes_eq-Decides it.relay spare.relay).0 (both_first (bytes_eq it.relay spare.relay) (bytes_eq it.action spare.action) e),
    (bytes_eq-Decides it.action spare.action).0 (both_second (bytes_eq it.relay spare.relay) (bytes_eq it.action spare.action) e),
  ),
)

pub names_it : (it : ProtectLine) (spare : SpareLine) → NameOne it spare → names_action (Line.Protect it) spare ≡ true
names_it it spare same = rw ((bytes_eq-Decides it.relay spare.relay).1 same.0, (bytes_eq-Decides it.action spare.action).1 same.1) refl

pub spare_protected : (text : List ℕ) (files : List File) (place : ℕ) (found : List Given) (it : SpareLine) → IsLineAt text place (Line.Spare it)
    → All (IsFound text) found → is_protected found it ≡ true → HasFault text files (fault.SpareArchive place)
spare_protected text files place found it at all named =
    let any = Any-from_list_any (λ g. names_action (line_given g) it) found named in
    let given : Given = any.1 in
    let by = named_by (line_given given) it any.4 in
    let other : IsFound text given = subst (IsFound text) any.3 (all any.0 given any.2) in
    let shaped : IsProtectLine other.line by.0 = subst (IsLine other.line) by.1 other.shaped in
    rw at.number_is (HasFault.spare_archive at.before at.line it at.stands at.shaped other.line by.0
    (stands_among (word_lines text) other.before other.stands.0 other.line other.stands.1) shaped by.2)

-- a protect line that was read
abbrev pub IsRead : List Given → ProtectLine → Type 0
IsRead found protect = (given : Given) × Contains found given × (line_given given ≡ Line.Protect protect)

read_later : (given : Given) (found : List Given) (protect : ProtectLine) → IsRead found protect → IsRead (given ∷ found) protect
read_later given found protect h = (h.0, among_later given found h.0 h.1, h.2)

read_first : (given : Given) (found : List Given) (protect : ProtectLine) (line : Line) → line_given given ≡ line
    → Contains (protect_lines (line ∷ map line_given found)) protect → (Contains (protect_lines (map line_given found)) protect → IsRead found protect)
    → IsRead (given ∷ found) protect
read_first given found protect Line.Policy is there later = read_later given found protect (later there)
read_first given found protect (Line.Relay it) is there later = read_later given found protect (later there)
read_first given found protect (Line.Entry it) is there later = read_later given found protect (later there)
read_first given found protect (Line.Spare it) is there later = read_later given found protect (later there)
read_first given found protect (Line.Outside it) is there later = read_later given found protect (later there)
read_first given found protect (Line.Protect it) is there later =
    elim (among_cases it (protect_lines (map line_given found)) protect there) [
      | inl same ↦ (given, among_first given found, is ∙ ap Line.Protect same)
      | inr behind ↦ read_later given found protect (later behind)
    ]

protect_read : (found : List Given) (protect : ProtectLine) → Contains (protect_lines (map line_given found)) protect → IsRead found protect
protect_read [] protect there = absurd (none_in protect there)
protect_read (given ∷ found) protect there = read_first given found protect (line_given given) refl there (protect_read found protect)

-- no protect line names the action of a spare line where none was found that does
pub none_named : (found : List Given) (spares : List SpareLine) → NoneProtected found spares → (protect : ProtectLine) (spare : SpareLine)
    → Contains (protect_lines (map line_given found)) protect → Contains spares spare → NameOne protect spare → ⊥
none_named found spares none protect spare there among same =
    let read = protect_read found protect there in
    let given : Given = read.0 in
    let names : names_action (line_given given) spare ≡ true = ap (λ line. names_action line spare) read.2 ∙ names_it protect spare same in
    let found_one : is_protected found spare ≡ true =
    list_any_at (λ g. names_action (line_given g) spare) found read.1.0 given read.1.1 (ap (λ g. names_action (line_given g) spare) read.1.2 ∙ names) in
    let not_one : is_protected found spare ≡ false =
    subst (λ s. is_protected found s ≡ false) among.2 (none among.0 spare among.1) in
    false≢true (sym not_one ∙ found_one)

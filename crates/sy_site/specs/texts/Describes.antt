-- The site that a text and the files of its relays describe (this profile's own).
use Rattle.std.specs.Prelude.{◌≡◌, ℕ, Bool, true, false, ◌&&◌, ◌<◌, ◌≤◌, List, [], ◌∷◌, ◌++◌, length, filter, Contains, Option, Some, None, option_and_then, option_map, if◌then◌else◌, codes}
use Rattle.std.specs.List.{position}
use Rattle.std.specs.Str.{bytes_eq}
use Rattle.sy_wire.specs.declared.class.Class.{Class}
use Rattle.sy_script.specs.declared.tree.Script.{Script}
use Rattle.sy_script.specs.Grammar.{IsScript}
use Rattle.sy_rules.specs.declared.parameters.objects.Destination.{Destination}
use Rattle.sy_rules.specs.declared.parameters.objects.Destination.TheVariants as destination
use Rattle.sy_rules.specs.PlanValue.{IsPlan}
use Rattle.sy_site.specs.Sites.{Site, Relay, SiteInput, SiteAction, Outside, Protection, input_at_port, is_protected, plan_at, relay_named}
use Rattle.sy_site.specs.texts.Lines.{is_skipped, word_lines}
use Rattle.sy_site.specs.texts.Shapes.{Line, RelayLine, EntryLine, ProtectLine, SpareLine, IsLine, policy_line}
use Rattle.sy_site.specs.texts.Files.{BYTES, RELAYS}

-- the most entry lines
abbrev pub ENTRIES : ℕ
ENTRIES = 256

-- the most protect lines
abbrev pub PROTECTIONS : ℕ
PROTECTIONS = 256

-- the most spare lines
abbrev pub SPARES : ℕ
SPARES = 256

-- the most outside lines
abbrev pub OUTSIDES : ℕ
OUTSIDES = 256

-- ---- the lines of a text

-- Each line that is not skipped has a shape, and these are the lines in their order.
pub data AreLines : List (List (List ℕ)) → List Line → Type 0 where
  none : AreLines [] []
  skip : {words : List (List ℕ)} {later : List (List (List ℕ))} {lines : List Line} → is_skipped words ≡ true → AreLines later lines
      → AreLines (words ∷ later) lines
  shaped : {words : List (List ℕ)} {later : List (List (List ℕ))} {it : Line} {lines : List Line} → is_skipped words ≡ false → IsLine words it
      → AreLines later lines
      → AreLines (words ∷ later) (it ∷ lines)

abbrev pub relay_lines : List Line → List RelayLine
relay_lines [] = []
relay_lines (Line.Relay it ∷ later) = it ∷ relay_lines later
relay_lines (_ ∷ later) = relay_lines later

abbrev pub entry_lines : List Line → List EntryLine
entry_lines [] = []
entry_lines (Line.Entry it ∷ later) = it ∷ entry_lines later
entry_lines (_ ∷ later) = entry_lines later

-- those that end in `whole`
abbrev pub whole_lines : List Line → List EntryLine
whole_lines lines = filter (λ it. it.is_whole) (entry_lines lines)

abbrev pub protect_lines : List Line → List ProtectLine
protect_lines [] = []
protect_lines (Line.Protect it ∷ later) = it ∷ protect_lines later
protect_lines (_ ∷ later) = protect_lines later

abbrev pub spare_lines : List Line → List SpareLine
spare_lines [] = []
spare_lines (Line.Spare it ∷ later) = it ∷ spare_lines later
spare_lines (_ ∷ later) = spare_lines later

abbrev pub outside_lines : List Line → List Outside
outside_lines [] = []
outside_lines (Line.Outside it ∷ later) = it ∷ outside_lines later
outside_lines (_ ∷ later) = outside_lines later

-- the policy that these lines set: 2 where the first one is `policy 2`, else 1
abbrev pub policy_of : List Line → ℕ
policy_of (Line.Policy ∷ later) = 2
policy_of _ = 1

-- the first of these lines that isn't skipped
abbrev pub first_line : List (List (List ℕ)) → Option (List (List ℕ))
first_line [] = None
first_line (line ∷ later) = if is_skipped line then first_line later else Some line

-- Behind these lines one of these words has no place: a policy line behind another line, or a spare line where the first line isn't `policy 2`.
pub data IsMisplaced (before : List (List (List ℕ))) : List (List ℕ) → Type 0 where
  policy_behind : (first : List (List ℕ)) (words : List (List ℕ)) → first_line before ≡ Some first → IsMisplaced before (codes "policy" ∷ words)
  spare_without : (words : List (List ℕ)) → (first_line before ≡ Some policy_line → ⊥) → IsMisplaced before (codes "spare" ∷ words)

-- One line gives again what another gave: a name of relay and outside lines, but for two outside lines with two ports; an entry's relay and port; or a
-- protect or spare line word for word.
pub data Repeats : List (List ℕ) → List (List ℕ) → Type 0 where
  same_name : (name : List ℕ) (first second : List (List ℕ)) → Repeats (codes "relay" ∷ name ∷ first) (codes "relay" ∷ name ∷ second)
  same_entry : (relay port : List ℕ) (first second : List (List ℕ)) → Repeats (codes "entry" ∷ relay ∷ port ∷ first) (codes "entry" ∷ relay ∷ port ∷ second)
  same_protection : (words : List (List ℕ)) → Repeats (codes "protect" ∷ words) (codes "protect" ∷ words)
  same_spare : (words : List (List ℕ)) → Repeats (codes "spare" ∷ words) (codes "spare" ∷ words)
  same_receiver : (name host other port : List ℕ) (first second : List (List ℕ))
      → Repeats (codes "outside" ∷ name ∷ host ∷ port ∷ first) (codes "outside" ∷ name ∷ other ∷ port ∷ second)
  outside_relay : (name : List ℕ) (first second : List (List ℕ)) → Repeats (codes "relay" ∷ name ∷ first) (codes "outside" ∷ name ∷ second)
  relay_outside : (name : List ℕ) (first second : List (List ℕ)) → Repeats (codes "outside" ∷ name ∷ first) (codes "relay" ∷ name ∷ second)

-- a line behind these lines gives again what one of them gave
abbrev pub IsDuplicate : List (List (List ℕ)) → List (List ℕ) → Type 0
IsDuplicate before line = (other : List (List ℕ)) × Contains before other × Repeats other line

-- ---- the files of the relays

pub record File : Type 0 where
  pub name : List ℕ
  pub bytes : List ℕ

-- the bytes of the first file of this name
abbrev pub file_named : List File → List ℕ → Option (List ℕ)
file_named [] name = None
file_named (file ∷ later) name = if bytes_eq file.name name then Some file.bytes else file_named later name

-- The relay of a line: its file is a script that has this plan.
pub record IsRelay (files : List File) (line : RelayLine) (relay : Relay) : Type 0 where
  pub bytes : List ℕ
  pub given : file_named files line.file ≡ Some bytes
  pub script : Script
  pub is_script : IsScript bytes script
  pub is_plan : IsPlan script relay.plan
  pub name : relay.name ≡ line.name
  pub host : relay.host ≡ line.host
  pub listens : relay.listens ≡ line.listens

-- ---- entries, archives and spare actions

-- the input of an entry line
abbrev pub entry_of : Site → EntryLine → Option SiteInput
entry_of site line = option_and_then (λ relay. input_at_port site relay line.port) (relay_named site.relays line.relay)

abbrev pub is_archive : Destination → Bool
is_archive (destination.Archive file) = true
is_archive (destination.Forward name port) = false

-- the action of this name, where it writes a file
abbrev pub archive_at : Site → List ℕ → ℕ → Option SiteAction
archive_at site name relay =
    option_map (λ a. record { relay = relay; action = a })
    (position (λ a. is_archive a.destination && bytes_eq a.name name) (plan_at site relay).actions)

-- the archive of these names
abbrev pub archive_named : Site → List ℕ → List ℕ → Option SiteAction
archive_named site relay action = option_and_then (archive_at site action) (relay_named site.relays relay)

-- the archive of a protect line
abbrev pub archive_of : Site → ProtectLine → Option SiteAction
archive_of site line = archive_named site line.relay line.action

-- the action of this name
abbrev pub action_at : Site → List ℕ → ℕ → Option SiteAction
action_at site name relay =
    option_map (λ a. record { relay = relay; action = a }) (position (λ a. bytes_eq a.name name) (plan_at site relay).actions)

-- the action of these names
abbrev pub action_named : Site → List ℕ → List ℕ → Option SiteAction
action_named site relay action = option_and_then (action_at site action) (relay_named site.relays relay)

-- the action of a spare line
abbrev pub action_of : Site → SpareLine → Option SiteAction
action_of site line = action_named site line.relay line.action

abbrev pub IsEntry : Site → EntryLine → SiteInput → Type 0
IsEntry site line entry = entry_of site line ≡ Some entry

pub record IsProtection (site : Site) (line : ProtectLine) (protection : Protection) : Type 0 where
  pub selector : protection.selector ≡ line.selector
  pub archive : archive_of site line ≡ Some protection.archive

abbrev pub IsSpare : Site → SpareLine → SiteAction → Type 0
IsSpare site line action = action_of site line ≡ Some action

-- a protect line and a spare line name one action
abbrev pub NameOne : ProtectLine → SpareLine → Type 0
NameOne protect spare = (protect.relay ≡ spare.relay) × (protect.action ≡ spare.action)

-- ---- the site

-- the lists are of one length, and what stands at one place belongs together
pub data AllPaired {A B : Type 0} (P : A → B → Type 0) : List A → List B → Type 0 where
  none : AllPaired P [] []
  more : {x : A} {y : B} {xs : List A} {ys : List B} → P x y → AllPaired P xs ys → AllPaired P (x ∷ xs) (y ∷ ys)

-- This text and these files describe this site.
pub record Describes (text : List ℕ) (files : List File) (site : Site) : Type 0 where
  pub small : length text ≤ BYTES
  pub lines : List Line
  pub are_lines : AreLines (word_lines text) lines
  pub once : (before later : List (List (List ℕ))) (line : List (List ℕ)) → word_lines text ≡ before ++ line ∷ later → IsDuplicate before line → ⊥
  pub placed : (before later : List (List (List ℕ))) (line : List (List ℕ)) → word_lines text ≡ before ++ line ∷ later → IsMisplaced before line → ⊥
  pub few_relays : length (relay_lines lines) ≤ RELAYS
  pub few_entries : length (entry_lines lines) ≤ ENTRIES
  pub few_protections : length (protect_lines lines) ≤ PROTECTIONS
  pub few_spares : length (spare_lines lines) ≤ SPARES
  pub few_outsides : length (outside_lines lines) ≤ OUTSIDES
  pub policy : site.policy ≡ policy_of lines
  pub relays : AllPaired (IsRelay files) (relay_lines lines) site.relays
  pub entries : AllPaired (IsEntry site) (entry_lines lines) site.entries
  pub whole_entries : AllPaired (IsEntry site) (whole_lines lines) site.whole_entries
  pub protections : AllPaired (IsProtection site) (protect_lines lines) site.protections
  pub spares : AllPaired (IsSpare site) (spare_lines lines) site.spares
  pub outsides : site.outsides ≡ outside_lines lines
  -- no archive that is named is spare
  pub apart : (protect : ProtectLine) (spare : SpareLine) → Contains (protect_lines lines) protect → Contains (spare_lines lines) spare
      → NameOne protect spare → ⊥
  -- there is an entry, and a class that is protected
  pub entered : 0 < length site.entries
  pub class : Class
  pub protected : is_protected site class ≡ true

-- some text and some files describe the site
abbrev pub IsDescribed : Site → Type 0
IsDescribed site = (text : List ℕ) × (files : List File) × Describes text files site

-- a name and bytes that are given, as a file
abbrev pub file : List ℕ → List ℕ → File
file name bytes = record { name = name; bytes = bytes }

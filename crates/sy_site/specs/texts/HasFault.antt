-- That a text, with the files of its relays, has a fault: each fault by itself, with its line, without the order in
-- which faults are looked for (this profile's own). Lines count from 1.
use Rattle.std.specs.Prelude.{◌≡◌, ℕ, ◌+◌, ◌<◌, ◌≤◌, List, ◌∷◌, ◌++◌, length, filter, Contains, Some, None, true, false, ◌&&◌, ◌==◌, codes}
use Rattle.std.specs.List.{position}
use Rattle.std.specs.Str.{bytes_eq}
use Rattle.sy_script.specs.declared.fault.FaultCode.TheVariants as script_code
use Rattle.sy_script.specs.declared.tree.Script.{Script}
use Rattle.sy_script.specs.Faults as script
use Rattle.sy_script.specs.Grammar.{IsScript}
use Rattle.sy_select.specs.Selectors.{holds}
use Rattle.sy_rules.specs.check.FaultsThere as plan
use Rattle.sy_rules.specs.PlanValue.{Plan, IsPlan}
use Rattle.sy_site.specs.declared.fault.RelayFault.{RelayFault}
use Rattle.sy_site.specs.declared.fault.RelayFault.TheVariants as why
use Rattle.sy_site.specs.declared.fault.SiteFault.{SiteFault}
use Rattle.sy_site.specs.declared.fault.SiteFault.TheVariants as fault
use Rattle.sy_site.specs.texts.Lines.{is_kind, is_skipped, word_lines}
use Rattle.sy_site.specs.texts.Shapes.{Line, RelayLine, EntryLine, ProtectLine, SpareLine, IsLine, IsEntryLine, IsProtectLine, IsRelayLine, IsSpareLine}
use Rattle.sy_site.specs.texts.Files.{BYTES, RELAYS}
use Rattle.sy_site.specs.texts.Describes.{ENTRIES, OUTSIDES, PROTECTIONS, SPARES, File, IsDuplicate, IsMisplaced, NameOne, file_named, is_archive}

-- these lines stand before this one
abbrev pub Stands : List ℕ → List (List (List ℕ)) → List (List ℕ) → Type 0
Stands text before line = (later : List (List (List ℕ))) × (word_lines text ≡ before ++ line ∷ later)

abbrev pub number : List (List (List ℕ)) → ℕ
number before = length before + 1

-- the most lines that begin with a word
pub data IsLimit : List ℕ → ℕ → Type 0 where
  relays : IsLimit (codes "relay") RELAYS
  entries : IsLimit (codes "entry") ENTRIES
  protections : IsLimit (codes "protect") PROTECTIONS
  spares : IsLimit (codes "spare") SPARES
  outsides : IsLimit (codes "outside") OUTSIDES

-- a relay line of the text has this name
pub record Names (text name : List ℕ) (it : RelayLine) : Type 0 where
  pub words : List (List ℕ)
  pub there : Contains (word_lines text) words
  pub line : IsRelayLine words it
  pub name_is : it.name ≡ name

-- the relay of this name has this plan
pub record HasPlan (text : List ℕ) (files : List File) (name : List ℕ) (it : Plan) : Type 0 where
  pub line : RelayLine
  pub names : Names text name line
  pub bytes : List ℕ
  pub given : file_named files line.file ≡ Some bytes
  pub script : Script
  pub is_script : IsScript bytes script
  pub is_plan : IsPlan script it

-- the relay that an entry, protect or spare line names
pub data IsOf : List (List ℕ) → List ℕ → Type 0 where
  entry : {words : List (List ℕ)} (it : EntryLine) → IsEntryLine words it → IsOf words it.relay
  protect : {words : List (List ℕ)} (it : ProtectLine) → IsProtectLine words it → IsOf words it.relay
  spare : {words : List (List ℕ)} (it : SpareLine) → IsSpareLine words it → IsOf words it.relay

-- no class is in a set
abbrev pub IsEmpty : List ℕ → Type 0
IsEmpty sets = (f s : ℕ) → f < 24 → s < 8 → holds sets f s ≡ false

-- A relay's file is no script, or a script without a plan, with this fault. (That memory ran out is no fault of a file.)
abbrev pub IsFileFault : List ℕ → RelayFault → Type 0
IsFileFault bytes (why.Script f) = script.Stands bytes f × (f.code ≡ script_code.NoMemory → ⊥)
IsFileFault bytes (why.Plan f) = (s : Script) × IsScript bytes s × plan.HasFault s f

pub data HasFault (text : List ℕ) (files : List File) : SiteFault → Type 0 where
  -- 51: the text is too long
  too_long : BYTES < length text → HasFault text files (fault.Line 1)
  -- a line has none of the six shapes
  no_shape : (before : List (List (List ℕ))) (line : List (List ℕ)) → Stands text before line → is_skipped line ≡ false → ((it : Line)
      → IsLine line it → ⊥)
      → HasFault text files (fault.Line (number before))
  -- a line is one more than the most of its kind
  too_many : (before : List (List (List ℕ))) (line : List (List ℕ)) (kind : List ℕ) (most : ℕ) → Stands text before line → IsLimit kind most
      → is_kind kind line ≡ true
      → most ≤ length (filter (is_kind kind) before) → HasFault text files (fault.Line (number before))
  -- a policy line stands behind another line, or a spare line in a text that doesn't begin with `policy 2`
  misplaced : (before : List (List (List ℕ))) (line : List (List ℕ)) → Stands text before line → IsMisplaced before line
      → HasFault text files (fault.Line (number before))
  -- an entry, protect or spare line names a relay that is not there
  unknown : (before : List (List (List ℕ))) (line : List (List ℕ)) (name : List ℕ) → Stands text before line → IsOf line name
      → ((it : RelayLine) → Names text name it → ⊥)
      → HasFault text files (fault.Line (number before))
  -- 52
  duplicate : (before : List (List (List ℕ))) (line : List (List ℕ)) → Stands text before line → IsDuplicate before line
      → HasFault text files (fault.Duplicate (number before))
  -- 53
  no_file : (before : List (List (List ℕ))) (line : List (List ℕ)) (it : RelayLine) → Stands text before line → IsRelayLine line it
      → file_named files it.file ≡ None
      → HasFault text files (fault.NoFile (number before))
  -- 54
  no_entry : (before : List (List (List ℕ))) (line : List (List ℕ)) (it : EntryLine) (p : Plan) → Stands text before line
      → IsEntryLine line it → HasPlan text files it.relay p
      → position (λ i. i.port == it.port) p.inputs ≡ None → HasFault text files (fault.NoSuchEntry (number before))
  -- 55
  no_archive : (before : List (List (List ℕ))) (line : List (List ℕ)) (it : ProtectLine) (p : Plan) → Stands text before line → IsProtectLine line it
      → HasPlan text files it.relay p → position (λ a. is_archive a.destination && bytes_eq a.name it.action) p.actions ≡ None
      → HasFault text files (fault.NoSuchArchive (number before))
  -- 56: there is no entry line, or no protect line's selector has a class
  not_entered : ((line : List (List ℕ)) → Contains (word_lines text) line → is_kind (codes "entry") line ≡ false)
      → HasFault text files fault.NothingProtected
  not_protected : ((line : List (List ℕ)) (it : ProtectLine) → Contains (word_lines text) line → IsProtectLine line it → IsEmpty it.selector)
      → HasFault text files fault.NothingProtected
  -- 57
  no_plan : (before : List (List (List ℕ))) (line : List (List ℕ)) (it : RelayLine) (bytes : List ℕ) (f : RelayFault) → Stands text before line
      → IsRelayLine line it → file_named files it.file ≡ Some bytes → IsFileFault bytes f
      → HasFault text files (fault.Relay (number before) it.name f)
  -- 59
  no_action : (before : List (List (List ℕ))) (line : List (List ℕ)) (it : SpareLine) (p : Plan) → Stands text before line → IsSpareLine line it
      → HasPlan text files it.relay p → position (λ a. bytes_eq a.name it.action) p.actions ≡ None
      → HasFault text files (fault.NoSuchAction (number before))
  -- 60: a protect line names the action
  spare_archive : (before : List (List (List ℕ))) (line : List (List ℕ)) (it : SpareLine) → Stands text before line → IsSpareLine line it
      → (other : List (List ℕ)) (naming : ProtectLine) → Contains (word_lines text) other → IsProtectLine other naming → NameOne naming it
      → HasFault text files (fault.SpareArchive (number before))

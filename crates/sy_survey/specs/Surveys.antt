-- What is said of a configuration of rsyslogd in which nothing is found (this profile's own).
use Rattle.std.specs.Prelude.{◌≡◌, ℕ, ◌+◌, ◌<◌, Bool, true, false, List, [], ◌∷◌, ◌++◌, Option, None, Some, All, codes, flat_map, length, slice_get, IfSome}
use Rattle.std.specs.Fmt.{decimal}
use Rattle.sy_fleet_text.specs.Texts.{IsText}
use Rattle.sy_fleet_text.specs.declared.piece.Piece.{Piece}
use Rattle.sy_fleet.specs.Statements.{AreStatements}
use Rattle.sy_fleet.specs.declared.fleet.Fleet.{Fleet}
use Rattle.sy_fleet.specs.declared.modules.Output.{Output}
use Rattle.sy_fleet.specs.declared.modules.Output.TheVariants as output
use Rattle.sy_site.specs.Sites.{Site}
use Rattle.sy_site.specs.machine.Safety.{AreSafe}
use Rattle.sy_site.specs.machine.Soundness.{IsSound}
use Rattle.sy_site.specs.machine.States.{SiteState}
use Rattle.sy_site.specs.machine.Steps.{Runs, SiteEvent}
use Rattle.sy_site.specs.texts.Describes.{Describes, file}
use Rattle.sy_survey.specs.declared.survey.Host.{Host}
use Rattle.sy_survey.specs.declared.survey.Wanted.{Wanted}
use Rattle.sy_survey.specs.Together.{Together}

-- what keeps messages: a file, and a forward by a connection
abbrev pub keeps : Output → Bool
keeps output.File = true
keeps output.Forward = true
keeps output.Datagram = false
keeps output.Shown = false
keeps output.Changed = false
keeps output.Unknown = false

abbrev pub spare_line : ℕ → List ℕ
spare_line action = codes "spare host a" ++ decimal action ++ codes "\n"

-- The site file by which messages of these classes that come in at one input are to come to one action of the plan, while these are
-- spare.
abbrev pub site_text : List ℕ → ℕ → ℕ → List ℕ → List ℕ
site_text selector input action spares =
    (codes "policy 2\nrelay host plan\nentry host " ++ decimal (10001 + input) ++ codes "\nprotect " ++ selector ++ codes " host a" ++ decimal action
    ++ codes "\n") ++ flat_map spare_line spares

-- There is a file or a forward to which the messages of an input surely come, whatever becomes of some others: in each run of that
-- site they are written there, or held where they head there.
pub record IsKept (fleet : Fleet) (selector : List ℕ) (input : ℕ) : Type 0 where
  pub action : ℕ
  pub spares : List ℕ
  pub keeps : IfSome (slice_get fleet.actions.items action) (λ it. keeps it.output ≡ true)
  pub site : Site
  pub is_site : Describes (site_text selector input action spares) (file (codes "plan") fleet.plan.items ∷ []) site
  pub sound : IsSound site
  pub safe : (events : List SiteEvent) (state : SiteState) → Runs site events state → AreSafe site state

-- The whole text is read, and each of its pieces is in the plan, taken for granted or without effect.
pub record IsRead (text : List ℕ) (fleet : Fleet) : Type 0 where
  pub pieces : List Piece
  pub is_text : IsText text pieces
  pub statements : AreStatements pieces fleet.statements.items

-- The text is read, and what comes in at each input is kept.
pub record AreKept (selector text : List ℕ) : Type 0 where
  pub fleet : Fleet
  pub is_read : IsRead text fleet
  pub kept : (input : ℕ) → input < length fleet.inputs.items → IsKept fleet selector input

-- The same of what is put together of a text and the files of the host that it includes.
pub record AreKeptTogether {F : Type 0} (bytes_of : F → List ℕ → Option (List ℕ)) (files : F) (selector text : List ℕ) : Type 0 where
  pub whole : List ℕ
  pub is_whole : Together bytes_of files text whole
  pub kept : AreKept selector whole

-- What is kept of a host whose configuration has this text: read by itself, or together with what it includes.
abbrev pub IsKeptBy : {F A : Type 0} → (F → List ℕ → Option (List ℕ)) → F → Option A → List ℕ → List ℕ → Type 0
IsKeptBy bytes_of files None selector text = AreKept selector text
IsKeptBy bytes_of files (Some root) selector text = AreKeptTogether bytes_of files selector text

-- the same where the bytes of its configuration are known
abbrev pub IsKeptHost : {F : Type 0} → (F → List ℕ → Option (List ℕ)) → F → List ℕ → Host → Type 0
IsKeptHost bytes_of files selector host =
    (text : List ℕ) → bytes_of files host.file.now ≡ Some text → IsKeptBy bytes_of files host.root selector text

-- the same of each host
abbrev pub AreKeptIn : {F : Type 0} → (F → List ℕ → Option (List ℕ)) → F → Wanted → Type 0
AreKeptIn bytes_of files wanted = All (IsKeptHost bytes_of files wanted.selector.now) wanted.hosts.now

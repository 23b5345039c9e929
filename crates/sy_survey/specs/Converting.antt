-- What is said of a relay's configuration that was made of one of rsyslogd, where nothing that may lose messages was left out (this profile's own).
use Rattle.std.specs.Prelude.{◌≡◌, ℕ, ◌++◌, false, List, [], ◌∷◌, Option, None, Some, codes, flat_map}
use Rattle.std.specs.Fmt.{decimal}
use Rattle.std.specs.List.{list_any}
use Rattle.sy_script.specs.Grammar.{IsScript}
use Rattle.sy_script.specs.declared.tree.Script.{Script}
use Rattle.sy_rules.specs.declared.parts.Input.{Input}
use Rattle.sy_rules.specs.PlanValue.{IsPlan, Plan}
use Rattle.sy_fleet_text.specs.Texts.{IsText}
use Rattle.sy_fleet_text.specs.declared.piece.Piece.{Piece}
use Rattle.sy_fleet.specs.Statements.{AreStatements}
use Rattle.sy_fleet.specs.declared.fleet.Fleet.{Fleet}
use Rattle.sy_conversion.specs.Conversions.{AreTold, loses}
use Rattle.sy_conversion.specs.declared.fates.Told.{Told}
use Rattle.sy_site.specs.Sites.{Site}
use Rattle.sy_site.specs.machine.Soundness.{IsSound}
use Rattle.sy_site.specs.texts.Describes.{Describes, file}
use Rattle.sy_host_parameters.specs.HostParameters.{IsMachineText}
use Rattle.sy_survey.specs.Together.{Together}

abbrev pub entry_line : Input → List ℕ
entry_line input = codes "entry host " ++ decimal input.port ++ codes "\n"

-- the site file by which messages of these classes that come in at any of these inputs are to come to an archive
abbrev pub site_text : List ℕ → List Input → List ℕ → List ℕ
site_text selector inputs archive =
    (codes "relay host plan\n" ++ flat_map entry_line inputs) ++ (codes "protect " ++ selector ++ codes " host " ++ archive ++ codes "\n")

-- a site of this site file and plan is sound
pub record IsSoundSite (site_file plan : List ℕ) : Type 0 where
  pub site : Site
  pub is_site : Describes site_file (file (codes "plan") plan ∷ []) site
  pub sound : IsSound site

-- A site is sound in which a relay has this plan, and its messages of these classes, of all its inputs, are to come to one of its archives.
pub record IsSoundRelay (selector plan : List ℕ) (relay : Plan) : Type 0 where
  pub archive : List ℕ
  pub sound : IsSoundSite (site_text selector relay.inputs archive) plan

-- The whole text is read, each of its statements is told of, and none is left out by which messages may be lost.
pub record IsToldWhole (text : List ℕ) : Type 0 where
  pub fleet : Fleet
  pub pieces : List Piece
  pub is_text : IsText text pieces
  pub statements : AreStatements pieces fleet.statements.items
  pub told : List Told
  pub are_told : AreTold pieces fleet.statements.items told
  pub none_lost : list_any (λ t. loses t.fate) told ≡ false

-- the plan of a relay's configuration
pub record IsPlanOf (plan : List ℕ) (relay : Plan) : Type 0 where
  pub script : Script
  pub is_script : IsScript plan script
  pub is_plan : IsPlan script relay

-- A relay reads this text, without its parameters for the host, and the site with that is sound.
pub record IsSoundText (selector text : List ℕ) : Type 0 where
  pub machine : List ℕ
  pub is_machine : IsMachineText text machine
  pub relay : Plan
  pub is_relay : IsPlanOf machine relay
  pub sound : IsSoundRelay selector machine relay

-- This text was written with something behind it, and is such a relay's.
pub record IsRelay (selector text : List ℕ) (IsWritten : List ℕ → Type 0) : Type 0 where
  pub behind : List ℕ
  pub written : IsWritten (text ++ behind)
  pub relay : IsSoundText selector text

-- A relay's configuration is made of all of the text.
pub record IsCarriedOver (selector text : List ℕ) (IsWritten : List ℕ → Type 0) : Type 0 where
  pub told : IsToldWhole text
  pub plan : List ℕ
  pub relay : IsRelay selector plan IsWritten

-- the same of what is put together of a text and the files of the host that it includes
pub record IsCarriedTogether {F : Type 0} (bytes_of : F → List ℕ → Option (List ℕ)) (files : F) (selector text : List ℕ) (IsWritten : List ℕ → Type 0)
    : Type 0 where
  pub whole : List ℕ
  pub is_whole : Together bytes_of files text whole
  pub carried : IsCarriedOver selector whole IsWritten

abbrev pub IsCarriedBy : {F A : Type 0} → (F → List ℕ → Option (List ℕ)) → F → Option A → List ℕ → List ℕ → (List ℕ → Type 0) → Type 0
IsCarriedBy bytes_of files None selector text IsWritten = IsCarriedOver selector text IsWritten
IsCarriedBy bytes_of files (Some root) selector text IsWritten = IsCarriedTogether bytes_of files selector text IsWritten

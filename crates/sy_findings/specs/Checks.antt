-- What is said of a site that is judged: that it is accepted, its certificate, a finding, all that is found (this profile's own).
use Rattle.std.specs.Prelude.{◌≡◌, ℕ, Bool, true, false, ◌⊎◌, List, [], ◌∷◌, ◌++◌, Option, Some, None, codes, flat_map, length}
use Rattle.std.specs.Fmt.{decimal}
use Rattle.sy_wire.specs.declared.class.Class.{Class}
use Rattle.sy_rules.specs.Whole.{name_at, owner_at}
use Rattle.sy_rules.specs.declared.lists.occurrence.Occurrence.{Occurrence}
use Rattle.sy_rules.specs.declared.lists.occurrence.Occurrence.TheVariants as occurrence
use Rattle.sy_site.specs.Sites.{Site, plan_at}
use Rattle.sy_site.specs.machine.Safety.{AreSafe}
use Rattle.sy_site.specs.machine.Soundness.{IsSound}
use Rattle.sy_site.specs.machine.States.{SiteState}
use Rattle.sy_site.specs.machine.Steps.{Runs, SiteEvent}
use Rattle.sy_site.specs.Finding.{IsTrueFinding, words}
use Rattle.sy_site.specs.Names.{action_name, name_of}
use Rattle.sy_site.specs.declared.finding.Finding.{Finding}
use Rattle.sy_site.specs.declared.finding.Kind.{Kind}
use Rattle.sy_site.specs.declared.finding.Kind.TheVariants as kind
use Rattle.sy_site.specs.declared.finding.WayRow.{WayRow}
use Rattle.sy_cert.specs.CertificateValue.{Certificate}
use Rattle.sy_cert.specs.Rows.{IsCertificate, text}
use Rattle.sy_fit.specs.Claims.{RanksStayFalling, StayConfined, StayWrittenOrHead}
use Rattle.sy_fit.specs.Fit.{AreProtected, IsFitFor}
use Rattle.sy_checker.specs.declared.kinds.groups.Group.{Group}
use Rattle.sy_findings.specs.declared.verdicts.instances.Instance.{Instance}
use Rattle.sy_findings.specs.Instances.{AreInstances}
use Rattle.sy_report.specs.Printed.{printed}
use Rattle.sy_report.specs.Reports.{line_feed}
use Rattle.sy_report.specs.Texts.{class_text, input_text}

-- ---- what is printed

-- accepted: N protected classes
abbrev pub accepted_line : ℕ → List ℕ
accepted_line count = codes "accepted: " ++ decimal count ++ codes " protected classes" ++ line_feed ∷ []

-- behind the number and the name of an archive that isn't led to: RELAY ACTION
abbrev pub archive_text : Site → Kind → List ℕ
archive_text site (kind.Unmet archive) = codes " " ++ printed (name_of site archive.relay) ++ codes " " ++ printed (action_name site archive)
archive_text site _ = []

-- K KIND
abbrev pub kind_text : Site → Kind → List ℕ
kind_text site kind = words kind ++ archive_text site kind

-- refused: CLASS at RELAY PORT: K KIND
abbrev pub finding_line : Site → Finding → List ℕ
finding_line site found =
    codes "refused: " ++ class_text found.class ++ codes " at " ++ input_text site found.input ++ codes ": " ++ kind_text site found.kind ++ line_feed ∷ []

-- the word for what a list is of
abbrev pub owner_word : Option ℕ → List ℕ
owner_word (Some action) = codes " action "
owner_word None = codes " ruleset "

-- what an occurrence runs or posts to: action ACTION, or ruleset RULESET; of a post to an action's own queue that action
abbrev pub executed_text : Site → ℕ → Occurrence → List ℕ
executed_text site relay (occurrence.Run action) = codes " action " ++ printed (action_name site (record { relay = relay; action = action }))
executed_text site relay (occurrence.Post list) = owner_word (owner_at (plan_at site relay) list) ++ printed (name_at (plan_at site relay) list)

-- behind a kind, where an occurrence is faulty
abbrev pub occurrence_text : Site → ℕ → Option Occurrence → List ℕ
occurrence_text site relay (Some is) = executed_text site relay is
occurrence_text site relay None = []

-- behind the classes of an instance: at RELAY PORT: K KIND, and the occurrence
abbrev pub instance_text : Site → Instance → List ℕ
instance_text site instance =
    codes " at " ++ input_text site instance.input ++ codes ": " ++ kind_text site instance.kind
    ++ occurrence_text site instance.input.relay instance.occurrence ++ line_feed ∷ []

-- such a line is put behind a text
abbrev pub AppendsLine : Site → Instance → List ℕ → List ℕ → Type 0
AppendsLine site instance old new = (names : List ℕ) × (new ≡ old ++ names ++ instance_text site instance)

-- a line for each instance, which begins with words for its classes, of which nothing is said
abbrev pub AreLines : Site → List Instance → List ℕ → Type 0
AreLines site [] text = text ≡ []
AreLines site (instance ∷ instances) text =
    (names : List ℕ) × (rest : List ℕ) × (text ≡ names ++ instance_text site instance ++ rest) × AreLines site instances rest

-- the same with words for people behind each line, of which nothing is said
abbrev pub AreLinesInWords : Site → List Instance → List ℕ → Type 0
AreLinesInWords site [] text = text ≡ []
AreLinesInWords site (instance ∷ instances) text =
    (names words rest : List ℕ) × (text ≡ names ++ instance_text site instance ++ words ++ rest) × AreLinesInWords site instances rest

--   RELAY PORT by N
abbrev pub way_line : Site → WayRow → List ℕ
way_line site row = codes "  " ++ input_text site row.input ++ codes " by " ++ decimal row.number ++ line_feed ∷ []

-- the finding, and a line for each part of the way
abbrev pub finding_text : Site → Finding → List ℕ
finding_text site found = finding_line site found ++ flat_map (way_line site) found.way

-- ---- what is said of a site

-- So many classes are protected, the site is sound, and no run of it loses a message of one of them but at or after a spare action: their copies are confined, ranks fall along
-- their trails, each message is written or heads there, and is safe.
pub record KeepsAll (site : Site) (count : ℕ) : Type 0 where
  pub classes : List Class
  pub are_protected : AreProtected site classes
  pub count_is : length classes ≡ count
  pub sound : IsSound site
  pub confined : StayConfined site
  pub falling : RanksStayFalling site
  pub written : StayWrittenOrHead site
  pub safe : (events : List SiteEvent) (state : SiteState) → Runs site events state → AreSafe site state

-- what is found in it
pub record SaysFound (site : Site) (text : List ℕ) (is_accepted : Bool) : Type 0 where
  pub found : Finding
  pub is_true : IsTrueFinding site found
  pub text_is : text ≡ finding_text site found
  pub refused : is_accepted ≡ false

-- words, and then a line for each instance
pub record AreTold (site : Site) (instances : List Instance) (text : List ℕ) : Type 0 where
  pub head : List ℕ
  pub lines : List ℕ
  pub text_is : text ≡ head ++ lines
  pub are_lines : AreLines site instances lines

-- words, and then a line for each instance, with words behind it
pub record AreToldInWords (site : Site) (instances : List Instance) (text : List ℕ) : Type 0 where
  pub head : List ℕ
  pub lines : List ℕ
  pub text_is : text ≡ head ++ lines
  pub are_lines : AreLinesInWords site instances lines

-- so are the instances of the groups
pub record IsTally (site : Site) (groups : List Group) (text : List ℕ) : Type 0 where
  pub instances : List Instance
  pub are_instances : AreInstances groups instances
  pub are_told : AreTold site instances text

pub record IsTallyInWords (site : Site) (groups : List Group) (text : List ℕ) : Type 0 where
  pub instances : List Instance
  pub are_instances : AreInstances groups instances
  pub are_told : AreToldInWords site instances text

-- that it keeps all
pub record SaysKept (site : Site) (text : List ℕ) (is_accepted : Bool) : Type 0 where
  pub count : ℕ
  pub keeps : KeepsAll site count
  pub text_is : text ≡ accepted_line count
  pub accepted : is_accepted ≡ true

-- the text is that of this certificate
pub record IsTextOf (bytes : List ℕ) (certificate : Certificate) : Type 0 where
  pub lawful : IsCertificate certificate.version certificate.rows
  pub whole : bytes ≡ text certificate.version certificate.rows

-- a certificate that is fit for it
pub record SaysFit (site : Site) (text : List ℕ) (is_accepted : Bool) : Type 0 where
  pub certificate : Certificate
  pub fit : IsFitFor site certificate
  pub is_text : IsTextOf text certificate
  pub accepted : is_accepted ≡ true

-- what a check says of a site
abbrev pub SaysChecked : Site → List ℕ → Bool → Type 0
SaysChecked site text is_accepted = SaysKept site text is_accepted ⊎ SaysFound site text is_accepted

-- what a making of its certificate says
abbrev pub SaysCertified : Site → List ℕ → Bool → Type 0
SaysCertified site text is_accepted = SaysFit site text is_accepted ⊎ SaysFound site text is_accepted

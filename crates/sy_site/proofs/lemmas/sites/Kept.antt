-- What the type of a site keeps.
use Rattle.std.proofs.Common.{◌≡◌, ℕ, ◌≤◌, Bool, true, ◌==◌, ◌&&◌, List, [], ◌∷◌, length, map, get_or, Option, Some, None, refl, ap, subst, ◌∙◌}
use Rattle.std.specs.Prelude.{Contains, option_and_then, option_map, slice_get}
use Rattle.std.specs.List.{position}
use Rattle.std.specs.Str.{bytes_eq}
use Rattle.std.proofs.lemmas.List.Quantifiers.{position-Some}
use Rattle.std.proofs.lemmas.Option.{slice_get-get_or}
use Rattle.sy_rules.specs.declared.parameters.objects.Destination.{Destination}
use Rattle.sy_rules.specs.declared.parameters.objects.Destination.TheVariants as destination
use Rattle.sy_rules.specs.declared.parameters.settings.FlowControl.TheVariants as control
use Rattle.sy_rules.specs.declared.parts.Action.{Action}
use Rattle.sy_rules.specs.declared.parts.Input.{Input}
use Rattle.sy_rules.specs.Whole.{IsWhole}
use Rattle.sy_site.specs.declared.site.relay.Relay.{Relay as Kept}
use Rattle.sy_site.specs.Sites.{Site, SiteAction, SiteInput, Protection, input_at_port, plan_at, relay_named}
use Rattle.sy_site.specs.machine.Lawful.{IsAction, IsArchive, IsInput, IsLawful}
use Rattle.sy_site.specs.texts.Files.{RELAYS}
use Rattle.sy_site.specs.texts.Shapes.{Line, EntryLine, ProtectLine, RelayLine, SpareLine}
use Rattle.sy_site.specs.texts.Describes.{AllPaired, File, IsEntry, IsProtection, IsSpare, NameOne, archive_at, entry_lines, is_archive, policy_of, protect_lines, relay_lines, spare_lines}
use Rattle.sy_site.specs.internal.Relays.{HasMore, IsWholeRelay}
use Rattle.sy_site.specs.internal.SiteInside.{relay_of}
use Rattle.sy_site.proofs.lemmas.sites.More.{all_paired, all_right, paired_as, paired_lengths, paired_map}
use Rattle.sy_site.proofs.lemmas.sites.Spares.{none_spare, nothing, spare_there}
use Rattle.sy_site.proofs.lemmas.texts.OneSite.{same_archives}
use Rattle.sy_site.proofs.lemmas.texts.Policies.{ByPolicy, site_policy}

no_value : {A : Type 0} {x : A} → None ≡ Some x → ⊥
no_value e = cc

one_value : {A : Type 0} {x y : A} → Some x ≡ Some y → x ≡ y
one_value e = cc

-- ---- entries

no_input : Input
no_input = record { port = 1; flow = control.Off; list = 0; queue = 0; unread_file = None }

input_there : (site : Site) (relay port : ℕ) (found : Option ℕ) → position (λ i. i.port == port) (plan_at site relay).inputs ≡ found → (e : SiteInput)
    → option_map (λ i. record { relay = relay; input = i }) found ≡ Some e → IsInput site e
input_there site relay port None is e none = absurd (no_value none)
input_there site relay port (Some i) is e some =
    let inputs = (plan_at site relay).inputs in
    let at = position-Some (λ (i : Input). i.port == port) inputs i no_input is in
    subst (IsInput site) (one_value some) (record { parts = get_or inputs i no_input; found = slice_get-get_or inputs i no_input at.0 })

pub entry_there : (site : Site) (line : EntryLine) (e : SiteInput) → IsEntry site line e → IsInput site e
entry_there site line e is = go (relay_named site.relays line.relay) is
  where
    go : (found : Option ℕ) → option_and_then (λ relay. input_at_port site relay line.port) found ≡ Some e → IsInput site e
    go None none = absurd (no_value none)
    go (Some relay) some = input_there site relay line.port (position (λ i. i.port == line.port) (plan_at site relay).inputs) refl e some

-- ---- archives

no_action : Action
no_action = record { name = []; destination = destination.Archive []; retry = None; resume_interval = 0 }

archive_is : (site : Site) (relay number : ℕ) (parts : Action) → slice_get (plan_at site relay).actions number ≡ Some parts
    → (d : Destination) → parts.destination ≡ d → is_archive d ≡ true → IsArchive site (record { relay = relay; action = number })
archive_is site relay number parts found (destination.Archive file) is writes_file = record { parts = parts; found = found; file = file; writes = is }
archive_is site relay number parts found (destination.Forward name port) is writes_file = cc

first_holds : (a b : Bool) → (a && b) ≡ true → a ≡ true
first_holds Bool.true b e = refl
first_holds Bool.false b e = e

archive_found : (site : Site) (relay : ℕ) (name : List ℕ) (found : Option ℕ)
    → position (λ a. is_archive a.destination && bytes_eq a.name name) (plan_at site relay).actions ≡ found → (a : SiteAction)
    → option_map (λ a. record { relay = relay; action = a }) found ≡ Some a → IsArchive site a
archive_found site relay name None is a none = absurd (no_value none)
archive_found site relay name (Some n) is a some =
    let actions = (plan_at site relay).actions in
    let at = position-Some (λ (a : Action). is_archive a.destination && bytes_eq a.name name) actions n no_action is in
    let parts : Action = get_or actions n no_action in
    subst (IsArchive site) (one_value some)
    (archive_is site relay n parts (slice_get-get_or actions n no_action at.0) parts.destination refl
    (first_holds (is_archive parts.destination) (bytes_eq parts.name name) at.1))

pub archive_there : (site : Site) (line : ProtectLine) (p : Protection) → IsProtection site line p → IsArchive site p.archive
archive_there site line p is = go (relay_named site.relays line.relay) is.archive
  where
    go : (found : Option ℕ) → option_and_then (archive_at site line.action) found ≡ Some p.archive → IsArchive site p.archive
    go None none = absurd (no_value none)
    go (Some relay) some =
        archive_found site relay line.action (position (λ a. is_archive a.destination && bytes_eq a.name line.action) (plan_at site relay).actions) refl p.archive some

-- what protect lines say goes by the relays alone
pub protections_of : (relays site : Site) → site.relays ≡ relays.relays → (lines : List ProtectLine) (protections : List Protection)
    → HasMore (IsProtection relays) lines [] protections → AllPaired (IsProtection site) lines protections
protections_of relays site same lines protections h =
    paired_as (IsProtection relays) (IsProtection site) (λ line p is. record { selector = is.selector; archive = same_archives site relays same line ∙ is.archive })
    (all_paired (IsProtection relays) lines protections h)

-- ---- the whole

pub few_relays : (files : List File) (lines : List RelayLine) (relays : List Kept) → HasMore (IsWholeRelay files) lines [] relays → length lines ≤ RELAYS
    → length relays ≤ RELAYS
few_relays files lines relays h few = rw (paired_lengths (IsWholeRelay files) (all_paired (IsWholeRelay files) lines relays h)) at few

length_same : {A B : Type 0} (f : A → B) (xs : List A) → length (map f xs) ≡ length xs
length_same f [] = refl
length_same f (x ∷ xs) = ap ℕ.suc (length_same f xs)

-- What is read of the lines of a text: the relays, and what the other lines name.
pub record IsRead (files : List File) (lines : List Line) (kept : List Kept) (site : Site) : Type 0 where
  pub relays_are : site.relays ≡ map relay_of kept
  pub relays : HasMore (IsWholeRelay files) (relay_lines lines) [] kept
  pub few : length (relay_lines lines) ≤ RELAYS
  pub by_policy : ByPolicy lines
  pub policy : site.policy ≡ policy_of lines
  pub entries : AllPaired (IsEntry site) (entry_lines lines) site.entries
  pub protections : AllPaired (IsProtection site) (protect_lines lines) site.protections
  pub spares : AllPaired (IsSpare site) (spare_lines lines) site.spares
  pub apart : (protect : ProtectLine) (spare : SpareLine) → Contains (protect_lines lines) protect → Contains (spare_lines lines) spare
      → NameOne protect spare → ⊥

action_there : (site : Site) (line : SpareLine) (a : SiteAction) → IsSpare site line a → IsAction site a
action_there site line a is = record { parts = get_or (plan_at site a.relay).actions a.action nothing; found = spare_there site line a is }

pub lawful : (files : List File) (lines : List Line) (relays : List Kept) (site : Site) → IsRead files lines relays site → IsLawful site
lawful files lines relays site h = record {
  policy = site_policy site lines h.by_policy h.policy h.spares;
  few = rw (h.relays_are, length_same relay_of relays) (few_relays files (relay_lines lines) relays h.relays h.few);
  plans =
      rw h.relays_are
      (all_right (λ line relay. IsWhole relay.plan) (λ relay. IsWhole relay.plan) (λ line relay w. w)
      (paired_map (IsWholeRelay files) relay_of (λ line relay. IsWhole relay.plan) (λ line relay w. w.whole)
      (all_paired (IsWholeRelay files) (relay_lines lines) relays h.relays)));
  entries = all_right (IsEntry site) (IsInput site) (entry_there site) h.entries;
  archives = all_right (IsProtection site) (λ p. IsArchive site p.archive) (archive_there site) h.protections;
  spares = all_right (IsSpare site) (IsAction site) (action_there site) h.spares;
  spare_archives = none_spare site (protect_lines lines) (spare_lines lines) h.protections h.spares h.apart;
}

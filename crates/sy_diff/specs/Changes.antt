-- What is lost from one site to another (this profile's own). Parts of two sites are the same where they have the same names: an input its relay's and its
-- port, an action its relay's and its own. A relay may have got another name.
use Rattle.std.specs.Prelude.{◌≡◌, ℕ, Bool, true, false, ◌==◌, ◌&&◌, not, List, [], ◌∷◌, Option, Some, None, Contains, filter, if◌then◌else◌}
use Rattle.std.specs.List.{list_any}
use Rattle.std.specs.Str.{bytes_eq}
use Rattle.sy_wire.specs.declared.class.Class.{Class}
use Rattle.sy_rules.specs.Whole.{name_at}
use Rattle.sy_rules.specs.declared.lists.occurrence.Occurrence.{Occurrence}
use Rattle.sy_rules.specs.declared.lists.occurrence.Occurrence.TheVariants as occurrence
use Rattle.sy_site.specs.Sites.{Site, archives, is_whole, plan_at}
use Rattle.sy_site.specs.Finding.{number}
use Rattle.sy_site.specs.Names.{action_name, name_of, port_of}
use Rattle.sy_site.specs.declared.finding.Kind.{Kind}
use Rattle.sy_site.specs.declared.finding.Kind.TheVariants as kind
use Rattle.sy_site.specs.declared.site.SiteAction.{SiteAction}
use Rattle.sy_site.specs.declared.site.SiteInput.{SiteInput}
use Rattle.sy_checker.specs.Survey.{IsSurvey}
use Rattle.sy_checker.specs.declared.kinds.groups.Group.{Group}
use Rattle.sy_findings.specs.Instances.{AreInstances}
use Rattle.sy_findings.specs.declared.verdicts.instances.Instance.{Instance}
use Rattle.sy_diff.specs.declared.same.Change.{Change}
use Rattle.sy_diff.specs.declared.same.Rename.{Rename}

-- ---- what is the same

-- the name that a relay of the old site has in the new one
abbrev pub renamed : List Rename → List ℕ → List ℕ
renamed [] name = name
renamed (rename ∷ later) name = if bytes_eq rename.before.now name then rename.after.now else renamed later name

abbrev pub is_same_relay : Change → ℕ → ℕ → Bool
is_same_relay change before after = bytes_eq (renamed change.renames.now (name_of change.old.now before)) (name_of change.new.now after)

abbrev pub is_same_input : Change → SiteInput → SiteInput → Bool
is_same_input change before after =
    is_same_relay change before.relay after.relay && port_of change.old.now before == port_of change.new.now after

abbrev pub is_same_action : Change → SiteAction → SiteAction → Bool
is_same_action change before after =
    is_same_relay change before.relay after.relay && bytes_eq (action_name change.old.now before) (action_name change.new.now after)

-- of what an entry doesn't lead to, the archive too
abbrev pub is_same_archive : Change → Kind → Kind → Bool
is_same_archive change (kind.Unmet before) (kind.Unmet after) = is_same_action change before after
is_same_archive change _ _ = true

abbrev pub is_same_kind : Change → Kind → Kind → Bool
is_same_kind change before after = number before == number after && is_same_archive change before after

-- what an occurrence of these relays runs or posts to has the same name
abbrev pub is_same_executed : Change → ℕ → ℕ → Occurrence → Occurrence → Bool
is_same_executed change before after (occurrence.Run a) (occurrence.Run b) =
    bytes_eq (action_name change.old.now (record { relay = before; action = a })) (action_name change.new.now (record { relay = after; action = b }))
is_same_executed change before after (occurrence.Post a) (occurrence.Post b) =
    bytes_eq (name_at (plan_at change.old.now before) a) (name_at (plan_at change.new.now after) b)
is_same_executed change before after _ _ = false

abbrev pub is_same_occurrence : Change → ℕ → ℕ → Option Occurrence → Option Occurrence → Bool
is_same_occurrence change before after None None = true
is_same_occurrence change before after (Some a) (Some b) = is_same_executed change before after a b
is_same_occurrence change before after _ _ = false

abbrev pub is_same_instance : Change → Instance → Instance → Bool
is_same_instance change before after =
    is_same_input change before.input after.input && is_same_kind change before.kind after.kind
    && is_same_occurrence change before.input.relay after.input.relay before.occurrence after.occurrence

abbrev pub is_same_class : Class → Class → Bool
is_same_class a b = a.facility == b.facility && a.severity == b.severity

-- ---- what is lost

-- of a class the archives that are named for it in the old site, and not in the new one
abbrev pub lost_archives : Change → Class → List SiteAction
lost_archives change class =
    filter (λ archive. not (list_any (λ other. is_same_action change archive other) (archives change.new.now class))) (archives change.old.now class)

-- the entries of the old site that are none of the new one
abbrev pub lost_entries : Change → List SiteInput
lost_entries change = filter (λ entry. not (list_any (λ other. is_same_input change entry other) change.new.now.entries)) change.old.now.entries

-- whether an entry of the new site is this one, and whole
abbrev pub is_whole_after : Change → SiteInput → SiteInput → Bool
is_whole_after change entry other = is_same_input change entry other && is_whole change.new.now other

-- the whole entries of the old site that are no whole ones of the new one
abbrev pub lost_whole : Change → List SiteInput
lost_whole change =
    filter (λ entry. is_whole change.old.now entry && not (list_any (λ other. is_whole_after change entry other) change.new.now.entries)) change.old.now.entries

-- what is found in the old site tells this instance of the new one of a class
abbrev pub is_told : Change → List Instance → Instance → Class → Bool
is_told change before instance class =
    list_any (λ other. is_same_instance change other instance && list_any (λ it. is_same_class it class) other.classes.items) before

-- the classes of an instance of the new site of which the old one has no such finding
abbrev pub new_classes : Change → List Instance → Instance → List Class
new_classes change before instance = filter (λ class. not (is_told change before instance class)) instance.classes.items

-- ---- what is worse

-- All that is found in a site, occurrence by occurrence.
pub record AreFindings (site : Site) (found : List Instance) : Type 0 where
  pub groups : List Group
  pub survey : IsSurvey site groups
  pub are : AreInstances groups found

-- Of each finding of the new site there is one of the old one: of the same class, at the same input, of the same kind.
pub record WasFoundBefore (change : Change) : Type 0 where
  pub before : List Instance
  pub after : List Instance
  pub are_before : AreFindings change.old.now before
  pub are_after : AreFindings change.new.now after
  pub same : (instance : Instance) → Contains after instance → (class : Class) → Contains instance.classes.items class
      → is_told change before instance class ≡ true

-- Each archive of each class, each entry and each whole entry is there still, and whatever is found in the new site is found in the old one.
pub record IsNoWorse (change : Change) : Type 0 where
  pub archives_kept : (class : Class) (archive : SiteAction) → Contains (archives change.old.now class) archive
      → (other : SiteAction) × Contains (archives change.new.now class) other × (is_same_action change archive other ≡ true)
  pub entries_kept : (entry : SiteInput) → Contains change.old.now.entries entry
      → (other : SiteInput) × Contains change.new.now.entries other × (is_same_input change entry other ≡ true)
  pub whole_kept : (entry : SiteInput) → Contains change.old.now.entries entry → is_whole change.old.now entry ≡ true
      → (other : SiteInput) × Contains change.new.now.entries other × (is_same_input change entry other ≡ true) × (is_whole change.new.now other ≡ true)
  pub found_before : WasFoundBefore change

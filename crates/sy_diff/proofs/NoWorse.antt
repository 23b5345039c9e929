-- What an empty comparison shows.
use Rattle.std.proofs.Common.{◌≡◌, true, not, List, [], ◌∷◌, refl, sym, subst, arith, ◌&&◌, ◌∙◌}
use Rattle.std.specs.Prelude.{Contains}
use Rattle.std.specs.List.{list_all, list_any}
use Rattle.sy_wire.specs.declared.class.Class.{Class}
use Rattle.sy_site.specs.declared.site.SiteAction.{SiteAction}
use Rattle.sy_site.specs.declared.site.SiteInput.{SiteInput}
use Rattle.sy_site.specs.Sites.{Site, archives, asks_for, is_protected, is_whole}
use Rattle.sy_site.specs.machine.Findings.{IsFinding, Kind as AnyKind, WayRow}
use Rattle.sy_site.specs.machine.Lawful.{IsLawful}
use Rattle.sy_site.specs.machine.Soundness.{IsSound}
use Rattle.sy_site.proofs.lemmas.sites.Archives.{named}
use Rattle.sy_checker.specs.declared.kinds.groups.Group.{Group}
use Rattle.sy_checker.proofs.Reporting.{none_sound, sound_none}
use Rattle.sy_findings.specs.declared.verdicts.instances.Instance.{Instance}
use Rattle.sy_diff.specs.Changes.{IsNoWorse, WasFoundBefore, is_same_action, is_same_class, is_same_input, is_same_instance, is_told, is_whole_after, lost_archives, new_classes}
use Rattle.sy_diff.specs.Comparisons.{AreLostArchives, IsComparison, archives_in, is_empty as is_empty_comparison, is_nothing, with_classes}
use Rattle.sy_diff.specs.declared.comparison.Comparison.{Comparison}
use Rattle.sy_diff.specs.declared.same.Change.{Change}
use Rattle.sy_diff.proofs.Lists.{any_there, both, each_nothing, is_empty, none_passes, not_false, second, some_passes}

-- ---- what is kept

protected : (site : Site) (class : Class) (archive : SiteAction) → Contains (archives site class) archive → is_protected site class ≡ true
protected site class archive there =
    let it = named class [] site.protections archive there in
    some_passes (λ p. asks_for p class) site.protections it.0 it.1 it.2

kept_archive : (change : Change) (it : Comparison) (are : AreLostArchives change it.archives.items)
    → list_all (λ lost. is_nothing lost.archives.items) it.archives.items ≡ true
    → (class : Class) (archive : SiteAction) → Contains (archives change.old.now class) archive
    → (other : SiteAction) × Contains (archives change.new.now class) other × (is_same_action change archive other ≡ true)
kept_archive change it are none class archive there =
    let listed = (are.protected.member class).1 (protected change.old.now class archive there) in
    let lost = each_nothing (λ seen. seen.1) archives_in (λ class. (class, lost_archives change class)) it.archives.items are.classes are.are none class listed in
    let kept = none_passes (λ a. not (list_any (λ other. is_same_action change a other) (archives change.new.now class))) (archives change.old.now class) lost archive there in
    any_there (λ other. is_same_action change archive other) (archives change.new.now class) (not_false (list_any (λ other. is_same_action change archive other) (archives change.new.now class)) kept)

kept_entry : (change : Change) (it : Comparison) → IsComparison change it → is_nothing it.entries.items ≡ true
    → (entry : SiteInput) → Contains change.old.now.entries entry
    → (other : SiteInput) × Contains change.new.now.entries other × (is_same_input change entry other ≡ true)
kept_entry change it is none entry there =
    let lost = sym is.entries ∙ is_empty it.entries.items none in
    let kept = none_passes (λ e. not (list_any (λ other. is_same_input change e other) change.new.now.entries)) change.old.now.entries lost entry there in
    any_there (λ other. is_same_input change entry other) change.new.now.entries
    (not_false (list_any (λ other. is_same_input change entry other) change.new.now.entries) kept)

kept_whole : (change : Change) (it : Comparison) → IsComparison change it → is_nothing it.whole.items ≡ true
    → (entry : SiteInput) → Contains change.old.now.entries entry → is_whole change.old.now entry ≡ true
    → (other : SiteInput) × Contains change.new.now.entries other × (is_same_input change entry other ≡ true) × (is_whole change.new.now other ≡ true)
kept_whole change it is none entry there whole =
    let lost = sym is.whole ∙ is_empty it.whole.items none in
    let kept = none_passes (λ e. is_whole change.old.now e && not (list_any (λ other. is_whole_after change e other) change.new.now.entries))
    change.old.now.entries lost entry there in
    let found = any_there (λ other. is_whole_after change entry other) change.new.now.entries
    (second (is_whole change.old.now entry) (list_any (λ other. is_whole_after change entry other) change.new.now.entries) kept whole) in
    let same = both (is_same_input change entry found.0) (is_whole change.new.now found.0) found.2 in
    (found.0, found.1, same.0, same.1)

found_before : (change : Change) (it : Comparison) (is : IsComparison change it)
    → list_all (λ instance. is_nothing instance.classes.items) it.found.items ≡ true
    → (instance : Instance) → Contains is.after instance → (class : Class) → Contains instance.classes.items class
    → is_told change is.before instance class ≡ true
found_before change it is none instance there class among =
    let fresh = each_nothing (λ seen. seen.2) (with_classes (λ x. x.classes.items)) (with_classes (new_classes change is.before))
    it.found.items is.after is.found none instance there in
    not_false (is_told change is.before instance class)
    (none_passes (λ c. not (is_told change is.before instance c)) instance.classes.items fresh class among)

pub no_worse : (change : Change) (it : Comparison) → IsComparison change it → is_empty_comparison it ≡ true → IsNoWorse change
no_worse change it is empty =
    let archives_none = list_all (λ lost. is_nothing lost.archives.items) it.archives.items in
    let found_none = list_all (λ instance. is_nothing instance.classes.items) it.found.items in
    let last = both ((archives_none && is_nothing it.entries.items) && is_nothing it.whole.items) found_none empty in
    let whole = both (archives_none && is_nothing it.entries.items) (is_nothing it.whole.items) last.0 in
    let first = both archives_none (is_nothing it.entries.items) whole.0 in
    record {
      archives_kept = kept_archive change it is.archives first.0;
      entries_kept = kept_entry change it is first.1;
      whole_kept = kept_whole change it is whole.1;
      found_before = record {
        before = is.before;
        after = is.after;
        are_before = is.are_before;
        are_after = is.are_after;
        same = found_before change it is last.1;
      };
    }

-- ---- a new site is sound where the old one is

nothing : (group : Group) → Contains [] group → ⊥
nothing group there = omega (arith, there.1)

none_new : (change : Change) (found : WasFoundBefore change) → found.are_before.groups ≡ [] → found.are_after.groups ≡ []
none_new change found none = go found.are_after.groups refl
  where
    go : (groups : List Group) → found.are_after.groups ≡ groups → groups ≡ []
    go [] is = refl
    go (group ∷ groups) is =
        let there : Contains found.are_after.groups group = subst (λ those. Contains those group) (sym is) (0, omega arith, refl) in
        let class = found.are_after.survey.are_groups.filled group there in
        let tells = found.are_after.are.all class.0 group.input group.kind
        (record { group = group; there = there; is_of = refl; named = class.1 }) in
        let other = any_there (λ o. is_same_instance change o tells.instance && list_any (λ it. is_same_class it class.0) o.classes.items) found.before
        (found.same tells.instance tells.there class.0 tells.named) in
        let same = both (is_same_instance change other.0 tells.instance) (list_any (λ it. is_same_class it class.0) other.0.classes.items) other.2 in
        let its = any_there (λ it. is_same_class it class.0) other.0.classes.items same.1 in
        let names = found.are_before.are.only its.0 other.0.input other.0.kind
        (record { instance = other.0; there = other.1; is_of = refl; named = its.1 }) in
        absurd (nothing names.group (subst (λ those. Contains those names.group) none names.there))

pub stays_sound : (change : Change) → IsLawful change.new.now
    → ((site : Site) → IsSound site → (class : Class) (way : List WayRow) (input : SiteInput) (k : AnyKind) → IsFinding site class way input k → ⊥)
    → IsNoWorse change → IsSound change.old.now → IsSound change.new.now
stays_sound change lawful lacks is sound =
    let found = is.found_before in
    let none = sound_none change.old.now found.are_before.groups found.are_before.survey (lacks change.old.now sound) in
    none_sound change.new.now lawful found.are_after.groups found.are_after.survey (none_new change found none)

-- What a comparison of two sites says (this profile's own).
use Rattle.std.specs.Prelude.{◌≡◌, Bool, true, false, ◌&&◌, List, [], ◌∷◌, Option, map}
use Rattle.std.specs.List.{list_all}
use Rattle.sy_wire.specs.declared.class.Class.{Class}
use Rattle.sy_rules.specs.declared.lists.occurrence.Occurrence.{Occurrence}
use Rattle.sy_site.specs.declared.finding.Kind.{Kind}
use Rattle.sy_site.specs.declared.site.SiteAction.{SiteAction}
use Rattle.sy_site.specs.declared.site.SiteInput.{SiteInput}
use Rattle.sy_fit.specs.Fit.{AreProtected}
use Rattle.sy_findings.specs.declared.verdicts.instances.Instance.{Instance}
use Rattle.sy_diff.specs.Changes.{AreFindings, lost_archives, lost_entries, lost_whole, new_classes}
use Rattle.sy_diff.specs.declared.same.Change.{Change}
use Rattle.sy_diff.specs.declared.comparison.Comparison.{Comparison}
use Rattle.sy_diff.specs.declared.comparison.LostArchives.{LostArchives}

-- ---- the parts

abbrev pub archives_in : LostArchives → Class × List SiteAction
archives_in lost = (lost.class, lost.archives.items)

-- of each class that the old site protects, the archives that are lost
pub record AreLostArchives (change : Change) (lost : List LostArchives) : Type 0 where
  pub classes : List Class
  pub protected : AreProtected change.old.now classes
  pub are : map archives_in lost ≡ map (λ class. (class, lost_archives change class)) classes

-- an instance with these classes
abbrev pub with_classes : (Instance → List Class) → Instance → (SiteInput × Kind) × Option Occurrence × List Class
with_classes classes_of instance = ((instance.input, instance.kind), instance.occurrence, classes_of instance)

-- each of these findings, with the classes of which the old site hasn't it
abbrev pub AreNew : Change → List Instance → List Instance → List Instance → Type 0
AreNew change before after found = map (with_classes (λ it. it.classes.items)) found ≡ map (with_classes (new_classes change before)) after

-- ---- the whole

pub record IsComparison (change : Change) (it : Comparison) : Type 0 where
  pub archives : AreLostArchives change it.archives.items
  pub entries : it.entries.items ≡ lost_entries change
  pub whole : it.whole.items ≡ lost_whole change
  pub before : List Instance
  pub after : List Instance
  pub are_before : AreFindings change.old.now before
  pub are_after : AreFindings change.new.now after
  pub found : AreNew change before after it.found.items

abbrev pub is_nothing : {A : Type 0} → List A → Bool
is_nothing [] = true
is_nothing (x ∷ xs) = false

-- nothing is lost, and nothing new is found
abbrev pub is_empty : Comparison → Bool
is_empty it =
    list_all (λ lost. is_nothing lost.archives.items) it.archives.items && is_nothing it.entries.items && is_nothing it.whole.items
    && list_all (λ instance. is_nothing instance.classes.items) it.found.items

-- Numbers that fit each group of classes fit each class.
use Rattle.std.proofs.Common.{◌≡◌, ◌∙◌, ℕ, Bool, true, false, Option, None, is_some, ◌<◌, ◌≤◌, ◌+◌, ◌*◌, List, [], ◌∷◌, ◌++◌, Some, length, get_or, refl, sym, ap, subst, arith, inl, inr}
use Rattle.std.specs.Prelude.{Contains, ◌⊎◌, slice_get}
use Rattle.std.proofs.lemmas.Bool.{cases_eq, false≢true}
use Rattle.std.proofs.lemmas.List.Elements.{Contains-append_left, Contains-push}
use Rattle.std.proofs.lemmas.Option.{get_or_from_slice_get, slice_get-get_or}
use Rattle.sy_wire.specs.declared.class.Class.{Class}
use Rattle.sy_site.specs.Sites.{Site}
use Rattle.sy_waits.specs.declared.groups.Group.{Group}
use Rattle.sy_waits.specs.declared.places.Of.{Of}
use Rattle.sy_waits.specs.declared.places.Of.TheVariants as of
use Rattle.sy_waits.specs.internal.Fits.{AllFit, AllHaveLeft, ClassFits, RelaysFitBelow}
use Rattle.sy_waits.specs.internal.Groups.{AreGroups, AreGroupsBelow, GroupFits, GroupHasLeft, HasGroup, IsAlike}
use Rattle.sy_waits.proofs.Classes.{all_classes, no_class, one_class_more}
use Rattle.sy_waits.proofs.Marked.{class_fits}

-- ---- groups of all classes

pub no_groups : (site : Site) → AreGroupsBelow site 0 []
no_groups site = no_class (λ class. HasGroup site class [])

pub group_kept : (site : Site) (number : ℕ) (groups : List Group) (class : Class) → 8 * class.facility + class.severity ≡ number
    → HasGroup site class groups → AreGroupsBelow site number groups → AreGroupsBelow site (number + 1) groups
group_kept site number groups class is has before = one_class_more (λ c. HasGroup site c groups) number before class is has

more_groups : (site : Site) (groups : List Group) (group : Group) (class : Class) → HasGroup site class groups
    → HasGroup site class (groups ++ group ∷ [])
more_groups site groups group class has = (has.0, Contains-append_left groups (group ∷ []) has.0 has.1, has.2)

own_group : (site : Site) (class : Class) (group : Group) → group.class ≡ class → IsAlike site class group
own_group site class group of relay low list there marked number is does = rw (of) does

pub group_pushed : (site : Site) (number : ℕ) (groups : List Group) (group : Group) (class : Class)
    → 8 * class.facility + class.severity ≡ number → group.class ≡ class → AreGroupsBelow site number groups
    → AreGroupsBelow site (number + 1) (groups ++ group ∷ [])
group_pushed site number groups group class is of before =
    one_class_more (λ c. HasGroup site c (groups ++ group ∷ [])) number (λ c low. more_groups site groups group c (before c low)) class is
    (group, Contains-push groups group, own_group site class group of)

pub all_groups : (site : Site) (groups : List Group) (most : ℕ) → 192 ≤ most → AreGroupsBelow site most groups → AreGroups site groups
all_groups site groups most high before = all_classes (λ c. HasGroup site c groups) most high before

-- ---- what fits a group

pub alike_fits : (site : Site) (class : Class) (group : Group) (by : Of) (numbers : List ℕ) → IsAlike site class group
    → GroupFits site by numbers group → ClassFits site class by numbers
alike_fits site class group by numbers alike fit =
    class_fits site class by numbers group.marks.items
    (λ relay low. (
      (fit relay low).0,
      λ list there marked number is does.
          (fit relay low).1 list there marked number is (alike relay low list there marked number is does),
    ))

-- what holds of each of the first so many groups
abbrev pub OfFirst : (Group → Type 0) → List Group → ℕ → Type 0
OfFirst P groups most = (k : ℕ) (group : Group) → k < most → slice_get groups k ≡ Some group → P group

pub none_there : {A : Type 0} (found : Option A) (b : Bool) → b ≡ is_some found → b ≡ false → found ≡ None
none_there None b is false_is = refl
none_there (Some x) b is false_is = absurd (false≢true (sym false_is ∙ is))

pub none_of_first : (P : Group → Type 0) (groups : List Group) → OfFirst P groups 0
none_of_first P groups k group low is = absurd (omega (arith, low))

pub one_more_of_first : (P : Group → Type 0) (groups : List Group) (most : ℕ) (group : Group) → group ≡ get_or groups most group
    → OfFirst P groups most → P group → OfFirst P groups (most + 1)
one_more_of_first P groups most group stands before last k other low is = elim (cases_eq k most) [
  | inl same ↦
      let here = subst (λ j. slice_get groups j ≡ Some other) same is in
      subst P (stands ∙ get_or_from_slice_get groups most other group here) last
  | inr apart ↦ before k other (omega (arith, low, apart)) is
]

of_each : (P : Group → Type 0) (groups : List Group) → OfFirst P groups (length groups) → (group : Group) → Contains groups group → P group
of_each P groups first group (k, low, is) = first k group low (slice_get-get_or groups k group low ∙ ap (λ g. Some g) is)

pub each_fits : (site : Site) (groups : List Group) (by : Of) (numbers : List ℕ) → AreGroups site groups
    → OfFirst (GroupFits site by numbers) groups (length groups) → AllFit site by numbers
each_fits site groups by numbers are first class =
    let has = are class in
    alike_fits site class has.0 by numbers has.2 (of_each (GroupFits site by numbers) groups first has.0 has.1)

pub each_has_left : (site : Site) (groups : List Group) → AreGroups site groups → OfFirst (GroupHasLeft site) groups (length groups)
    → AllHaveLeft site
each_has_left site groups are first class =
    let has = are class in
    let left = of_each (GroupHasLeft site) groups first has.0 has.1 in
    (left.0, alike_fits site class has.0 of.Lists left.0 has.2 left.1)

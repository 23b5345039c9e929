-- What messages of some class may execute, class by class and occurrence by occurrence.
use Rattle.std.proofs.Common.{◌≡◌, ℕ, ◌<◌, ◌≤◌, ◌+◌, Bool, true, false, List, [], ◌∷◌, ◌++◌, length, take, get_or, Option, Some, None, is_some, refl, sym, ap, subst, ◌∙◌, arith, inl, inr}
use Rattle.std.specs.Prelude.{Contains, Decides, ◌⊎◌, slice_get}
use Rattle.std.proofs.lemmas.Bool.{cases_eq, false≢true}
use Rattle.std.proofs.lemmas.List.{take_all, take_more}
use Rattle.std.proofs.lemmas.List.Elements.{Contains-push_cases}
use Rattle.sy_wire.specs.declared.class.Class.{Class}
use Rattle.sy_rules.specs.declared.lists.occurrence.Occurrence.{Occurrence}
use Rattle.sy_site.specs.Sites.{Site}
use Rattle.sy_site.specs.machine.Reach.{occurrence_at}
use Rattle.sy_warnings.specs.declared.coming.ClassLists.{ClassLists}
use Rattle.sy_warnings.specs.declared.following.Following.{Following}
use Rattle.sy_warnings.specs.declared.following.SiteList.{SiteList}
use Rattle.sy_warnings.specs.Following.{Comes, IsAsked, IsExecuted}
use Rattle.sy_warnings.specs.internal.Following.{AreOfAll, AreOfClass, IsDone}
use Rattle.sy_warnings.specs.internal.Holding.{Executes, IsExecutedAt, IsExecutedBy}

-- ---- of a class

pub executed_is : (site : Site) (class : Class) (by : Following) (at : SiteList) (number : ℕ) → Comes site class by at → (found : Option Occurrence)
    → IsDone site class by at number found → IsExecutedBy site class by at number found
executed_is site class by at number comes (Some is) does = record { comes = comes; does = does }
executed_is site class by at number comes None none = λ is e. none is e.does

-- ---- of some class

-- none of the first so many classes executes an occurrence
abbrev pub NoneBefore : Site → Following → SiteList → ℕ → List ClassLists → ℕ → Type 0
NoneBefore site by at number all k =
    (lists : ClassLists) → Contains (take k all) lists → (is : Occurrence) → Executes site lists.class by at number is → ⊥

module _ (site : Site) (by : Following) (at : SiteList) (number : ℕ) (all : List ClassLists) where
  pub none_first : NoneBefore site by at number all 0
  none_first lists has is e = let low = has.1 in absurd (omega (arith, low))

  pub none_more : (k : ℕ) (d : ClassLists) → k < length all → NoneBefore site by at number all k
      → ((is : Occurrence) → Executes site (get_or all k d).class by at number is → ⊥) → NoneBefore site by at number all (k + 1)
  none_more k d low before none lists has is e =
      elim (Contains-push_cases (take k all) (get_or all k d) lists (subst (λ l. Contains l lists) (take_more all k d low) has)) [
        | inl earlier ↦ before lists earlier is e
        | inr here ↦ none is (subst (λ (l : ClassLists). Executes site l.class by at number is) (sym here) e)
      ]

  pub none_all : AreOfAll site by all → (k : ℕ) → length all ≤ k → NoneBefore site by at number all k → (is : Occurrence)
      → IsExecuted site by at number is → ⊥
  none_all are k high before is e =
      let lists = are.whole e.class e.asked in
      before lists.0 (subst (λ l. Contains l lists.0) (sym (take_all k all high)) lists.1) is
      (subst (λ c. Executes site c by at number is) (sym lists.2) (record { comes = e.comes; does = e.does }))

-- none of the first so many classes has P
abbrev pub NoClass : (Class → Type 0) → List ClassLists → ℕ → Type 0
NoClass P all k = (lists : ClassLists) → Contains (take k all) lists → P lists.class → ⊥

module _ (P : Class → Type 0) (all : List ClassLists) where
  pub no_class_first : NoClass P all 0
  no_class_first lists has p = let low = has.1 in absurd (omega (arith, low))

  pub no_class_more : (k : ℕ) (d : ClassLists) → k < length all → NoClass P all k → (P (get_or all k d).class → ⊥) → NoClass P all (k + 1)
  no_class_more k d low before none lists has p =
      elim (Contains-push_cases (take k all) (get_or all k d) lists (subst (λ l. Contains l lists) (take_more all k d low) has)) [
        | inl earlier ↦ before lists earlier p
        | inr here ↦ none (subst (λ (l : ClassLists). P l.class) (sym here) p)
      ]

  pub no_class_all : (site : Site) (by : Following) → AreOfAll site by all → (k : ℕ) → length all ≤ k → NoClass P all k → (class : Class)
      → IsAsked site by class → P class → ⊥
  no_class_all site by are k high before class asked p =
      let lists = are.whole class asked in
      before lists.0 (subst (λ l. Contains l lists.0) (sym (take_all k all high)) lists.1) (subst P (sym lists.2) p)

pub some_class : (site : Site) (by : Following) (at : SiteList) (number : ℕ) (lists : ClassLists) (is : Occurrence) → AreOfClass site by lists
    → Executes site lists.class by at number is → IsExecuted site by at number is
some_class site by at number lists is of e = record { class = lists.class; asked = of.asked; comes = e.comes; does = e.does }

-- ---- one occurrence

one_value : {A : Type 0} {x y : A} → Some x ≡ Some y → x ≡ y
one_value e = cc

-- what is executed there, is the occurrence that stands there
pub executed_so : (site : Site) (by : Following) (at : SiteList) (number : ℕ) (stands : Occurrence)
    → occurrence_at site at.relay at.list number ≡ Some stands → (found : Option Occurrence) → IsExecutedAt site by at number found
    → Decides (is_some found) (IsExecuted site by at number stands)
executed_so site by at number stands here (Some is) e =
    let same : is ≡ stands = one_value (sym e.does.found ∙ here) in
    (λ yes. subst (IsExecuted site by at number) same e, λ it. refl)
executed_so site by at number stands here None none = (λ no. absurd (false≢true no), λ it. absurd (none stands it))

-- ---- numbers

-- nothing below a number
abbrev pub NotBelow : (ℕ → Type 0) → ℕ → Type 0
NotBelow P most = (k : ℕ) → k < most → P k → ⊥

pub not_first : (P : ℕ → Type 0) → NotBelow P 0
not_first P k low p = absurd (omega (arith, low))

pub not_more : (P : ℕ → Type 0) (most : ℕ) → NotBelow P most → (P most → ⊥) → NotBelow P (most + 1)
not_more P most before none k low p = elim (cases_eq k most) [
  | inl same ↦ none (subst P same p)
  | inr apart ↦ before k (omega (arith, low, apart)) p
]

-- a test that is false refutes what it decides
pub refuted : (b : Bool) (P : Type 0) → Decides b P → b ≡ false → P → ⊥
refuted b P decides is_false p = false≢true (sym is_false ∙ decides.1 p)

pub yes_so : {P : Type 0} → P → Decides true P
yes_so p = (λ yes. p, λ it. refl)

pub no_so : {P : Type 0} → (P → ⊥) → Decides false P
no_so none = (λ no. absurd (false≢true no), λ it. absurd (none it))

-- by what was found, and that it was
pub there_so : (site : Site) (by : Following) (at : SiteList) (number : ℕ) (stands is : Occurrence)
    → occurrence_at site at.relay at.list number ≡ Some stands → (found : Option Occurrence) → IsExecutedAt site by at number found → found ≡ Some is
    → IsExecuted site by at number stands
there_so site by at number stands is here found e same =
    (executed_so site by at number stands here found e).0 (ap is_some same)

pub none_so : (site : Site) (by : Following) (at : SiteList) (number : ℕ) (found : Option Occurrence) → IsExecutedAt site by at number found
    → found ≡ None → (is : Occurrence) → IsExecuted site by at number is → ⊥
none_so site by at number found e same = subst (IsExecutedAt site by at number) same e

pub some_so : (site : Site) (by : Following) (at : SiteList) (number : ℕ) (found : Option Occurrence) (is : Occurrence)
    → IsExecutedAt site by at number found → found ≡ Some is → IsExecuted site by at number is
some_so site by at number found is e same = subst (IsExecutedAt site by at number) same e

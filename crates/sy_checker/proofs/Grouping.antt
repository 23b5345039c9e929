-- Groups of classes, and what is put to them.
use Rattle.std.proofs.Common.{◌≡◌, ℕ, ◌<◌, ◌≤◌, ◌+◌, List, [], ◌∷◌, ◌++◌, length, get_or, set, map, Some, option_map, refl, sym, ap, subst, ◌∙◌, arith, inl, inr}
use Rattle.std.specs.Prelude.{AllPairs, Contains, ◌⊎◌, slice_get}
use Rattle.std.proofs.lemmas.Bool.{cases_eq}
use Rattle.std.proofs.lemmas.List.{get_or-set_other, get_or-set_same, length-set, map-set, map_push, set-get_or}
use Rattle.std.proofs.lemmas.List.Elements.{Contains-append_left, Contains-push, Contains-push_cases}
use Rattle.std.proofs.lemmas.List.Quantifiers.{all_pairs_push}
use Rattle.std.proofs.lemmas.Option.{get_or_from_slice_get, slice_get-get_or, slice_get-map, slice_get_within}
use Rattle.sy_wire.specs.declared.class.Class.{Class}
use Rattle.sy_site.specs.declared.site.SiteInput.{SiteInput}
use Rattle.sy_site.specs.declared.finding.Kind.{Kind}
use Rattle.sy_checker.specs.declared.kinds.groups.Group.{Group}
use Rattle.sy_checker.specs.Survey.{AreGroups, Names, subject}
use Rattle.sy_checker.specs.internal.Survey.{IsAt, Pushes}
use Rattle.sy_checker.proofs.Ways.{one_value}

-- ---- lists

pub none_there : {A : Type 0} (x : A) → Contains [] x → ⊥
none_there x (k, low, is) = omega (arith, low)

pub lone : {A : Type 0} (x y : A) → Contains (x ∷ []) y → x ≡ y
lone x y (ℕ.zero, low, is) = is
lone x y (ℕ.suc k, low, is) = absurd (omega (arith, low))

pub stands_there : {A : Type 0} (xs : List A) (k : ℕ) (x : A) → slice_get xs k ≡ Some x → Contains xs x
stands_there xs k x is = (k, slice_get_within xs k x is, get_or_from_slice_get xs k x x is)

-- what was there is there still, where it isn't the one that is exchanged
pub is_left : {A : Type 0} (xs : List A) (k : ℕ) (old new x : A) → slice_get xs k ≡ Some old → Contains xs x → Contains (set xs k new) x ⊎ (x ≡ old)
is_left xs k old new x stands (j, low, at) = elim (cases_eq j k) [
  | inl same ↦ inr (sym at ∙ ap (λ i. get_or xs i x) same ∙ get_or_from_slice_get xs k old x stands)
  | inr apart ↦ (let long = length-set xs k new in inl (j, omega (arith, low, long), get_or-set_other xs k j new x apart ∙ at))
]

-- what is there now was, or is the new one
pub was_there : {A : Type 0} (xs : List A) (k : ℕ) (new x : A) → Contains (set xs k new) x → Contains xs x ⊎ (x ≡ new)
was_there xs k new x (j, low, at) =
    let long = length-set xs k new in
    elim (cases_eq j k) [
      | inl same ↦ inr (sym at ∙ ap (λ i. get_or (set xs k new) i x) same ∙ get_or-set_same xs k new x (omega (arith, low, long, same)))
      | inr apart ↦ inl (j, omega (arith, low, long), sym (get_or-set_other xs k j new x apart) ∙ at)
    ]

pub new_there : {A : Type 0} (xs : List A) (k : ℕ) (old new : A) → slice_get xs k ≡ Some old → Contains (set xs k new) new
new_there xs k old new stands =
    let low = slice_get_within xs k old stands in
    let long = length-set xs k new in
    (k, omega (arith, low, long), get_or-set_same xs k new new low)

same_under : {A B : Type 0} (f : A → B) (xs : List A) (k : ℕ) (old new : A) → slice_get xs k ≡ Some old → f new ≡ f old
    → map f (set xs k new) ≡ map f xs
same_under f xs k old new stands same =
    let there = slice_get-map f xs k ∙ ap (λ o. option_map f o) stands in
    map-set f xs k new ∙ ap (set (map f xs) k) (same ∙ sym (get_or_from_slice_get (map f xs) k (f old) (f old) there))
    ∙ set-get_or (map f xs) k (f old)

-- each of the images is that of one
image_of : {A B : Type 0} (f : A → B) (xs : List A) (k : ℕ) (d : B) → k < length (map f xs) → (x : A) × Contains xs x × (f x ≡ get_or (map f xs) k d)
image_of f [] k d low = absurd (omega (arith, low))
image_of f (x ∷ xs) ℕ.zero d low = (x, (0, omega arith, refl), refl)
image_of f (x ∷ xs) (ℕ.suc k) d low =
    let later = image_of f xs k d (omega (arith, low)) in
    let there = later.1 in
    (later.0, (ℕ.suc there.0, omega (arith, there.1), there.2), later.2)

-- ---- a class is put to a group

abbrev Apart : SiteInput × Kind → SiteInput × Kind → Type 0
Apart a b = a ≡ b → ⊥

module _ (groups : List Group) (place : ℕ) (class : Class) (input : SiteInput) (k : Kind) (at : IsAt groups place input k) (new : Group)
    (same : subject new ≡ subject at.group) (classes : new.classes.items ≡ at.group.classes.items ++ class ∷ []) where
  abbrev old : Group
  old = at.group

  has : (c : Class) → Contains (old.classes.items ++ class ∷ []) c → Contains new.classes.items c
  has c there = subst (λ l. Contains l c) (sym classes) there

  here : Contains (set groups place new) new
  here = new_there groups place old new at.stands

  kept : (c : Class) (i : SiteInput) (j : Kind) → Names groups c i j → Names (set groups place new) c i j
  kept c i j n = elim (is_left groups place old new n.group at.stands n.there) [
    | inl there ↦ record { group = n.group; there = there; is_of = n.is_of; named = n.named }
    | inr is ↦ record {
      group = new;
      there = here;
      is_of = same ∙ sym (ap subject is) ∙ n.is_of;
      named = has c (Contains-append_left old.classes.items (class ∷ []) c (subst (λ (g : Group). Contains g.classes.items c) is n.named));
    }
  ]

  only : (c : Class) (i : SiteInput) (j : Kind) → Names (set groups place new) c i j
      → Names groups c i j ⊎ ((c ≡ class) × (i ≡ input) × (j ≡ k))
  only c i j n = elim (was_there groups place new n.group n.there) [
    | inl there ↦ inl (record { group = n.group; there = there; is_of = n.is_of; named = n.named })
    | inr is ↦
        (let of_new : subject new ≡ (i, j) = sym (ap subject is) ∙ n.is_of in
        let listed : Contains (old.classes.items ++ class ∷ []) c =
        subst (λ l. Contains l c) classes (subst (λ (g : Group). Contains g.classes.items c) is n.named) in
        elim (Contains-push_cases old.classes.items class c listed) [
          | inl before ↦ inl (record { group = old; there = stands_there groups place old at.stands; is_of = sym same ∙ of_new; named = before })
          | inr it ↦
              (let one : (i, j) ≡ (input, k) = sym of_new ∙ same ∙ at.is_of in
              inr (sym it, ap (λ (p : SiteInput × Kind). p.0) one, ap (λ (p : SiteInput × Kind). p.1) one))
        ])
  ]

  still : AreGroups groups → AreGroups (set groups place new)
  still are = record {
    apart = subst (AllPairs Apart) (sym (same_under subject groups place old new at.stands same)) are.apart;
    filled = λ g there. elim (was_there groups place new g there) [
      | inl before ↦ are.filled g before
      | inr is ↦ (class, subst (λ (h : Group). Contains h.classes.items class) (sym is) (has class (Contains-push old.classes.items class)))
    ];
  }

  pub joined : Pushes class input k groups (set groups place new)
  joined = record {
    kept = kept;
    pushed = record { group = new; there = here; is_of = same ∙ at.is_of; named = has class (Contains-push old.classes.items class) };
    only = only;
    groups = still;
  }

-- ---- a group is begun

module _ (groups : List Group) (class : Class) (input : SiteInput) (k : Kind) (new : Group) (is : subject new ≡ (input, k))
    (classes : new.classes.items ≡ class ∷ []) (fresh : (g : Group) → Contains groups g → subject g ≡ (input, k) → ⊥) where
  it : Contains new.classes.items class
  it = subst (λ l. Contains l class) (sym classes) (0, omega arith, refl)

  only_it : (c : Class) (i : SiteInput) (j : Kind) → Names (groups ++ new ∷ []) c i j → Names groups c i j ⊎ ((c ≡ class) × (i ≡ input) × (j ≡ k))
  only_it c i j n = elim (Contains-push_cases groups new n.group n.there) [
    | inl before ↦ inl (record { group = n.group; there = before; is_of = n.is_of; named = n.named })
    | inr same ↦
        (let one : (i, j) ≡ (input, k) = sym n.is_of ∙ sym (ap subject same) ∙ is in
        let listed : Contains (class ∷ []) c = subst (λ l. Contains l c) classes (subst (λ (g : Group). Contains g.classes.items c) (sym same) n.named) in
        inr (sym (lone class c listed), ap (λ (p : SiteInput × Kind). p.0) one, ap (λ (p : SiteInput × Kind). p.1) one))
  ]

  apart : AreGroups groups → (n : ℕ) (d : SiteInput × Kind) → n < length (map subject groups) → Apart (get_or (map subject groups) n d) (subject new)
  apart are n d low same =
      let g = image_of subject groups n d low in
      fresh g.0 g.1 (g.2 ∙ same ∙ is)

  still_groups : AreGroups groups → AreGroups (groups ++ new ∷ [])
  still_groups are = record {
    apart = subst (AllPairs Apart) (sym (map_push subject groups new)) (all_pairs_push Apart (map subject groups) (subject new) are.apart (apart are));
    filled = λ g there. elim (Contains-push_cases groups new g there) [
      | inl before ↦ are.filled g before
      | inr same ↦ (class, subst (λ (h : Group). Contains h.classes.items class) same it)
    ];
  }

  pub begun : Pushes class input k groups (groups ++ new ∷ [])
  begun = record {
    kept = λ c i j n. record {
      group = n.group;
      there = Contains-append_left groups (new ∷ []) n.group n.there;
      is_of = n.is_of;
      named = n.named;
    };
    pushed = record { group = new; there = Contains-push groups new; is_of = is; named = it };
    only = only_it;
    groups = still_groups;
  }

-- ---- which group it is

pub same_subject : (g : Group) (input : SiteInput) (k : Kind) → g.input ≡ input → g.kind ≡ k → subject g ≡ (input, k)
same_subject g input k first second = λ i. (first i, second i)

abbrev NoneBefore : List Group → SiteInput → Kind → ℕ → Type 0
NoneBefore groups input k most = (n : ℕ) (g : Group) → n < most → slice_get groups n ≡ Some g → subject g ≡ (input, k) → ⊥

pub none_more : (groups : List Group) (place : ℕ) (it : Group) (input : SiteInput) (k : Kind) → slice_get groups place ≡ Some it
    → (subject it ≡ (input, k) → ⊥) → NoneBefore groups input k place → NoneBefore groups input k (place + 1)
none_more groups place it input k stands not before n g low at same = elim (cases_eq n place) [
  | inl here ↦
      (let there : slice_get groups place ≡ Some g = subst (λ j. slice_get groups j ≡ Some g) here at in
      not (ap subject (one_value (sym stands ∙ there)) ∙ same))
  | inr apart ↦ before n g (omega (arith, low, apart)) at same
]

pub none_at_all : (groups : List Group) (most : ℕ) (input : SiteInput) (k : Kind) → length groups ≤ most → NoneBefore groups input k most
    → (g : Group) → Contains groups g → subject g ≡ (input, k) → ⊥
none_at_all groups most input k all before g (n, low, is) =
    before n g (omega (arith, low, all)) (slice_get-get_or groups n g low ∙ ap (λ z. Some z) is)

-- Marks of places: of inputs, and of lists.
use Rattle.std.proofs.Common.{◌≡◌, ℕ, ◌<◌, ◌≤◌, ◌+◌, ◌*◌, ◌==◌, ◌&&◌, ◌||◌, Bool, true, false, List, [], ◌∷◌, ◌++◌, length, get_or, set, refl, sym, ap, subst, ◌∙◌, arith, inl, inr, eq-eqb}
use Rattle.std.specs.Prelude.{Contains}
use Rattle.std.specs.List.{list_any}
use Rattle.std.proofs.lemmas.Bool.{and_from, cases_eq, false≢true, false_from_ne_true}
use Rattle.std.proofs.lemmas.List.{get_or-set_other, get_or-set_same}
use Rattle.std.proofs.lemmas.List.Recursion.{or_push}
use Rattle.std.proofs.lemmas.List.Elements.{Contains-append_left, Contains-push, Contains-push_cases}
use Rattle.sy_site.specs.declared.site.SiteInput.{SiteInput}
use Rattle.sy_flows.specs.Members.{same_input}
use Rattle.sy_flows.specs.internal.Marks.{AreListed, AreMarked, IsMarkedMore, place_of}
use Rattle.sy_flows.proofs.FoundInputs.{same_is}

pub one_unmarked : (marks : List Bool) (at : ℕ) → get_or (marks ++ false ∷ []) at false ≡ get_or marks at false
one_unmarked [] ℕ.zero = refl
one_unmarked [] (ℕ.suc n) = refl
one_unmarked (x ∷ xs) ℕ.zero = refl
one_unmarked (x ∷ xs) (ℕ.suc n) = one_unmarked xs n

pub marked_at : (old mid new : List Bool) (place : ℕ) → place < length mid → ((at : ℕ) → get_or mid at false ≡ get_or old at false)
    → new ≡ set mid place true → IsMarkedMore old place new
marked_at old mid new place low same is = record {
  has = ap (λ l. get_or l place false) is ∙ get_or-set_same mid place true false low;
  rest = λ at apart. ap (λ l. get_or l at false) is ∙ get_or-set_other mid place at true false apart ∙ same at;
}

-- ---- inputs

pub or_true : (b : Bool) → (b || true) ≡ true
or_true true = refl
or_true false = refl

pub or_false : (b : Bool) → (b || false) ≡ b
or_false true = refl
or_false false = refl

any_more : (inputs : List SiteInput) (x y : SiteInput) → list_any (same_input y) (inputs ++ x ∷ []) ≡ (list_any (same_input y) inputs || same_input y x)
any_more inputs x y = or_push (λ l. list_any (same_input y) l) (same_input y) refl (λ _ _. refl) inputs x

same_place : (x y : SiteInput) → x.input < 64 → y.input < 64 → place_of y ≡ place_of x → same_input y x ≡ true
same_place x y low small same =
    and_from (y.relay == x.relay) (y.input == x.input) (eq-eqb y.relay x.relay (omega (arith, low, small, same)))
    (eq-eqb y.input x.input (omega (arith, low, small, same)))

pub none_marked : AreMarked [] []
none_marked = λ x low. refl

module _ (inputs : List SiteInput) (x : SiteInput) (marks : List Bool) (are : AreMarked inputs marks) where
  -- it has a place
  pub input_marked : (new : List Bool) → x.input < 64 → IsMarkedMore marks (place_of x) new → AreMarked (inputs ++ x ∷ []) new
  input_marked new low is y small = elim (cases_eq (place_of y) (place_of x)) [
    | inl same ↦
        ap (λ p. get_or new p false) same ∙ is.has
        ∙ sym (any_more inputs x y ∙ ap (λ b. list_any (same_input y) inputs || b) (same_place x y low small same)
        ∙ or_true (list_any (same_input y) inputs))
    | inr apart ↦
        is.rest (place_of y) apart ∙ are y small
        ∙ sym (any_more inputs x y
        ∙ ap (λ b. list_any (same_input y) inputs || b) (false_from_ne_true (same_input y x) (λ e. apart (ap place_of (same_is y x e))))
        ∙ or_false (list_any (same_input y) inputs))
  ]

  -- it has none
  pub input_behind : 64 ≤ x.input → AreMarked (inputs ++ x ∷ []) marks
  input_behind high y small =
      are y small
      ∙ sym (any_more inputs x y
      ∙ ap (λ b. list_any (same_input y) inputs || b)
      (false_from_ne_true (same_input y x) (λ e. (let same = ap (λ (z : SiteInput). z.input) (same_is y x e) in omega (arith, same, small, high))))
      ∙ or_false (list_any (same_input y) inputs))

-- ---- lists

pub none_listed : AreListed [] []
none_listed list = (
  λ there. (let (k, low, is) = there in absurd (omega (arith, low))),
  λ e. absurd (false≢true e),
)

pub list_marked : (lists : List ℕ) (list : ℕ) (marks new : List Bool) → AreListed lists marks → IsMarkedMore marks list new
    → AreListed (lists ++ list ∷ []) new
list_marked lists list marks new are is x = elim (cases_eq x list) [
  | inl same ↦ (
    λ there. ap (λ p. get_or new p false) same ∙ is.has,
    λ e. subst (Contains (lists ++ list ∷ [])) (sym same) (Contains-push lists list),
  )
  | inr apart ↦ (
    λ there. elim (Contains-push_cases lists list x there) [
      | inl before ↦ is.rest x apart ∙ (are x).0 before
      | inr here ↦ absurd (apart (sym here))
    ],
    λ e. Contains-append_left lists (list ∷ []) x ((are x).1 (sym (is.rest x apart) ∙ e)),
  )
]

-- What is at the places of lists.
use Rattle.std.proofs.Common.{◌≡◌, ◌<◌, ℕ, suc, zero, Bool, true, false, not, List, [], ◌∷◌, refl, ◌||◌, ◌&&◌, arith, sym, subst, ap, ◌∙◌, cond, length, slice_index_or}
use Rattle.std.specs.Prelude.{Contains, filter, map}
use Rattle.std.proofs.lemmas.Bool.{false≢true}
use Rattle.std.proofs.lemmas.List.Folds.{list_all-map}
use Rattle.std.specs.List.{list_any, list_all}
use Rattle.sy_diff.specs.Comparisons.{is_nothing}

one_behind : {A : Type 0} (x : A) (xs : List A) (y : A) → Contains xs y → Contains (x ∷ xs) y
one_behind x xs y there = (suc there.0, omega arith, there.2)

pub any_there : {A : Type 0} (p : A → Bool) (xs : List A) → list_any p xs ≡ true → (x : A) × Contains xs x × (p x ≡ true)
any_there p [] none = absurd (false≢true none)
any_there {A} p (x ∷ xs) some = go (p x) refl some (any_there p xs)
  where
    go : (b : Bool) → p x ≡ b → (b || list_any p xs) ≡ true → (list_any p xs ≡ true → (y : A) × Contains xs y × (p y ≡ true))
        → (y : A) × Contains (x ∷ xs) y × (p y ≡ true)
    go true e some rest = (x, (0, omega arith, refl), e)
    go false e some rest = (let it = rest some in (it.0, one_behind x xs it.0 it.1, it.2))

pub is_empty : {A : Type 0} (xs : List A) → is_nothing xs ≡ true → xs ≡ []
is_empty [] all = refl
is_empty (x ∷ xs) some = absurd (false≢true some)

-- what each of a list has where a test holds of all
pub all_hold : {A : Type 0} (p : A → Bool) (xs : List A) → list_all p xs ≡ true → (x : A) → Contains xs x → p x ≡ true
all_hold p [] all x there = absurd (omega (arith, there.1))
all_hold {A} p (y ∷ ys) all x there = go (p y) refl all (all_hold p ys) there.0 there.1 there.2
  where
    go : (b : Bool) → p y ≡ b → (b && list_all p ys) ≡ true → (list_all p ys ≡ true → (z : A) → Contains ys z → p z ≡ true)
        → (k : ℕ) → k < suc (length ys) → slice_index_or (y ∷ ys) k x ≡ x → p x ≡ true
    go false e none later k small is = absurd (false≢true none)
    go true e rest later zero small is = subst (λ it. p it ≡ true) is e
    go true e rest later (suc k) small is = later rest x (k, omega arith, is)

-- what fails a test where nothing passes it
pub none_passes : {A : Type 0} (p : A → Bool) (xs : List A) → filter p xs ≡ [] → (x : A) → Contains xs x → p x ≡ false
none_passes p [] none x there = absurd (omega (arith, there.1))
none_passes {A} p (y ∷ ys) none x there = go (p y) refl none (none_passes p ys) there.0 there.1 there.2
  where
    go : (b : Bool) → p y ≡ b → cond b (y ∷ filter p ys) (filter p ys) ≡ []
        → (filter p ys ≡ [] → (z : A) → Contains ys z → p z ≡ false)
        → (k : ℕ) → k < suc (length ys) → slice_index_or (y ∷ ys) k x ≡ x → p x ≡ false
    go true e some later k small is = absurd (false≢true (ap is_nothing some))
    go false e rest later zero small is = subst (λ it. p it ≡ false) is e
    go false e rest later (suc k) small is = later rest x (k, omega arith, is)

-- a test that some element passes
pub some_passes : {A : Type 0} (p : A → Bool) (xs : List A) (x : A) → Contains xs x → p x ≡ true → list_any p xs ≡ true
some_passes p [] x there passes = absurd (omega (arith, there.1))
some_passes {A} p (y ∷ ys) x there passes = go (p y) refl (some_passes p ys) there.0 there.1 there.2
  where
    go : (b : Bool) → p y ≡ b → ((z : A) → Contains ys z → p z ≡ true → list_any p ys ≡ true)
        → (k : ℕ) → k < suc (length ys) → slice_index_or (y ∷ ys) k x ≡ x → (b || list_any p ys) ≡ true
    go true e later k small is = refl
    go false e later zero small is = absurd (false≢true (sym e ∙ ap p is ∙ passes))
    go false e later (suc k) small is = later x (k, omega arith, is) passes

-- ---- truth

pub both : (a b : Bool) → (a && b) ≡ true → (a ≡ true) × (b ≡ true)
both true b is = (refl, is)
both false b is = absurd (false≢true is)

pub not_false : (b : Bool) → not b ≡ false → b ≡ true
not_false true is = refl
not_false false is = absurd (false≢true (sym is))

pub second : (a b : Bool) → (a && not b) ≡ false → a ≡ true → b ≡ true
second true b is first = not_false b is
second false b is first = absurd (false≢true first)

-- ---- parts

-- parts that are nothing in a list are nothing in one that is seen as the same
pub each_nothing : {A B V D : Type 0} (part : V → List D) (inside : A → V) (outside : B → V) (xs : List A) (ys : List B)
    → map inside xs ≡ map outside ys → list_all (λ a. is_nothing (part (inside a))) xs ≡ true
    → (b : B) → Contains ys b → part (outside b) ≡ []
each_nothing {A} {B} {V} part inside outside xs ys same all b there =
    is_empty (part (outside b)) (all_hold (λ it. test (outside it)) ys (sym (list_all-map test outside ys) ∙ moved) b there)
  where
    test : V → Bool
    test v = is_nothing (part v)

    moved : list_all test (map outside ys) ≡ true
    moved = subst (λ vs. list_all test vs ≡ true) same (list_all-map test inside xs ∙ all)

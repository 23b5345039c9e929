-- Lists that are gathered, and what is one of them.
use Rattle.std.proofs.Common.{◌≡◌, ℕ, suc, ◌<◌, ◌≤◌, ◌+◌, ◌&&◌, ◌||◌, Bool, true, false, List, [], ◌∷◌, ◌++◌, length, get_or, Option, Some, None, refl, sym, ap, subst, ◌∙◌, arith, inl, inr}
use Rattle.std.specs.Prelude.{Contains, ◌⊎◌}
use Rattle.std.proofs.lemmas.Bool.{cases_eq, false≢true}

-- ---- tests

pub or_cases : (a b : Bool) → (a || b) ≡ true → (a ≡ true) ⊎ (b ≡ true)
or_cases true b e = inl refl
or_cases false b e = inr e

pub or_left : (a b : Bool) → a ≡ true → (a || b) ≡ true
or_left true b e = refl
or_left false b e = absurd (false≢true e)

pub or_right : (a b : Bool) → b ≡ true → (a || b) ≡ true
or_right true b e = refl
or_right false b e = e

pub and_first : (a b : Bool) → (a && b) ≡ true → a ≡ true
and_first true b e = refl
and_first false b e = e

pub and_second : (a b : Bool) → (a && b) ≡ true → b ≡ true
and_second true b e = e
and_second false b e = absurd (false≢true e)

pub both_true : (a b : Bool) → a ≡ true → b ≡ true → (a && b) ≡ true
both_true true b e f = f
both_true false b e f = e

-- ---- one of a list

abbrev pub In : {A : Type 0} → A → List A → Type 0
In x [] = ⊥
In x (y ∷ ys) = (y ≡ x) ⊎ In x ys

pub in_list : {A : Type 0} (xs : List A) (x : A) (k : ℕ) → k < length xs → get_or xs k x ≡ x → In x xs
in_list [] x k low is = absurd (omega (arith, low))
in_list (y ∷ ys) x ℕ.zero low is = inl is
in_list (y ∷ ys) x (ℕ.suc k) low is = inr (in_list ys x k (omega (arith, low)) is)

pub of_list : {A : Type 0} (xs : List A) (x : A) → In x xs → Contains xs x
of_list [] x i = absurd i
of_list (y ∷ ys) x (inl e) = (0, omega arith, e)
of_list (y ∷ ys) x (inr i) = let c = of_list ys x i in (suc c.0, omega (arith, c.1), c.2)

pub in_left : {A : Type 0} (xs ys : List A) (x : A) → In x xs → In x (xs ++ ys)
in_left [] ys x i = absurd i
in_left (z ∷ xs) ys x (inl e) = inl e
in_left (z ∷ xs) ys x (inr i) = inr (in_left xs ys x i)

pub in_right : {A : Type 0} (xs ys : List A) (x : A) → In x ys → In x (xs ++ ys)
in_right [] ys x i = i
in_right (z ∷ xs) ys x i = inr (in_right xs ys x i)

pub in_cases : {A : Type 0} (xs ys : List A) (x : A) → In x (xs ++ ys) → In x xs ⊎ In x ys
in_cases [] ys x i = inr i
in_cases (z ∷ xs) ys x (inl e) = inl (inl e)
in_cases (z ∷ xs) ys x (inr i) = elim (in_cases xs ys x i) [
  | inl before ↦ inl (inr before)
  | inr behind ↦ inr behind
]

abbrev pub some : {A : Type 0} → (A → Bool) → List A → Bool
some test [] = false
some test (x ∷ xs) = test x || some test xs

pub some_has : {A : Type 0} (test : A → Bool) (xs : List A) (x : A) → In x xs → test x ≡ true → some test xs ≡ true
some_has test [] x i h = absurd i
some_has test (y ∷ ys) x (inl e) h = or_left (test y) (some test ys) (ap test e ∙ h)
some_has test (y ∷ ys) x (inr i) h = or_right (test y) (some test ys) (some_has test ys x i h)

pub some_is : {A : Type 0} (test : A → Bool) (xs : List A) → some test xs ≡ true → (x : A) × In x xs × (test x ≡ true)
some_is test [] e = absurd (false≢true e)
some_is test (y ∷ ys) e = elim (or_cases (test y) (some test ys) e) [
  | inl here ↦ (y, inl refl, here)
  | inr later ↦ (let f = some_is test ys later in (f.0, inr f.1, f.2))
]

abbrev pub flat : {A B : Type 0} → (A → List B) → List A → List B
flat f [] = []
flat f (x ∷ xs) = f x ++ flat f xs

pub flat_has : {A B : Type 0} (f : A → List B) (xs : List A) (x : A) (y : B) → In x xs → In y (f x) → In y (flat f xs)
flat_has f [] x y i j = absurd i
flat_has f (z ∷ xs) x y (inl e) j = in_left (f z) (flat f xs) y (subst (λ w. In y (f w)) (sym e) j)
flat_has f (z ∷ xs) x y (inr i) j = in_right (f z) (flat f xs) y (flat_has f xs x y i j)

pub flat_is : {A B : Type 0} (f : A → List B) (xs : List A) (y : B) → In y (flat f xs) → (x : A) × In x xs × In y (f x)
flat_is f [] y j = absurd j
flat_is f (z ∷ xs) y j = elim (in_cases (f z) (flat f xs) y j) [
  | inl here ↦ (z, inl refl, here)
  | inr later ↦ (let g = flat_is f xs y later in (g.0, inr g.1, g.2))
]

-- ---- what numbers below a bound lead to, those that a test lets through

abbrev pub push_one : {A : Type 0} → Bool → Option A → List A → List A
push_one false o l = l
push_one true None l = l
push_one true (Some y) l = y ∷ l

pub no_value : {A : Type 0} {x : A} → None ≡ Some x → ⊥
no_value e = cc

pub one_value : {A : Type 0} {x y : A} → Some x ≡ Some y → x ≡ y
one_value e = cc

pub push_keeps : {A : Type 0} (b : Bool) (o : Option A) (l : List A) (y : A) → In y l → In y (push_one b o l)
push_keeps false o l y i = i
push_keeps true None l y i = i
push_keeps true (Some z) l y i = inr i

pub push_has : {A : Type 0} (b : Bool) (o : Option A) (l : List A) (y : A) → b ≡ true → o ≡ Some y → In y (push_one b o l)
push_has false o l y e is = absurd (false≢true e)
push_has true None l y e is = absurd (no_value is)
push_has true (Some z) l y e is = inl (one_value is)

pub push_is : {A : Type 0} (b : Bool) (o : Option A) (l : List A) (y : A) → In y (push_one b o l) → In y l ⊎ ((b ≡ true) × (o ≡ Some y))
push_is false o l y i = inl i
push_is true None l y i = inl i
push_is true (Some z) l y (inl e) = inr (refl, ap (λ w. Some w) e)
push_is true (Some z) l y (inr i) = inl i

abbrev pub gather : {A : Type 0} → (ℕ → Bool) → (ℕ → Option A) → ℕ → List A
gather test to ℕ.zero = []
gather test to (ℕ.suc n) = push_one (test n) (to n) (gather test to n)

pub gather_has : {A : Type 0} (test : ℕ → Bool) (to : ℕ → Option A) (n k : ℕ) (y : A) → k < n → test k ≡ true → to k ≡ Some y → In y (gather test to n)
gather_has test to ℕ.zero k y low t is = absurd (omega (arith, low))
gather_has test to (ℕ.suc n) k y low t is = elim (cases_eq k n) [
  | inl same ↦ push_has (test n) (to n) (gather test to n) y (subst (λ z. test z ≡ true) same t) (subst (λ z. to z ≡ Some y) same is)
  | inr apart ↦ push_keeps (test n) (to n) (gather test to n) y (gather_has test to n k y (omega (arith, low, apart)) t is)
]

pub gather_is : {A : Type 0} (test : ℕ → Bool) (to : ℕ → Option A) (n : ℕ) (y : A) → In y (gather test to n) → (k : ℕ) × (test k ≡ true) × (to k ≡ Some y)
gather_is test to ℕ.zero y i = absurd i
gather_is test to (ℕ.suc n) y i = elim (push_is (test n) (to n) (gather test to n) y i) [
  | inl before ↦ gather_is test to n y before
  | inr here ↦ (n, here.0, here.1)
]

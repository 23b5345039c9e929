-- What stands in a list, against tests of the list and lists made of it; the first of some faults.
use Rattle.std.proofs.Common.{◌≡◌, inl, inr, ◌⊎◌, Bool, true, false, ◌||◌, List, [], ◌∷◌, ◌++◌, Option, Some, None, map, filter_map, refl, sym, ap, ◌∙◌, subst, append_assoc, arith}
use Rattle.std.specs.List.{Contains, cons_option, flat_map, list_any}
use Rattle.std.proofs.lemmas.Bool.{or_cases}
use Rattle.std.proofs.lemmas.List.Elements.{Contains-append_cases, Contains-append_right, Contains-push_cases}
use Rattle.std.proofs.lemmas.Option.{same_Some}
use Rattle.sy_rules.specs.Faults.{first, when}
use Rattle.sy_rules.proofs.lemmas.parameters.Fits.{no_front, no_back}

-- ---- places

-- x stands in the list, by what is before and after it
abbrev pub IsAmong : {A : Type 0} → A → List A → Type 0
IsAmong {A} x xs = (before : List A) × (after : List A) × (xs ≡ before ++ x ∷ after)

pub contained : {A : Type 0} (x : A) (xs : List A) → IsAmong x xs → Contains xs x
contained x xs a = subst (λ zs. Contains zs x) (sym a.2) (Contains-append_right a.0 (x ∷ a.1) x (0, omega arith, refl))

pub here : {A : Type 0} (x : A) (xs : List A) → IsAmong x (x ∷ xs)
here x xs = ([], xs, refl)

pub there : {A : Type 0} (x y : A) (xs : List A) → IsAmong x xs → IsAmong x (y ∷ xs)
there x y xs a = (y ∷ a.0, a.1, ap (λ zs. y ∷ zs) a.2)

pub in_front : {A : Type 0} (x : A) (xs ys : List A) → IsAmong x xs → IsAmong x (xs ++ ys)
in_front x xs ys a = (a.0, a.1 ++ ys, ap (λ zs. zs ++ ys) a.2 ∙ append_assoc a.0 (x ∷ a.1) ys)

pub in_back : {A : Type 0} (x : A) (xs ys : List A) → IsAmong x ys → IsAmong x (xs ++ ys)
in_back x xs ys a = (xs ++ a.0, a.1, ap (λ zs. xs ++ zs) a.2 ∙ sym (append_assoc xs a.0 (x ∷ a.1)))

pub among_by : {A : Type 0} (x : A) (xs : List A) → Contains xs x → IsAmong x xs
among_by x [] c = absurd (omega (arith, c.1))
among_by x (y ∷ ys) c = elim (Contains-append_cases (y ∷ []) ys x c) [
  | inl one ↦ elim (Contains-push_cases [] y x one) [
    | inl none ↦ absurd (omega (arith, none.1))
    | inr same ↦ ([], ys, ap (λ z. z ∷ ys) same)
  ]
  | inr later ↦ there x y ys (among_by x ys later)
]

-- ---- tests of a list

pub any_found : {A : Type 0} (p : A → Bool) (xs : List A) → list_any p xs ≡ true → (x : A) × IsAmong x xs × (p x ≡ true)
any_found p [] e = absurd cc
any_found p (x ∷ xs) e = elim (or_cases (p x) (list_any p xs) e) [
  | inl met ↦ (x, here x xs, met)
  | inr later ↦ (let f = any_found p xs later in (f.0, there f.0 x xs f.1, f.2))
]

any_at : {A : Type 0} (p : A → Bool) (before after : List A) (x : A) → p x ≡ true → list_any p (before ++ x ∷ after) ≡ true
any_at p [] after x met = rw met refl
any_at p (b ∷ before) after x met = either (p b) (any_at p before after x met)
  where
    either : (b : Bool) {later : Bool} → later ≡ true → (b || later) ≡ true
    either true e = refl
    either false e = e

pub any_of : {A : Type 0} (p : A → Bool) (xs : List A) (x : A) → IsAmong x xs → p x ≡ true → list_any p xs ≡ true
any_of p xs x a met = ap (list_any p) a.2 ∙ any_at p a.0 a.1 x met

-- of what is made of some items

pub record Made {A B : Type 0} (h : A → Option B) (p : B → Bool) (xs : List A) : Type 0 where
  pub x : A
  pub y : B
  pub among : IsAmong x xs
  pub is : h x ≡ Some y
  pub met : p y ≡ true

made_later : {A B : Type 0} (h : A → Option B) (p : B → Bool) (x : A) (xs : List A) → Made h p xs → Made h p (x ∷ xs)
made_later h p x xs m = record { x = m.x; y = m.y; among = there m.x x xs m.among; is = m.is; met = m.met }

pub made_found : {A B : Type 0} (h : A → Option B) (p : B → Bool) (xs : List A) → list_any p (filter_map h xs) ≡ true → Made h p xs
made_found h p [] e = absurd cc
made_found {B = B} h p (x ∷ xs) e = go (h x) refl e (made_found h p xs)
  where
    go : (o : Option B) → h x ≡ o → list_any p (cons_option o (filter_map h xs)) ≡ true → (list_any p (filter_map h xs) ≡ true → Made h p xs) → Made h p (x ∷ xs)
    go None is e later = made_later h p x xs (later e)
    go (Some y) is e later = elim (or_cases (p y) (list_any p (filter_map h xs)) e) [
      | inl met ↦ record { x = x; y = y; among = here x xs; is = is; met = met }
      | inr behind ↦ made_later h p x xs (later behind)
    ]

made_among : {A B : Type 0} (h : A → Option B) (before after : List A) (x : A) (y : B) → h x ≡ Some y → IsAmong y (filter_map h (before ++ x ∷ after))
made_among h [] after x y is = rw is (here y (filter_map h after))
made_among {B = B} h (b ∷ before) after x y is = go (h b) (made_among h before after x y is)
  where
    go : (o : Option B) {ys : List B} → IsAmong y ys → IsAmong y (cons_option o ys)
    go None a = a
    go (Some z) a = there y z _ a

pub made_any : {A B : Type 0} (h : A → Option B) (p : B → Bool) (xs : List A) (x : A) (y : B) → IsAmong x xs → h x ≡ Some y → p y ≡ true → list_any p (filter_map h xs) ≡ true
made_any h p xs x y a is met = any_of p (filter_map h xs) y (subst (λ zs. IsAmong y (filter_map h zs)) (sym a.2) (made_among h a.0 a.1 x y is)) met

pub any_map : {A B : Type 0} (g : A → B) (p : B → Bool) (xs : List A) → list_any p (map g xs) ≡ list_any (λ x. p (g x)) xs
any_map g p [] = refl
any_map g p (x ∷ xs) = ap (λ b. p (g x) || b) (any_map g p xs)

-- ---- the first fault

pub first_of : {A : Type 0} (xs ys : List A) (f : A) → first (xs ++ ys) ≡ Some f → (first xs ≡ Some f) ⊎ ((xs ≡ []) × (first ys ≡ Some f))
first_of [] ys f e = inr (refl, e)
first_of (x ∷ xs) ys f e = inl e

pub first_when : {A : Type 0} (b : Bool) (g f : A) → first (when b g) ≡ Some f → (b ≡ true) × (g ≡ f)
first_when true g f e = (refl, cc)
first_when false g f e = absurd cc

pub none_when : {A : Type 0} (b : Bool) (g : A) → when b g ≡ [] → b ≡ true → ⊥
none_when true g e met = cc
none_when false g e met = cc

-- what holds of the fault that is found holds of the answer
pub move : {A : Type 0} (P : A → Type 0) {g f : A} → g ≡ f → P g → P f
move P e p = subst P e p

-- ---- of lists made of lists

pub first_flat : {A B : Type 0} (h : A → List B) (xs : List A) (f : B) → first (flat_map h xs) ≡ Some f → (x : A) × IsAmong x xs × (first (h x) ≡ Some f)
first_flat h [] f e = absurd cc
first_flat h (x ∷ xs) f e = elim (first_of (h x) (flat_map h xs) f e) [
  | inl own ↦ (x, here x xs, own)
  | inr later ↦ (let r = first_flat h xs f later.1 in (r.0, there r.0 x xs r.1, r.2))
]

pub first_map : {A B : Type 0} (h : A → B) (xs : List A) (f : B) → first (map h xs) ≡ Some f → (x : A) × (first xs ≡ Some x) × (h x ≡ f)
first_map h [] f e = absurd cc
first_map h (x ∷ xs) f e = (x, refl, same_Some (h x) f e)

none_flat_at : {A B : Type 0} (h : A → List B) (before after : List A) (x : A) → flat_map h (before ++ x ∷ after) ≡ [] → h x ≡ []
none_flat_at h [] after x e = no_front (h x) (flat_map h after) e
none_flat_at h (b ∷ before) after x e = none_flat_at h before after x (no_back (h b) (flat_map h (before ++ x ∷ after)) e)

pub none_flat : {A B : Type 0} (h : A → List B) (xs : List A) (x : A) → IsAmong x xs → flat_map h xs ≡ [] → h x ≡ []
none_flat h xs x a e = none_flat_at h a.0 a.1 x (subst (λ zs. flat_map h zs ≡ []) a.2 e)

pub flat-append : {A B : Type 0} (h : A → List B) (xs ys : List A) → flat_map h (xs ++ ys) ≡ flat_map h xs ++ flat_map h ys
flat-append h [] ys = refl
flat-append h (x ∷ xs) ys = ap (λ zs. h x ++ zs) (flat-append h xs ys) ∙ sym (append_assoc (h x) (flat_map h xs) (flat_map h ys))

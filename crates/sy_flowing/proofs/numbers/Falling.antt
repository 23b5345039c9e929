-- Where nothing leads round, numbers fall: the places are taken out one by one, and each leaves the ways that led through it.
use Rattle.std.proofs.Common.{◌≡◌, ◌+◌, ◌*◌, ℕ, ◌<◌, ◌≤◌, Bool, true, false, if◌then◌else◌, List, [], ◌∷◌, ◌++◌, refl, sym, subst, arith, ◌∙◌, inl, inr}
use Rattle.std.specs.Prelude.{◌⊎◌}
use Rattle.std.proofs.lemmas.Bool.{cases_eq}
use Rattle.sy_flowing.proofs.numbers.Deciding.{Decided, as_well, both, false_or_not, less_or_not, one_of}

-- ---- in a list

abbrev pub In : {A : Type 0} → A → List A → Type 0
In x [] = ⊥
In x (y ∷ ys) = (x ≡ y) ⊎ In x ys

in_before : {A : Type 0} (x : A) (xs ys : List A) → In x xs → In x (xs ++ ys)
in_before x [] ys i = absurd i
in_before x (y ∷ xs) ys (inl same) = inl same
in_before x (y ∷ xs) ys (inr i) = inr (in_before x xs ys i)

in_behind : {A : Type 0} (x : A) (xs ys : List A) → In x ys → In x (xs ++ ys)
in_behind x [] ys i = i
in_behind x (y ∷ xs) ys i = inr (in_behind x xs ys i)

-- one for each number below a bound
abbrev pub for_each : {A : Type 0} → (ℕ → A) → ℕ → List A
for_each f ℕ.zero = []
for_each f (ℕ.suc n) = f n ∷ for_each f n

in_for_each : {A : Type 0} (f : ℕ → A) (n k : ℕ) → k < n → In (f k) (for_each f n)
in_for_each f ℕ.zero k l = absurd (omega (arith, l))
in_for_each {A = A} f (ℕ.suc n) k l = elim (cases_eq k n) [
  | inl same ↦ inl (λ i. f (same i))
  | inr apart ↦ inr (in_for_each f n k (omega (arith, l, apart)))
]

-- one for each pair of a number below a bound, and one below a bound of its own
abbrev pub for_pairs : {A : Type 0} → (ℕ → ℕ → A) → (ℕ → ℕ) → ℕ → List A
for_pairs f size ℕ.zero = []
for_pairs f size (ℕ.suc n) = for_each (f n) (size n) ++ for_pairs f size n

pub in_for_pairs : {A : Type 0} (f : ℕ → ℕ → A) (size : ℕ → ℕ) (n r k : ℕ) → r < n → k < size r → In (f r k) (for_pairs f size n)
in_for_pairs f size ℕ.zero r k l m = absurd (omega (arith, l))
in_for_pairs f size (ℕ.suc n) r k l m = elim (cases_eq r n) [
  | inl same ↦ in_before (f r k) (for_each (f n) (size n)) (for_pairs f size n)
      (subst (λ z. In (f r k) (for_each (f z) (size z))) same (in_for_each (f r) (size r) k m))
  | inr apart ↦ in_behind (f r k) (for_each (f n) (size n)) (for_pairs f size n) (in_for_pairs f size n r k (omega (arith, l, apart)) m)
]

-- ---- ways

-- one step after another, at least one
pub data Way {A : Type 0} (E : A → A → Type 0) : (from to : A) → Type 0 where
  step : {from to : A} → E from to → Way E from to
  onward : {from mid to : A} → E from mid → Way E mid to → Way E from to

-- a way in which each step is one of two
in_two : {A : Type 0} (E F : A → A → Type 0) → ((a b : A) → F a b → E a b ⊎ ((m : A) × E a m × E m b)) → (a b : A) → Way F a b → Way E a b
in_two E F parts a b (step e) = elim (parts a b e) [
  | inl one ↦ step one
  | inr two ↦ onward two.1 (step two.2)
]
in_two E F parts a b (onward {mid = mid} e way) = elim (parts a mid e) [
  | inl one ↦ onward one (in_two E F parts mid b way)
  | inr two ↦ onward two.1 (onward two.2 (in_two E F parts mid b way))
]

-- ---- numbers below which the places that one leads to stay

-- the least number above those of all that a step leads to
pub record IsLeast {A : Type 0} (E : A → Type 0) (h : A → ℕ) (ys : List A) (least : ℕ) : Type 0 where
  pub above : (b : A) → In b ys → E b → h b < least
  pub below : (k : ℕ) → ((b : A) → E b → h b < k) → least ≤ k

least_above : {A : Type 0} (E : A → Type 0) (h : A → ℕ) → ((b : A) → Decided (E b)) → (ys : List A) → (least : ℕ) × IsLeast E h ys least
least_above E h d [] = (0, record { above = λ b i e. absurd i; below = λ k all. omega arith })
least_above {A = A} E h d (y ∷ ys) = go (d y) (least_above E h d ys)
  where
    first : (P : A → Type 0) → P y → ((b : A) → In b ys → P b) → (b : A) → In b (y ∷ ys) → P b
    first P p all b (inl same) = subst P (sym same) p
    first P p all b (inr i) = all b i

    higher : (n : ℕ) → IsLeast E h ys n → E y → Decided (h y < n) → (least : ℕ) × IsLeast E h (y ∷ ys) least
    higher n is e (inl l) = (n, record { above = first (λ b. E b → h b < n) (λ t. l) is.above; below = is.below })
    higher n is e (inr never) = (
      ℕ.suc (h y),
      record {
        above = first (λ b. E b → h b < ℕ.suc (h y)) (λ t. omega arith) (λ b i t. (let l = is.above b i t in let m = not_less (h y) n never in omega (arith, l, m)));
        below = λ k all. (let l = all y e in omega (arith, l));
      },
    )
      where
        not_less : (a b : ℕ) → (a < b → ⊥) → b ≤ a
        not_less a b never = omega (arith, never)

    go : Decided (E y) → (least : ℕ) × IsLeast E h ys least → (least : ℕ) × IsLeast E h (y ∷ ys) least
    go (inr never) (n, is) = (n, record { above = first (λ b. E b → h b < n) (λ t. absurd (never t)) is.above; below = is.below })
    go (inl e) (n, is) = higher n is e (less_or_not (h y) n)

-- ---- numbers that fall

abbrev pub Falls : {A : Type 0} → (A → A → Type 0) → (A → ℕ) → Type 0
Falls {A = A} E h = (a b : A) → E a b → h b < h a

module _ {A : Type 0} (same : A → A → Bool) (same_is : (a b : A) → same a b ≡ true → a ≡ b) (is_same : (a : A) → same a a ≡ true) (ys : List A) where
  module _ (E : A → A → Type 0) (m : A) where
    -- the steps without this place, and the pairs of them that led through it
    abbrev Without : A → A → Type 0
    Without a b = (same a m ≡ false) × (E a b ⊎ (E a m × E m b))

    without_decided : ((a b : A) → Decided (E a b)) → (a b : A) → Decided (Without a b)
    without_decided d a b = both (false_or_not (same a m)) (one_of (d a b) (both (d a m) (d m b)))

    apart : (a : A) → same a m ≡ false → (a ≡ m) → ⊥
    apart a never is = let e : true ≡ false = sym (is_same m) ∙ (sym (λ i. same (is i) m) ∙ never) in absurd (cc)

    without_ends : (xs : List A) → ((a b : A) → E a b → In a (m ∷ xs) × In b ys) → (a b : A) → Without a b → In a xs × In b ys
    without_ends xs ends a b (never, inl e) = (behind (ends a b e).0, (ends a b e).1)
      where
        behind : In a (m ∷ xs) → In a xs
        behind (inl is) = absurd (apart a never is)
        behind (inr i) = i
    without_ends xs ends a b (never, inr (e, f)) = (behind (ends a m e).0, (ends m b f).1)
      where
        behind : In a (m ∷ xs) → In a xs
        behind (inl is) = absurd (apart a never is)
        behind (inr i) = i

    without_round : ((a : A) → Way E a a → ⊥) → (a : A) → Way Without a a → ⊥
    without_round none a way = none a (in_two E Without parts a a way)
      where
        parts : (a b : A) → Without a b → E a b ⊎ ((m : A) × E a m × E m b)
        parts a b (never, inl e) = inl e
        parts a b (never, inr (e, f)) = inr (m, e, f)

    module _ (none : (a : A) → Way E a a → ⊥) (ends : (a b : A) → E a b → In b ys) (h : A → ℕ) (falls : Falls Without h)
        (n : ℕ) (is : IsLeast (E m) h ys n) where
      -- the place comes between those that it leads to and those that lead to it
      abbrev between : A → ℕ
      between a = if same a m then 2 * n else 2 * h a + 1

      between_falls : Falls E between
      between_falls a b e = go (same a m) refl (same b m) refl
        where
          go : (x : Bool) → same a m ≡ x → (y : Bool) → same b m ≡ y
              → (if y then 2 * n else 2 * h b + 1) < (if x then 2 * n else 2 * h a + 1)
          go true s true t = absurd (none m (step (subst (λ z. E z m) (same_is a m s) (subst (E a) (same_is b m t) e))))
          go true s false t = let l = is.above b (ends a b e) (subst (λ z. E z b) (same_is a m s) e) in omega (arith, l)
          go false s true t =
              let l = is.below (h a) (λ c f. falls a c (s, inr (subst (E a) (same_is b m t) e, f))) in omega (arith, l)
          go false s false t = let l = falls a b (s, inl e) in omega (arith, l)

  pub numbers : (xs : List A) (E : A → A → Type 0) → ((a b : A) → Decided (E a b)) → ((a b : A) → E a b → In a xs × In b ys)
      → ((a : A) → Way E a a → ⊥) → (h : A → ℕ) × Falls E h
  numbers [] E d ends none = (λ a. 0, λ a b e. absurd (ends a b e).0)
  numbers (m ∷ xs) E d ends none =
      let r = numbers xs (Without E m) (without_decided E m d) (without_ends E m xs ends) (without_round E m none) in
      let l = least_above (E m) r.0 (d m) ys in
      (between E m none (λ a b e. (ends a b e).1) r.0 r.1 l.0 l.1, between_falls E m none (λ a b e. (ends a b e).1) r.0 r.1 l.0 l.1)

-- ---- what ways lead to is decided

module _ (E : ℕ → ℕ → Type 0) where
  -- there is a way whose inner places are below a number
  abbrev Through : ℕ → ℕ → ℕ → Type 0
  Through ℕ.zero a b = E a b
  Through (ℕ.suc m) a b = Through m a b ⊎ (Through m a m × Through m m b)

  through_decided : ((a b : ℕ) → Decided (E a b)) → (n a b : ℕ) → Decided (Through n a b)
  through_decided d ℕ.zero a b = d a b
  through_decided d (ℕ.suc m) a b =
      one_of (through_decided d m a b) (both (through_decided d m a m) (through_decided d m m b))

  through_one : (n a b : ℕ) → E a b → Through n a b
  through_one ℕ.zero a b e = e
  through_one (ℕ.suc m) a b e = inl (through_one m a b e)

  -- to and from the last place
  to_last : (m a : ℕ) → Through (ℕ.suc m) a m → Through m a m
  to_last m a (inl t) = t
  to_last m a (inr (t, u)) = t

  from_last : (m b : ℕ) → Through (ℕ.suc m) m b → Through m m b
  from_last m b (inl t) = t
  from_last m b (inr (t, u)) = u

  through_two : (n a c b : ℕ) → c < n → Through n a c → Through n c b → Through n a b
  through_two ℕ.zero a c b l t u = absurd (omega (arith, l))
  through_two (ℕ.suc m) a c b l t u = elim (cases_eq c m) [
    | inl same ↦ inr (to_last m a (subst (Through (ℕ.suc m) a) same t), from_last m b (subst (λ z. Through (ℕ.suc m) z b) same u))
    | inr apart ↦ inner (λ x y. through_two m x c y (omega (arith, l, apart))) t u
  ]
    where
      inner : ((x y : ℕ) → Through m x c → Through m c y → Through m x y) → Through (ℕ.suc m) a c → Through (ℕ.suc m) c b → Through (ℕ.suc m) a b
      inner two (inl t) (inl u) = inl (two a b t u)
      inner two (inl t) (inr (u, v)) = inr (two a m t u, v)
      inner two (inr (t, s)) (inl u) = inr (t, two m b s u)
      inner two (inr (t, s)) (inr (u, v)) = inr (t, v)

  way_through : (n : ℕ) → ((a b : ℕ) → E a b → a < n) → (a b : ℕ) → Way E a b → Through n a b
  way_through n few a b (step e) = through_one n a b e
  way_through n few a b (onward {mid = mid} e way) =
      through_two n a mid b (starts few mid b way) (through_one n a mid e) (way_through n few mid b way)
    where
      starts : ((a b : ℕ) → E a b → a < n) → (a b : ℕ) → Way E a b → a < n
      starts few a b (step e) = few a b e
      starts few a b (onward {mid = mid} e way) = few a mid e

  joined : (a c b : ℕ) → Way E a c → Way E c b → Way E a b
  joined a c b (step e) later = onward e later
  joined a c b (onward {mid = mid} e way) later = onward e (joined mid c b way later)

  through_way : (n a b : ℕ) → Through n a b → Way E a b
  through_way ℕ.zero a b e = step e
  through_way (ℕ.suc m) a b (inl t) = through_way m a b t
  through_way (ℕ.suc m) a b (inr (t, u)) = joined a m b (through_way m a m t) (through_way m m b u)

  pub way_or_not : ((a b : ℕ) → Decided (E a b)) → (n : ℕ) → ((a b : ℕ) → E a b → a < n) → (a b : ℕ) → Decided (Way E a b)
  way_or_not d n few a b = as_well (through_way n a b) (way_through n few a b) (through_decided d n a b)

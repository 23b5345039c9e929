-- What holds or doesn't: over numbers below a bound, over classes, and over the valuations that a class admits.
use Rattle.std.proofs.Common.{◌≡◌, ℕ, ◌<◌, Bool, true, false, List, [], ◌∷◌, refl, subst, arith, inl, inr, Option, Some, None}
use Rattle.std.specs.Prelude.{◌⊎◌}
use Rattle.std.proofs.lemmas.Bool.{cases_eq, cases_lt}
use Rattle.sy_wire.specs.declared.class.Class.{Class}
use Rattle.sy_select.specs.Properties.{known}
use Rattle.sy_select.specs.Truth.{Admits, Agrees, Valuation}
use Rattle.sy_rules.specs.lists.Body.{Body, executed, is_in, tests}
use Rattle.sy_rules.specs.lists.Work.{May}
use Rattle.sy_board.proofs.relay.SamePairs.{same_class}

abbrev pub Decided : Type 0 → Type 0
Decided P = P ⊎ (P → ⊥)

pub both : {P Q : Type 0} → Decided P → Decided Q → Decided (P × Q)
both (inl p) (inl q) = inl (p, q)
both (inl p) (inr never) = inr (λ b. never b.1)
both (inr never) q = inr (λ b. never b.0)

pub one_of : {P Q : Type 0} → Decided P → Decided Q → Decided (P ⊎ Q)
one_of (inl p) q = inl (inl p)
one_of (inr never) (inl q) = inl (inr q)
one_of {P = P} {Q = Q} (inr never) (inr none) = inr neither
  where
    neither : P ⊎ Q → ⊥
    neither (inl p) = never p
    neither (inr q) = none q

-- what is the same as something decided, is decided
pub as_well : {P Q : Type 0} → (P → Q) → (Q → P) → Decided P → Decided Q
as_well f g (inl p) = inl (f p)
as_well f g (inr never) = inr (λ q. never (g q))

pub same_or_not : (m n : ℕ) → Decided (m ≡ n)
same_or_not m n = cases_eq m n

pub less_or_not : (m n : ℕ) → Decided (m < n)
less_or_not m n = elim (cases_lt m n) [
  | inl l ↦ inl l
  | inr l ↦ inr (λ m. omega (arith, l, m))
]

pub true_or_not : (b : Bool) → Decided (b ≡ true)
true_or_not true = inl refl
true_or_not false = inr (λ e. absurd (cc))

pub false_or_not : (b : Bool) → Decided (b ≡ false)
false_or_not true = inr (λ e. absurd (cc))
false_or_not false = inl refl

pub some_below : (n : ℕ) (P : ℕ → Type 0) → ((k : ℕ) → Decided (P k)) → Decided ((k : ℕ) × (k < n) × P k)
some_below ℕ.zero P d = inr (λ s. (let l = s.1 in omega (arith, l)))
some_below (ℕ.suc n) P d = go (d n) (some_below n P d)
  where
    neither : (P n → ⊥) → ((k : ℕ) × (k < n) × P k → ⊥) → (k : ℕ) × (k < ℕ.suc n) × P k → ⊥
    neither never none (k, l, p) = elim (cases_eq k n) [
      | inl same ↦ never (subst P same p)
      | inr apart ↦ none (k, omega (arith, l, apart), p)
    ]

    go : Decided (P n) → Decided ((k : ℕ) × (k < n) × P k) → Decided ((k : ℕ) × (k < ℕ.suc n) × P k)
    go (inl p) rest = inl (n, omega arith, p)
    go (inr never) (inl (k, l, p)) = inl (k, omega (arith, l), p)
    go (inr never) (inr none) = inr (neither never none)

-- ---- classes

module _ (P : Class → Type 0) (d : (class : Class) → Decided (P class)) where
  abbrev WithNumbers : ℕ → ℕ → Type 0
  WithNumbers facility severity = (class : Class) × (class.facility ≡ facility) × (class.severity ≡ severity) × P class

  with_numbers : (facility severity : ℕ) → Decided (WithNumbers facility severity)
  with_numbers facility severity = go (less_or_not facility 24) (less_or_not severity 8)
    where
      go : Decided (facility < 24) → Decided (severity < 8) → Decided (WithNumbers facility severity)
      go (inr never) s = inr (λ c. never (let l = c.0.facility_in_range in let e = c.1 in omega (arith, l, e)))
      go (inl f) (inr never) = inr (λ c. never (let l = c.0.severity_in_range in let e = c.2 in omega (arith, l, e)))
      go (inl f) (inl s) =
          let class : Class = record { facility = facility; severity = severity; facility_in_range = f; severity_in_range = s } in
          as_well (λ p. (class, refl, refl, p)) (λ c. subst P (same_class c.0 class c.1 c.2) c.3) (d class)

  pub some_class : Decided ((class : Class) × P class)
  some_class =
      as_well (λ (f, l, (s, m, (class, e, e', p))). (class, p))
      (λ (class, p). (class.facility, class.facility_in_range, (class.severity, class.severity_in_range, (class, refl, refl, p))))
      (some_below 24 (λ f. (s : ℕ) × (s < 8) × WithNumbers f s) (λ f. some_below 8 (λ s. WithNumbers f s) (λ s. with_numbers f s)))

-- ---- valuations

agrees_or_not : (k : Option Bool) (b : Bool) → Decided (Agrees k b)
agrees_or_not None b = inl tt
agrees_or_not (Some true) b = true_or_not b
agrees_or_not (Some false) b = false_or_not b

abbrev pub SomeAdmitted : {T : Type 0} → (T → Option Bool) → List T → (Valuation → Bool) → Type 0
SomeAdmitted knows ts f = (v : Valuation) × Admits knows ts v × (f v ≡ true)

pub some_admitted : {T : Type 0} (knows : T → Option Bool) (ts : List T) (f : Valuation → Bool) → Decided (SomeAdmitted knows ts f)
some_admitted knows [] f = as_well (λ e. ([], tt, e)) only (true_or_not (f []))
  where
    only : SomeAdmitted knows [] f → f [] ≡ true
    only ([], a, e) = e
    only (b ∷ v, a, e) = absurd a
some_admitted {T = T} knows (t ∷ ts) f =
    as_well begins begun (one_of (both (agrees_or_not (knows t) true) (some_admitted knows ts (λ v. f (true ∷ v))))
    (both (agrees_or_not (knows t) false) (some_admitted knows ts (λ v. f (false ∷ v)))))
  where
    First : Type 0
    First = (Agrees (knows t) true × SomeAdmitted knows ts (λ v. f (true ∷ v))) ⊎ (Agrees (knows t) false × SomeAdmitted knows ts (λ v. f (false ∷ v)))

    begins : First → SomeAdmitted knows (t ∷ ts) f
    begins (inl (a, (v, more, e))) = (true ∷ v, (a, more), e)
    begins (inr (a, (v, more, e))) = (false ∷ v, (a, more), e)

    begun : SomeAdmitted knows (t ∷ ts) f → First
    begun ([], a, e) = absurd a
    begun (true ∷ v, (a, more), e) = inl (a, (v, more, e))
    begun (false ∷ v, (a, more), e) = inr (a, (v, more, e))

pub may_or_not : (s : Body) (class : Class) (number : ℕ) → Decided (May s class number)
may_or_not s class number =
    as_well (λ (v, a, e). record { values = v; admitted = a; executes = e }) (λ m. (m.values, m.admitted, m.executes))
    (some_admitted (known class) (tests s) (λ v. is_in number (executed s v)))

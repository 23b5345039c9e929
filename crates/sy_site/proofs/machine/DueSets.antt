-- The sets of one occurrence, and of two, in runs of small sites.
use Rattle.std.proofs.Common.{◌≡◌, ℕ, ◌<◌, ◌==◌, Bool, true, false, [], ◌∷◌, refl, sym, subst, ap, arith, ◌∙◌}
use Rattle.std.specs.Prelude.{◌||◌, ◌≢◌}
use Rattle.std.specs.Int.{bit_at}
use Rattle.std.proofs.lemmas.Nat.Bits.{bit_at-suc, bit_at-zero, bit_at-pow_same, bit_at-pow_other}
use Rattle.std.proofs.lemmas.Bool.{eqb-true, eqb-false}
use Rattle.sy_rules.specs.lists.Body.{is_in}
use Rattle.sy_rules.specs.lists.Sets.{Bits, IsLowest}

-- the set of occurrence 0 alone
pub only_first : (k : ℕ) → bit_at 1 k ≡ 1 → k ≡ 0
only_first k e = go (k == 0) refl
  where
    go : (b : Bool) → (k == 0) ≡ b → k ≡ 0
    go true t = eqb-true k 0 t
    go false t = (let z : bit_at 1 k ≡ 0 = bit_at-pow_other 0 k (eqb-false k 0 t) in absurd (omega arith))

one_in : (k : ℕ) → is_in k (0 ∷ []) ≡ true → bit_at 1 k ≡ 1
one_in k i = go (0 == k) refl i
  where
    go : (b : Bool) → (0 == k) ≡ b → (b || false) ≡ true → bit_at 1 k ≡ 1
    go true e i = subst (λ z. bit_at 1 z ≡ 1) (eqb-true 0 k e) (bit_at-pow_same 0)
    go false e i = cc

first_in : (k : ℕ) → k ≡ 0 → is_in k (0 ∷ []) ≡ true
first_in ℕ.zero e = refl
first_in (ℕ.suc k) e = absurd (omega (arith, e))

pub first_due : Bits (λ k. is_in k (0 ∷ []) ≡ true) 1
first_due k = ((λ e. first_in k (only_first k e)), one_in k)

-- the set of occurrences 0 and 1
three : (k : ℕ) → bit_at 3 (ℕ.suc k) ≡ bit_at 1 k
three k = bit_at-suc 3 k

two : (k : ℕ) → bit_at 2 (ℕ.suc k) ≡ bit_at 1 k
two k = bit_at-suc 2 k

beyond : (k : ℕ) → bit_at 3 (ℕ.suc (ℕ.suc k)) ≡ 0
beyond k = three (ℕ.suc k) ∙ bit_at-suc 1 k ∙ bit_at-zero k

in_both : (k : ℕ) → is_in k (0 ∷ 1 ∷ []) ≡ true → bit_at 3 k ≡ 1
in_both k i = go (0 == k) (1 == k) refl refl i
  where
    go : (a b : Bool) → (0 == k) ≡ a → (1 == k) ≡ b → (a || (b || false)) ≡ true → bit_at 3 k ≡ 1
    go true b e f i = subst (λ z. bit_at 3 z ≡ 1) (eqb-true 0 k e) refl
    go false true e f i = subst (λ z. bit_at 3 z ≡ 1) (eqb-true 1 k f) (three 0 ∙ bit_at-pow_same 0)
    go false false e f i = cc

of_both : (k : ℕ) → bit_at 3 k ≡ 1 → is_in k (0 ∷ 1 ∷ []) ≡ true
of_both ℕ.zero e = refl
of_both (ℕ.suc ℕ.zero) e = refl
of_both (ℕ.suc (ℕ.suc k)) e = let z = beyond k in absurd (omega (arith, e, z))

pub both_due : Bits (λ k. is_in k (0 ∷ 1 ∷ []) ≡ true) 3
both_due k = (of_both k, in_both k)

pub lowest_of_both : IsLowest 3 0 2
lowest_of_both = record { member = refl; lowest = λ k l. absurd (omega arith); gone = refl; others = others }
  where
    others : (k : ℕ) → k ≢ 0 → bit_at 2 k ≡ bit_at 3 k
    others ℕ.zero n = absurd (n refl)
    others (ℕ.suc k) n = two k ∙ sym (three k)

pub second_of_both : IsLowest 2 1 0
second_of_both = record { member = two 0 ∙ bit_at-pow_same 0; lowest = first; gone = bit_at-zero 1; others = others }
  where
    first : (k : ℕ) → k < 1 → bit_at 2 k ≡ 0
    first ℕ.zero l = refl
    first (ℕ.suc k) l = absurd (omega (arith, l))

    others : (k : ℕ) → k ≢ 1 → bit_at 0 k ≡ bit_at 2 k
    others ℕ.zero n = refl
    others (ℕ.suc k) n = bit_at-zero (ℕ.suc k) ∙ sym (two k ∙ bit_at-pow_other 0 k (λ e. n (ap ℕ.suc e)))

pub lowest : IsLowest 1 0 0
lowest = record {
  member = bit_at-pow_same 0;
  lowest = λ k l. absurd (omega arith);
  gone = bit_at-zero 0;
  others = λ k n. (let z : bit_at 1 k ≡ 0 = bit_at-pow_other 0 k n in let y : bit_at 0 k ≡ 0 = bit_at-zero k in omega arith);
}

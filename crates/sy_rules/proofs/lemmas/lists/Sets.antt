-- Sets of the numbers that a walk executes.
use Rattle.std.proofs.Common.{◌≡◌, ℕ, zero, suc, ◌+◌, ◌^◌, ◌<◌, ◌≤◌, max, Bool, true, false, ◌||◌, ◌==◌, List, [], ◌∷◌, ◌++◌, refl, sym, ap, ◌∙◌, arith, bit_or, eq-eqb, eqb-true, inl, inr}
use Rattle.std.specs.Prelude.{◌↔◌}
use Rattle.std.specs.Int.{bit_at}
use Rattle.std.specs.Int.Bits.{or_zero_l, or_zero_r}
use Rattle.std.proofs.Math.Nat.{mod-eq_of_lt}
use Rattle.std.proofs.lemmas.Bool.{cases_eq, ne_eqb}
use Rattle.std.proofs.lemmas.Nat.Bits.{bit_at-lt, bit_at-pow_other, bit_at-pow_same, bit_at_or, bit_at-zero, same_from_bits}
use Rattle.sy_rules.specs.declared.lists.walk.Reached.{Reached}
use Rattle.sy_rules.specs.lists.Sets.{Bits}
use Rattle.sy_rules.specs.lists.Body.{Walk, ◌then◌, is_in}
use Rattle.sy_rules.specs.lists.Body as body
use Rattle.sy_rules.specs.internal.TableWalk.{followed_by, one, place}

-- ---- bits

bit_test : (a b : ℕ) → a < 2 → b < 2 → (max a b == 1) ≡ ((a == 1) || (b == 1))
bit_test zero zero p q = refl
bit_test zero (suc zero) p q = refl
bit_test (suc zero) zero p q = refl
bit_test (suc zero) (suc zero) p q = refl
bit_test (suc (suc a)) b p q = absurd (omega arith)
bit_test a (suc (suc b)) p q = absurd (omega arith)

has_one : (n k : ℕ) → (bit_at (2 ^ n) k == 1) ≡ (n == k)
has_one n k =
    elim (cases_eq k n) [
      | inl same ↦ rw (same, bit_at-pow_same n, eq-eqb n n refl) refl
      | inr apart ↦ rw (bit_at-pow_other n k apart, ne_eqb n k (λ h. apart (sym h))) refl
    ]

max_assoc : (a b c : ℕ) → max (max a b) c ≡ max a (max b c)
max_assoc a b c = omega arith

pub or_or : (a b c : ℕ) → bit_or (bit_or a b) c ≡ bit_or a (bit_or b c)
or_or a b c = same_from_bits (bit_or (bit_or a b) c) (bit_or a (bit_or b c)) (λ i.
    bit_at_or (bit_or a b) c i ∙ ap (λ x. max x (bit_at c i)) (bit_at_or a b i) ∙ max_assoc (bit_at a i) (bit_at b i) (bit_at c i)
    ∙ sym (bit_at_or a (bit_or b c) i ∙ ap (λ x. max (bit_at a i) x) (bit_at_or b c i)))

-- the set of those numbers for which a test of each bit says so
bits_by : (P : ℕ → Bool) (set : ℕ) → ((k : ℕ) → (bit_at set k == 1) ≡ P k) → Bits (λ k. P k ≡ true) set
bits_by P set same k = (λ e. sym (same k) ∙ eq-eqb (bit_at set k) 1 e, λ e. eqb-true (bit_at set k) 1 (same k ∙ e))

-- ---- a walk as a set

abbrev pub bits : List ℕ → ℕ
bits [] = 0
bits (n ∷ ns) = bit_or (2 ^ n) (bits ns)

pub bits-append : (ns ms : List ℕ) → bits (ns ++ ms) ≡ bit_or (bits ns) (bits ms)
bits-append [] ms = sym (or_zero_l (bits ms))
bits-append (n ∷ ns) ms = ap (bit_or (2 ^ n)) (bits-append ns ms) ∙ sym (or_or (2 ^ n) (bits ns) (bits ms))

has_bits : (ns : List ℕ) (k : ℕ) → (bit_at (bits ns) k == 1) ≡ is_in k ns
has_bits [] k = ap (λ b. b == 1) (bit_at-zero k)
has_bits (n ∷ ns) k =
    ap (λ b. b == 1) (bit_at_or (2 ^ n) (bits ns) k)
    ∙ bit_test (bit_at (2 ^ n) k) (bit_at (bits ns) k) (bit_at-lt (2 ^ n) k) (bit_at-lt (bits ns) k)
    ∙ ap (λ b. b || (bit_at (bits ns) k == 1)) (has_one n k) ∙ ap (λ b. (n == k) || b) (has_bits ns k)

abbrev pub shown : Walk → Reached
shown w = record { set = bits w.executed; goes_on = w.goes_on }

pub shown_then : (a b : Walk) → shown (a then b) ≡ followed_by (shown a) (shown b)
shown_then a b = by a.executed a.goes_on
  where
    by : (xs : List ℕ) (g : Bool) → let a : Walk = record { executed = xs; goes_on = g } in shown (a then b) ≡ followed_by (shown a) (shown b)
    by xs true = ap (λ (s : ℕ). record { set = s; goes_on = b.goes_on }) (bits-append xs b.executed)
    by xs false = refl

-- the code's numbers, where there are no more than 64 occurrences
pub place_is : (base number : ℕ) → base + number ≤ 64 → place base number ≡ base + number
place_is base number h = mod-eq_of_lt (small (base + number) h)
  where
    small : (n : ℕ) → n ≤ 64 → n < 2 ^ 32
    small n h = omega arith

abbrev set_is : ℕ → Reached
set_is s = record { set = s; goes_on = true }

pub shown_one : (base n m : ℕ) → m ≡ n → base + n < 64 → one (place base m) ≡ shown (body.one (base + n))
shown_one base n m e h =
    ap (λ k. one (place base k)) e ∙ ap one (place_is base n (omega arith)) ∙ ap (λ k. set_is (2 ^ k)) (mod-eq_of_lt h) ∙ ap set_is (sym (or_zero_r (2 ^ (base + n))))

pub shown_bits : (P : ℕ → Type 0) (w : Walk) (r : Reached) → r ≡ shown w → ((k : ℕ) → (is_in k w.executed ≡ true) ↔ P k) → Bits P r.set
shown_bits P w r e f k =
    let same = bits_by (λ j. is_in j w.executed) r.set (λ j. ap (λ (x : Reached). bit_at x.set j == 1) e ∙ has_bits w.executed j) k in
    (λ h. (f k).0 (same.0 h), λ p. same.1 ((f k).1 p))

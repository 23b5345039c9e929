-- A tree without faults is an expression.
use Rattle.std.proofs.Common.{◌≡◌, ◌<◌, ◌+◌, ◌*◌, ◌/◌, ◌%◌, ◌^◌, ℕ, zero, suc, Bool, true, false, ◌==◌, List, [], ◌∷◌, length, map, Option, Some, None, get_or, refl, ap, ◌∙◌, arith}
use Rattle.std.specs.Int.{bit_at}
use native.Mathlib.Nat.{pow-suc}
use Rattle.std.proofs.lemmas.Nat.Bits.{bit_at-suc, bit_at_lowest}
use Rattle.sy_script.specs.declared.tree.Comparison.{Comparison}
use Rattle.sy_script.specs.declared.tree.Span.{Span}
use Rattle.sy_select.specs.declared.condition.ClassTest.TheVariants as decided
use Rattle.sy_select.specs.declared.condition.Test.{Test}
use Rattle.sy_select.specs.declared.condition.Test.TheVariants as test
use Rattle.sy_select.specs.declared.property.Property.{Property}
use Rattle.sy_select.specs.Faults.{Flaw, at_place, faults}
use Rattle.sy_select.specs.Properties.{property_of, test_by, test_of}
use Rattle.sy_select.specs.internal.Masks.{has_bit}
use Rattle.sy_select.specs.Selectors.{IsSetOf, Pairs, pairs_of}
use Rattle.sy_select.specs.Trees.{IsTest, Means, Written, all_faults, operator_faults, property_faults, test_faults}
use Rattle.sy_select.specs.Truth.{Formula}
use Rattle.sy_select.proofs.Found.{both_empty, selector_found}

-- ---- the set of a selector

abbrev bit : Bool → ℕ
bit true = 1
bit false = 0

bit_small : (b : Bool) → bit b < 2
bit_small true = omega arith
bit_small false = omega arith

bit_is : (b : Bool) → (bit b == 1) ≡ b
bit_is true = refl
bit_is false = refl

half_of : (b x : ℕ) → b < 2 → (b + 2 * x) / 2 ≡ x
half_of b x small = omega arith

lowest_of : (b x : ℕ) → b < 2 → (b + 2 * x) % 2 ≡ b
lowest_of b x small = omega arith

-- the number with these bits
abbrev number_with : ℕ → (ℕ → Bool) → ℕ
number_with zero p = 0
number_with (suc k) p = bit (p 0) + 2 * number_with k (λ s. p (suc s))

number_small : (k : ℕ) (p : ℕ → Bool) → number_with k p < 2 ^ k
number_small zero p = omega arith
number_small (suc k) p = omega (arith, pow-suc 2 k, number_small k (λ s. p (suc s)), bit_small (p 0))

number_bits : (k s : ℕ) (p : ℕ → Bool) → s < k → has_bit (number_with k p) s ≡ p s
number_bits zero s p within = absurd (omega arith)
number_bits (suc k) zero p within =
    let n = number_with k (λ s. p (suc s)) in
    let e : bit_at (bit (p 0) + 2 * n) 0 ≡ bit (p 0) = bit_at_lowest (bit (p 0) + 2 * n) ∙ lowest_of (bit (p 0)) n (bit_small (p 0)) in
    ap (λ b. b == 1) e ∙ bit_is (p 0)
number_bits (suc k) (suc s) p within =
    let n = number_with k (λ i. p (suc i)) in
    let e : bit_at (bit (p 0) + 2 * n) (suc s) ≡ bit_at n s = bit_at-suc (bit (p 0) + 2 * n) s ∙ ap (λ m. bit_at m s) (half_of (bit (p 0)) n (bit_small (p 0))) in
    ap (λ b. b == 1) e ∙ number_bits k s (λ i. p (suc i)) (omega arith)

abbrev sets_with : ℕ → Pairs → List ℕ
sets_with zero pairs = []
sets_with (suc n) pairs = number_with 8 (pairs 0) ∷ sets_with n (λ f. pairs (suc f))

sets_size : (n : ℕ) (pairs : Pairs) → length (sets_with n pairs) ≡ n
sets_size zero pairs = refl
sets_size (suc n) pairs = ap suc (sets_size n (λ f. pairs (suc f)))

set_at : (n f : ℕ) (pairs : Pairs) → f < n → get_or (sets_with n pairs) f 0 ≡ number_with 8 (pairs f)
set_at zero f pairs within = absurd (omega arith)
set_at (suc n) zero pairs within = refl
set_at (suc n) (suc f) pairs within = set_at n f (λ g. pairs (suc g)) (omega arith)

-- no faults, no flaws
no_flaws : (span : Span) (flaws : List Flaw) → map (at_place span) flaws ≡ [] → flaws ≡ []
no_flaws span [] none = refl
no_flaws span (flaw ∷ flaws) none = absurd cc

some_set : (text : List ℕ) → faults text ≡ [] → (set : List ℕ) × IsSetOf text set
some_set text right =
    let found = selector_found text right in
    let pairs = pairs_of found.0 in (
      sets_with 24 pairs,
      record {
        parts = found.0;
        is_selector = found.1;
        size = sets_size 24 pairs;
        small = λ f within. rw (set_at 24 f pairs within) (number_small 8 (pairs f));
        same = λ f s within small. rw (set_at 24 f pairs within) (number_bits 8 s (pairs f) small);
      },
    )

-- ---- tests

test_found : (c : Comparison) (p : Option Property) → property_faults c p ≡ [] → (t : Test) × (test_by p c ≡ Some t)
test_found c None right = absurd cc
test_found c (Some p) right = go (test_of p c) refl
  where
    go : (o : Option Test) → test_of p c ≡ o → (t : Test) × (test_of p c ≡ Some t)
    go None e = let bad : operator_faults c None ≡ [] = rw e at right in absurd cc
    go (Some t) e = (t, e)

some_test : (w : Written) → test_faults w ≡ [] → (t : Test) × IsTest w t
some_test (Written.compared c) right = test_found c (property_of c.property.text) right
some_test (Written.selected text) right = let set = some_set text.bytes (no_flaws text.span (faults text.bytes) right) in (test.Class (decided.Selected set.0), set.1)

pub some_meaning : (w : Formula Written) → all_faults w ≡ [] → (x : Formula Test) × Means w x
some_meaning (Formula.Test w) right = let t = some_test w right in (Formula.Test t.0, t.1)
some_meaning (Formula.Not w) right = let x = some_meaning w right in (Formula.Not x.0, x.1)
some_meaning (Formula.Or v w) right =
    let halves = both_empty (all_faults v) (all_faults w) right in
    let x = some_meaning v halves.0 in
    let y = some_meaning w halves.1 in
    (Formula.Or x.0 y.0, (x.1, y.1))
some_meaning (Formula.And v w) right =
    let halves = both_empty (all_faults v) (all_faults w) right in
    let x = some_meaning v halves.0 in
    let y = some_meaning w halves.1 in
    (Formula.And x.0 y.0, (x.1, y.1))
some_meaning Formula.Never right = (Formula.Never, tt)
some_meaning Formula.Always right = (Formula.Always, tt)

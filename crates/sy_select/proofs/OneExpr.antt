-- A selector has one set, and a tree is at most one expression.
use Rattle.std.proofs.Common.{◌≡◌, ◌<◌, ℕ, zero, suc, ◌==◌, List, slice_index, refl, sym, ap, ◌∙◌, arith}
use Rattle.std.specs.Int.{bit_at}
use Rattle.std.proofs.lemmas.List.{ext_get_or}
use Rattle.std.proofs.lemmas.Nat.Bits.{bit_at-lt, same_from_bits_below}
use Rattle.sy_select.specs.declared.condition.ClassTest.TheVariants as decided
use Rattle.sy_select.specs.declared.condition.Test.{Test}
use Rattle.sy_select.specs.declared.condition.Test.TheVariants as test
use Rattle.sy_select.specs.Selectors.{holds, IsSetOf, pairs_of}
use Rattle.sy_select.specs.Trees.{IsTest, Means, Selects, Written}
use Rattle.sy_select.specs.Truth.{Formula}
use Rattle.sy_select.proofs.OneReading.{one_list, same_some}

same_bit : (a b : ℕ) → a < 2 → b < 2 → (a == 1) ≡ (b == 1) → a ≡ b
same_bit zero zero p q e = refl
same_bit zero (suc zero) p q e = cc
same_bit (suc zero) zero p q e = cc
same_bit (suc zero) (suc zero) p q e = refl
same_bit (suc (suc a)) b p q e = absurd (omega arith)
same_bit a (suc (suc b)) p q e = absurd (omega arith)

pub one_set : (text a b : List ℕ) → IsSetOf text a → IsSetOf text b → a ≡ b
one_set text a b p q =
    let parts = one_list text p.parts q.parts p.is_selector q.is_selector in
    ext_get_or 0 a b (p.size ∙ sym q.size) (λ f below.
    let within : f < 24 = rw p.size at below in
    same_from_bits_below 8 (slice_index a f) (slice_index b f) (p.small f within) (q.small f within) (λ s small.
    let same : holds a f s ≡ holds b f s = p.same f s within small ∙ ap (λ ps. pairs_of ps f s) parts ∙ sym (q.same f s within small) in
    same_bit (bit_at (slice_index a f) s) (bit_at (slice_index b f) s) (bit_at-lt (slice_index a f) s) (bit_at-lt (slice_index b f) s) same))

record Chosen (text : List ℕ) (t : Test) : Type 0 where
  set : List ℕ
  is : t ≡ test.Class (decided.Selected set)
  set_is : IsSetOf text set

chosen : (text : List ℕ) (t : Test) → Selects text t → Chosen text t
chosen text (test.Class (decided.Selected set)) is = record { set = set; is = refl; set_is = is }
chosen text _ is = absurd is

one_test : (w : Written) (t u : Test) → IsTest w t → IsTest w u → t ≡ u
one_test (Written.compared c) t u p q = same_some t u (sym p ∙ q)
one_test (Written.selected text) t u p q =
    let a = chosen text.bytes t p in
    let b = chosen text.bytes u q in
    a.is ∙ ap (λ s. test.Class (decided.Selected s)) (one_set text.bytes a.set b.set a.set_is b.set_is) ∙ sym b.is

same_or : {T : Type 0} (a b c d : Formula T) → a ≡ b → c ≡ d → Formula.Or a c ≡ Formula.Or b d
same_or a b c d p q = rw (p, q) refl

same_and : {T : Type 0} (a b c d : Formula T) → a ≡ b → c ≡ d → Formula.And a c ≡ Formula.And b d
same_and a b c d p q = rw (p, q) refl

pub one_meaning : (w : Formula Written) (x y : Formula Test) → Means w x → Means w y → x ≡ y
one_meaning (Formula.Test w) (Formula.Test t) (Formula.Test u) p q = ap Formula.Test (one_test w t u p q)
one_meaning (Formula.Test w) (Formula.Test t) _ p q = absurd q
one_meaning (Formula.Test w) _ _ p q = absurd p
one_meaning (Formula.Not w) (Formula.Not x) (Formula.Not y) p q = ap Formula.Not (one_meaning w x y p q)
one_meaning (Formula.Not w) (Formula.Not x) _ p q = absurd q
one_meaning (Formula.Not w) _ _ p q = absurd p
one_meaning (Formula.Or v w) (Formula.Or a c) (Formula.Or b d) p q = same_or a b c d (one_meaning v a b p.0 q.0) (one_meaning w c d p.1 q.1)
one_meaning (Formula.Or v w) (Formula.Or a c) _ p q = absurd q
one_meaning (Formula.Or v w) _ _ p q = absurd p
one_meaning (Formula.And v w) (Formula.And a c) (Formula.And b d) p q = same_and a b c d (one_meaning v a b p.0 q.0) (one_meaning w c d p.1 q.1)
one_meaning (Formula.And v w) (Formula.And a c) _ p q = absurd q
one_meaning (Formula.And v w) _ _ p q = absurd p
one_meaning Formula.Never Formula.Never Formula.Never p q = refl
one_meaning Formula.Never Formula.Never _ p q = absurd q
one_meaning Formula.Never _ _ p q = absurd p
one_meaning Formula.Always Formula.Always Formula.Always p q = refl
one_meaning Formula.Always Formula.Always _ p q = absurd q
one_meaning Formula.Always _ _ p q = absurd p

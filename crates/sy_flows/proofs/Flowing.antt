-- The flows that are kept of a class.
use Rattle.std.proofs.Common.{◌≡◌, ℕ, ◌+◌, List, [], ◌∷◌, ◌++◌, Some, refl, sym, subst, ◌∙◌, arith, inl, inr}
use Rattle.std.proofs.lemmas.List.{length-append}
use Rattle.std.proofs.lemmas.Option.{slice_get_within}
use Rattle.sy_flows.specs.Flows.{AreEach}
use Rattle.sy_flows.proofs.Rooted.{stood}

module _ {A : Type 0} (P : ℕ → A → Type 0) where
  pub each_none : AreEach P 0 []
  each_none = record {
    length_is = refl;
    each = λ place x is. (let low = slice_get_within [] place x is in absurd (omega (arith, low)));
  }

  pub each_more : (n : ℕ) (xs : List A) (x : A) → AreEach P n xs → P n x → AreEach P (n + 1) (xs ++ x ∷ [])
  each_more n xs x all p =
      let many = all.length_is in
      let longer = length-append xs (x ∷ []) in
      record {
        length_is = omega (arith, many, longer);
        each = λ place y is. elim (stood xs x place y is) [
          | inl before ↦ all.each place y before
          | inr last ↦ subst (λ k. P k y) (sym (last.0 ∙ many)) (subst (P n) (sym last.1) p)
        ];
      }

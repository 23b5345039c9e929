-- A path as its folder and its name.
use Rattle.std.proofs.Common.{◌≡◌, ◌++◌, ◌+◌, ◌<◌, ℕ, suc, List, [], ◌∷◌, take, drop, length, get_or, refl, sym, ap, ◌∙◌, arith, inl, inr}
use Rattle.std.specs.Prelude.{◌≢◌}
use Rattle.std.proofs.lemmas.List.{take_more, length-drop}
use Rattle.sy_diff.specs.Folders.{IsPlace}

take_drop : {A : Type 0} (n : ℕ) (xs : List A) → take n xs ++ drop n xs ≡ xs
take_drop ℕ.zero xs = refl
take_drop (suc n) [] = refl
take_drop (suc n) (x ∷ xs) = ap (λ rest. x ∷ rest) (take_drop n xs)

get_drop : (n : ℕ) (xs : List ℕ) (i k : ℕ) → k ≡ n + i → get_or (drop n xs) i 0 ≡ get_or xs k 0
get_drop ℕ.zero xs i k is = ap (λ at. get_or xs at 0) (omega (arith, is))
get_drop (suc n) [] i k is = refl
get_drop (suc n) (x ∷ xs) i ℕ.zero is = absurd (omega (arith, is))
get_drop (suc n) (x ∷ xs) i (suc k) is = get_drop n xs i k (omega (arith, is))

pub behind_slash : (path : List ℕ) (at : ℕ) → at < length path → get_or path at 0 ≡ 47
    → ((i : ℕ) → at < i → i < length path → get_or path i 0 ≢ 47) → IsPlace path (take (at + 1) path) (drop (at + 1) path)
behind_slash path at small slash later = record {
  whole = take_drop (at + 1) path;
  ends = inr (take at path, take_more path at 0 small ∙ ap (λ byte. take at path ++ byte ∷ []) slash);
  bare = λ i below is. later (at + 1 + i) (omega arith) (omega (arith, below, length-drop (at + 1) path)) (sym (get_drop (at + 1) path i (at + 1 + i) refl) ∙ is);
}

pub no_slash : (path : List ℕ) → ((i : ℕ) → i < length path → get_or path i 0 ≢ 47) → IsPlace path [] path
no_slash path none = record { whole = refl; ends = inl refl; bare = none }

-- A code for expressions, by which a proof tells them apart: their symbols, each after its parts.
use Rattle.std.specs.Prelude.{◌≡◌, ◌⊎◌, ℕ, zero, suc, List, [], ◌∷◌, refl}
use Rattle.std.proofs.Common.{ap, ◌∙◌, inl, inr}
use Rattle.std.specs.Coded.{Coded, code_by, coded_list, coded⊎, coded_ℕ}
use Rattle.sy_select.specs.Truth.{Formula}

module _ {T : Type 0} where
  abbrev pub symbols : Formula T → List (T ⊎ ℕ) → List (T ⊎ ℕ)
  symbols (Formula.Test t) rest = inl t ∷ rest
  symbols (Formula.Not x) rest = symbols x (inr 0 ∷ rest)
  symbols (Formula.Or x y) rest = symbols x (symbols y (inr 1 ∷ rest))
  symbols (Formula.And x y) rest = symbols x (symbols y (inr 2 ∷ rest))
  symbols Formula.Never rest = inr 3 ∷ rest
  symbols Formula.Always rest = inr 4 ∷ rest

  -- the parts so far, the last one first
  abbrev pub placed : T ⊎ ℕ → List (Formula T) → List (Formula T)
  placed (inl t) xs = Formula.Test t ∷ xs
  placed (inr zero) [] = []
  placed (inr zero) (x ∷ xs) = Formula.Not x ∷ xs
  placed (inr (suc zero)) (y ∷ x ∷ xs) = Formula.Or x y ∷ xs
  placed (inr (suc zero)) xs = xs
  placed (inr (suc (suc zero))) (y ∷ x ∷ xs) = Formula.And x y ∷ xs
  placed (inr (suc (suc zero))) xs = xs
  placed (inr (suc (suc (suc zero)))) xs = Formula.Never ∷ xs
  placed (inr (suc (suc (suc (suc n))))) xs = Formula.Always ∷ xs

  abbrev pub built : List (T ⊎ ℕ) → List (Formula T) → List (Formula T)
  built [] xs = xs
  built (c ∷ cs) xs = built cs (placed c xs)

  abbrev pub top : List (Formula T) → Formula T
  top [] = Formula.Never
  top (x ∷ xs) = x

  built-symbols : (x : Formula T) (rest : List (T ⊎ ℕ)) (xs : List (Formula T)) → built (symbols x rest) xs ≡ built rest (x ∷ xs)
  built-symbols (Formula.Test t) rest xs = refl
  built-symbols (Formula.Not x) rest xs = built-symbols x (inr 0 ∷ rest) xs
  built-symbols (Formula.Or x y) rest xs = built-symbols x (symbols y (inr 1 ∷ rest)) xs ∙ built-symbols y (inr 1 ∷ rest) (x ∷ xs)
  built-symbols (Formula.And x y) rest xs = built-symbols x (symbols y (inr 2 ∷ rest)) xs ∙ built-symbols y (inr 2 ∷ rest) (x ∷ xs)
  built-symbols Formula.Never rest xs = refl
  built-symbols Formula.Always rest xs = refl

  pub built_back : (x : Formula T) → top (built (symbols x []) []) ≡ x
  built_back x = ap top (built-symbols x [] [])

  abbrev pub formula_code : Coded T → Coded (Formula T)
  formula_code c = code_by (List (T ⊎ ℕ)) (coded_list (coded⊎ c coded_ℕ)) (λ x. symbols x []) (λ cs. top (built cs [])) built_back

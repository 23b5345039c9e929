-- Numbers are looked through one after the other.
use Rattle.std.proofs.Common.{◌≡◌, ◌<◌, ◌≤◌, ◌+◌, ℕ, List, length, sym, subst, arith, inl, inr}
use Rattle.std.specs.Prelude.{Option, Some, slice_get}
use Rattle.std.proofs.lemmas.Bool.{cases_eq}
use Rattle.std.proofs.lemmas.Option.{slice_get_within}
use Rattle.sy_endpoints.specs.internal.Searches.{NoneBelow}

-- before the first
pub begun : (P : ℕ → Type 0) → NoneBelow P 0
begun P lower less is = omega (arith, less)

-- one more of which it doesn't hold
pub one_more : (P : ℕ → Type 0) (number : ℕ) → NoneBelow P number → (P number → ⊥) → NoneBelow P (number + 1)
one_more P number none not lower less is =
    elim (cases_eq number lower) [
      | inl same ↦ not (subst P (sym same) is)
      | inr apart ↦ none lower (omega (arith, less, apart)) is
    ]

-- all were looked at
pub at_all : (P : ℕ → Type 0) (number : ℕ) → NoneBelow P number → (any : ℕ) → any < number → P any → ⊥
at_all P number none any low is = none any low is

-- what is at one place is one
pub same_there : {A : Type 0} {one other : A} {at : Option A} → at ≡ Some one → at ≡ Some other → one ≡ other
same_there e f = cc

-- what is at a place is before the end
pub there_below : {A : Type 0} (xs : List A) (any : ℕ) (x : A) (number : ℕ) → slice_get xs any ≡ Some x → length xs ≤ number → any < number
there_below xs any x number there high = let low = slice_get_within xs any x there in omega (arith, low, high)

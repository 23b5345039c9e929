-- The members of sets of occurrences, and which inputs are the same.
use Rattle.std.specs.Prelude.{◌≡◌, ℕ, ◌<◌, ◌≤◌, ◌==◌, ◌&&◌, Bool}
use Rattle.std.specs.Int.{bit_at}
use Rattle.sy_site.specs.declared.site.SiteInput.{SiteInput}

-- ---- sets of occurrences

-- the lowest occurrence of a set from a number on
pub record IsNextIn (set from number : ℕ) : Type 0 where
  pub member : bit_at set number ≡ 1
  pub behind : from ≤ number
  pub small : number < 64
  pub lowest : (k : ℕ) → from ≤ k → k < number → bit_at set k ≡ 1 → ⊥

-- it has none from there on
abbrev pub HasNoneFrom : ℕ → ℕ → Type 0
HasNoneFrom set from = (k : ℕ) → from ≤ k → bit_at set k ≡ 1 → ⊥

-- ---- inputs found so far

abbrev pub same_input : SiteInput → SiteInput → Bool
same_input a b = a.relay == b.relay && a.input == b.input

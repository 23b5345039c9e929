-- Finishes: a byte for each entry of a log, 0 while it has work left.
use Rattle.std.specs.Prelude.{◌≡◌, ◌<◌, ℕ, List, [], ◌∷◌}

-- the same bytes, some of them maybe lost: none is set that wasn't
abbrev pub Fades : List ℕ → List ℕ → Type 0
Fades [] found = found ≡ []
Fades (s ∷ set) [] = ⊥
Fades (s ∷ set) (c ∷ found) = (s ≡ 0 → c ≡ 0) × Fades set found

-- whatever a crash leaves of them now, none is set that wasn't
abbrev pub AreSound : {S : Type 0} → (S → List ℕ) → (S → List ℕ → Type 0) → S → Type 0
AreSound seen may_leave finishes = (c : List ℕ) → may_leave finishes c → Fades (seen finishes) c

-- none of these bytes is a zero
abbrev pub AllSet : List ℕ → Type 0
AllSet [] = Unit {0}
AllSet (b ∷ bytes) = (0 < b) × AllSet bytes

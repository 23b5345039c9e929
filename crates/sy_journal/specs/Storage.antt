-- What the calls of a device do to its file, and what a crash may do between two syncs.
use Rattle.std.specs.Prelude.{◌<◌, ◌≡◌, ◌⊎◌, ℕ, zero, suc, ◌≤◌, List, [], ◌∷◌, Result, IsErrOf}
use Rattle.sy_journal.specs.declared.storage.StorageError.{StorageError}
use Rattle.sy_journal.specs.declared.storage.StorageError.TheVariants.{Failed, Full}

-- the file with these bytes written at this offset
abbrev pub written_at : ℕ → List ℕ → List ℕ → List ℕ
written_at at bytes [] = []
written_at zero [] (o ∷ old) = o ∷ old
written_at zero (b ∷ bytes) (o ∷ old) = b ∷ written_at zero bytes old
written_at (suc at) bytes (o ∷ old) = o ∷ written_at at bytes old

-- after such a write that a crash cuts short: each byte in the range is the old one or the written one, the others are the old ones
abbrev pub Torn : ℕ → List ℕ → List ℕ → List ℕ → Type 0
Torn at bytes [] new = new ≡ []
Torn at bytes (o ∷ old) [] = ⊥
Torn zero [] (o ∷ old) (c ∷ new) = (c ≡ o) × (new ≡ old)
Torn zero (b ∷ bytes) (o ∷ old) (c ∷ new) = ((c ≡ o) ⊎ (c ≡ b)) × Torn zero bytes old new
Torn (suc at) bytes (o ∷ old) (c ∷ new) = (c ≡ o) × Torn at bytes old new

-- each new outcome of a crash is an old outcome after a step
abbrev pub Follows : (List ℕ → List ℕ → Type 0) → (List ℕ → Type 0) → (List ℕ → Type 0) → Type 0
Follows step old new = (c : List ℕ) → new c → (d : List ℕ) × old d × step d c

-- a crash leaves this and nothing else
abbrev pub Only : List ℕ → (List ℕ → Type 0) → Type 0
Only file outcomes = (c : List ℕ) → outcomes c → c ≡ file

-- Time goes on: a crash since t might have left what it might have left before, or what it may leave now.
pub record Elapses (before now : ℕ) (past since : ℕ → List ℕ → Type 0) (may_leave : List ℕ → Type 0) : Type 0 where
  pub later : before ≤ now
  pub nothing_else : (t : ℕ) (c : List ℕ) → t ≤ before → since t c → past t c ⊎ may_leave c
  pub keeps : (t : ℕ) (c : List ℕ) → t ≤ before → past t c → since t c

-- A crash at any moment since old leaves a file that has P.
pub record LeavesOnly {S : Type 0} (moment : S → ℕ) (left_since : S → ℕ → List ℕ → Type 0) (old new : S) (P : List ℕ → Type 0) : Type 0 where
  pub later : moment old ≤ moment new
  pub each : (c : List ℕ) → left_since new (moment old) c → P c
  -- for a run that began earlier
  pub before : (t : ℕ) (c : List ℕ) → t ≤ moment old → left_since new t c → left_since old t c ⊎ P c

-- `Failed` is told only where the disk has failed since, and `Full` isn't told
pub record HasCause {T : Type 0} (before now : ℕ) (result : Result T StorageError) : Type 0 where
  pub later : before ≤ now
  pub failed : IsErrOf result Failed → before < now
  pub not_full : IsErrOf result Full → ⊥

-- What the host answered to the calls on a file to whose end lines are written, the last first.
use Rattle.std.specs.Prelude.{ℕ, ◌==◌, Bool, true, List, [], ◌∷◌, ◌++◌}

-- which call, and the bytes that it took
abbrev pub Call : Type 0
Call = ℕ × List ℕ

-- a write that answered that it took these
abbrev pub took : List ℕ → Call
took bytes = (0, bytes)

-- a sync that answered that the disk has all
abbrev pub synced : Call
synced = (1, [])

-- the bytes that were taken, in order
abbrev pub taken : List Call → List ℕ
taken [] = []
taken (call ∷ earlier) = taken earlier ++ call.1

-- nothing was written since the last sync that answered so, or since the file was opened
abbrev pub is_synced : List Call → Bool
is_synced [] = true
is_synced (call ∷ earlier) = call.0 == 1

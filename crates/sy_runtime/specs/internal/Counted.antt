-- What all connections of a relay counted so far, as who has its lock knows it.
use Rattle.std.specs.Prelude.{◌≡◌, ℕ, ◌+◌, IfSome, Option}
use Rattle.sy_board.specs.relay.Boards.{BoardState}
use Rattle.sy_runtime.specs.Connections.{Counts}

-- This holds each time the lock is free: of the frames of all connections the messages were taken, and the others carry none; and until the relay
-- stops, the messages are those that its board took.
pub record IsCounted (board : Option BoardState) (counts : Counts) : Type 0 where
  pub frames : counts.frames ≡ counts.took + counts.unread
  pub taken : IfSome board (λ board. board.totals.taken ≡ counts.took)

-- The counts of all connections rose by what this one's did, and each frame more is a message that was taken, or carries none.
pub record RoseAlike (all all' end end' : Counts) : Type 0 where
  pub frames : all'.frames + end.frames ≡ all.frames + end'.frames
  pub unread : all'.unread + end.unread ≡ all.unread + end'.unread
  pub took : all'.took + end.took ≡ all.took + end'.took
  pub once : all'.frames + (all.took + all.unread) ≡ all.frames + (all'.took + all'.unread)

-- What a relay tells of frames and messages is what its connections counted.
pub record ReportsCounts (frames unread taken : ℕ) (counts : Counts) : Type 0 where
  pub frames_are : frames ≡ counts.frames
  pub unread_are : unread ≡ counts.unread
  pub taken_are : taken ≡ counts.took

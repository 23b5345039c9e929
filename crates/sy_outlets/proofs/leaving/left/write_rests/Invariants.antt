use Rattle.std.proofs.Common.{ℕ, List, length}
use Rattle.std.specs.Prelude.{Option}
use Rattle.std.specs.Io.KnownBytes.{Appends}
use Rattle.sy_wire.specs.Frames.{stream}
use Rattle.sy_outlets.specs.Left.{AreRests}
use Rattle.sy_outlets.proofs.leaving.left.write_rests.Given as goal

-- with the frames of the connections that are left, those of all were written
abbrev pub invariant-loop-untaken : goal.invariant-loop-untaken
invariant-loop-untaken g l =
    (end : Option (List ℕ)) (texts : List (List ℕ)) → AreRests l.all.items texts → Appends (g.W.Sink.contents l.writer) end (stream texts)
    → (texts : List (List ℕ)) × AreRests l.initial.all.items texts × Appends (g.W.Sink.contents l.initial.writer) end (stream texts)

abbrev pub decreases-loop-untaken : goal.decreases-loop-untaken
decreases-loop-untaken g l = length l.all.items

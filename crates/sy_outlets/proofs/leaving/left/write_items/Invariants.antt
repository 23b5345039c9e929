use Rattle.std.proofs.Common.{ℕ, List, length, map}
use Rattle.std.specs.Prelude.{Option}
use Rattle.std.specs.Io.KnownBytes.{Appends}
use Rattle.sy_wire.specs.Frames.{stream}
use Rattle.sy_runtime.specs.Connections.{text_of}
use Rattle.sy_outlets.proofs.leaving.left.write_items.Given as goal

-- with the frames of what is left, those of all were written
abbrev pub invariant-loop-item : goal.invariant-loop-item
invariant-loop-item g l =
    (end : Option (List ℕ)) → Appends (g.W.Sink.contents l.writer) end (stream (map text_of l.items.items))
    → Appends (g.W.Sink.contents l.initial.writer) end (stream (map text_of l.initial.items.items))

abbrev pub decreases-loop-item : goal.decreases-loop-item
decreases-loop-item g l = length l.items.items

use Rattle.std.proofs.Common.{ℕ, List, drop}
use Rattle.std.specs.Prelude.{Option}
use Rattle.std.specs.Io.KnownBytes.{Appends}
use Rattle.sy_wire.specs.Frames.{stream}
use Rattle.sy_outlets.specs.Left.{texts_of}
use Rattle.sy_outlets.proofs.leaving.left.write_held.Given as goal

-- with the frames of the entries that are left, those of all were written
abbrev pub invariant-loop-entry : goal.invariant-loop-entry
invariant-loop-entry g l =
    (end : Option (List ℕ)) → Appends (g.W.Sink.contents l.writer) end (stream (texts_of l.input (drop l.entry-index l.entries)))
    → Appends (g.W.Sink.contents l.initial.writer) end (stream (texts_of l.input l.entries))

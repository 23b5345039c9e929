use Rattle.sy_relp.specs.internal.Streams.{Fed}
use Rattle.sy_relp.proofs.hear.next_frame.Given as goal

abbrev pub invariant-loop : goal.invariant-loop
invariant-loop g l = Fed (g.R.Source.remaining l.initial.reader) (g.R.Source.remaining l.reader) l.initial.frames.left l.frames.left

use Rattle.std.proofs.Common.{ap}
use Rattle.sy_wire.specs.Frames.{Held}
use Rattle.sy_wire.proofs.Opens.{nothing_is_open}
use Rattle.sy_passing.proofs.Ready.{idle_first}
use Rattle.sy_passing.proofs.pass.pass_lines.Goals as goal

pub turns-ended-requires-clause-between : goal.turns-ended-requires-clause-between
turns-ended-requires-clause-between g c = record {
  idle = idle_first _ c.requires;
  good = ap (λ (f : Held). f.has_failed) c.new-framer.ensures;
  is_open = rw c.new-framer.ensures nothing_is_open;
}

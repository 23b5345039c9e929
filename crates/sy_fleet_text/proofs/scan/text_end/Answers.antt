use Rattle.std.proofs.Common.{arith, sym, ◌∙◌}
use Rattle.sy_fleet_text.specs.Stretches.{first, more}
use Rattle.sy_fleet_text.proofs.scan.text_end.Goals as goal

pub loop-at-init : goal.loop-at-init
loop-at-init c = (omega arith, omega arith, first)

pub loop-at-preserved : goal.loop-at-preserved
loop-at-preserved c = (omega arith, omega arith, rw c.escapes-is_escaped.ensures (more c.loop-at.invariant.2 (sym c.ends_text.ensures ∙ c.if-ends_text.false)))

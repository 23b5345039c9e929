use Rattle.std.proofs.Common.{sym, ap, subst}
use Rattle.sy_wire.specs.Frames.{Held, IsOpen}
use Rattle.sy_wire.proofs.Opens.{nothing_is_open}
use Rattle.sy_runtime.proofs.between.Connection.new.Goals as goal

pub invariant_of-result : goal.invariant_of-result
invariant_of-result c = (ap (λ (h : Held). h.has_failed) c.new.ensures, subst (λ (h : Held). IsOpen h.left) (sym c.new.ensures) nothing_is_open)

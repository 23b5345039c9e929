use Rattle.std.proofs.Common.{◌≡◌, ℕ, ◌≤◌, Fits, w16, arith}
use Rattle.sy_rules.proofs.lemmas.parameters.Ranges.{input_port}
use Rattle.sy_rules.proofs.items.borrowed.port_of.Goals as goal

fits_16 : (n m : ℕ) → n ≡ m → m ≤ 65535 → Fits w16 n
fits_16 n m e le = omega (arith, e, le)

pub overflow_cast-result : goal.overflow_cast-result
overflow_cast-result c = fits_16 _ _ c.number_of.ensures (omega (arith, (input_port c.args.params.now c.requires).greatest))

use Rattle.std.proofs.Common.{◌≡◌, ℕ, ◌≤◌, Fits, w16, arith}
use Rattle.sy_rules.proofs.lemmas.parameters.Ranges.{input_port}
use Rattle.sy_rules.proofs.parameters.objects.read_input.Goals as goal

fits_16 : (n m : ℕ) → n ≡ m → m ≤ 65535 → Fits w16 n
fits_16 n m e le = omega (arith, e, le)

pub overflow_cast-port : goal.overflow_cast-port
overflow_cast-port c = fits_16 _ _ c.number_of-port.ensures (omega (arith, (input_port c.args.params.now c.requires).greatest))

pub returns-clause-port : goal.returns-clause-port
returns-clause-port c = omega (arith, c.number_of-port.ensures, (input_port c.args.params.now c.requires).least)

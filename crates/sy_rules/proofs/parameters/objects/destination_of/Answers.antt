use Rattle.std.proofs.Common.{◌≡◌, ℕ, ◌≤◌, Fits, w16, arith}
use Rattle.sy_rules.proofs.lemmas.parameters.Ranges.{forward_port}
use Rattle.sy_rules.proofs.parameters.objects.destination_of.Goals as goal

fits_16 : (n m : ℕ) → n ≡ m → m ≤ 65535 → Fits w16 n
fits_16 n m e le = omega (arith, e, le)

pub overflow_cast-port : goal.overflow_cast-port
overflow_cast-port c =
    let between = forward_port c.args.params.now (rw c.in-Forward.is at c.requires) in
    fits_16 _ _ c.number_of-port.ensures (omega (arith, between.greatest))

pub returns-in_ok-target-in-Forward-clause-port : goal.returns-in_ok-target-in-Forward-clause-port
returns-in_ok-target-in-Forward-clause-port c =
    let between = forward_port c.args.params.now (rw c.in-Forward.is at c.requires) in
    omega (arith, c.number_of-port.ensures, between.least)

-- Classes of one number.
use Rattle.std.proofs.Common.{◌≡◌, ◌+◌, ◌*◌, arith}
use Rattle.sy_wire.specs.declared.class.Class.{Class}
use Rattle.sy_board.proofs.relay.SamePairs.{same_class}

pub one_class : (a b : Class) → 8 * a.facility + a.severity ≡ 8 * b.facility + b.severity → a ≡ b
one_class a b e =
    let f : a.facility ≡ b.facility = omega (arith, e, a.severity_in_range, b.severity_in_range) in
    let s : a.severity ≡ b.severity = omega (arith, e, a.severity_in_range, b.severity_in_range) in
    same_class a b f s

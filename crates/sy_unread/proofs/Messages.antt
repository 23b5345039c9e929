-- A message has bytes.
use Rattle.std.proofs.Common.{◌≡◌, ℕ, ◌<◌, [], ◌∷◌, ◌++◌, length, ap, arith, length-append}
use Rattle.sy_wire.specs.Messages.{IsMessage, Said}

pub message_some : (m : Said) → IsMessage m → 0 < length m.raw
message_some m is =
    let pri : length is.pri ≡ length (60 ∷ is.is_pri.0 ++ 62 ∷ []) = ap length is.is_pri.2 in
    let whole = ap length is.text in
    omega (arith, length-append {A = ℕ}, whole, pri)

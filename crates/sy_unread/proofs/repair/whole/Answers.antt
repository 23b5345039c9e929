use Rattle.std.proofs.Common.{◌<◌, ap, sym, refl, [], arith, length}
use Rattle.sy_wire.proofs.Options.{if_none_then}
use Rattle.sy_unread.proofs.Repairing.{said_of, too_many, whole_message, whole_within}
use Rattle.sy_unread.proofs.Classes.{same_number}
use Rattle.sy_unread.proofs.repair.whole.Goals as goal

pub returns-clause-none : goal.returns-clause-none
returns-clause-none c =
    let n = c.in_ok-number.number in
    let low : n < 192 = c.in_ok-number.ensures.low in
    let bytes = c.args.bytes.now in
    let is = c.in_ok-text.ensures in
    if_none_then c.checked.result c.checked.ensures.none
    (λ never. too_many 65517 (length bytes)
    (λ few. never (said_of n low bytes) [] (whole_message n bytes low) (sym is)
    (let within = whole_within n bytes low in let whole = ap length is in omega arith) refl (λ how. refl) (same_number n)))

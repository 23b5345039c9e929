use Rattle.std.proofs.Common.{◌≡◌, false, take, drop}
use Rattle.sy_unread.specs.internal.Fields.{value_at}
use Rattle.sy_unread.proofs.FieldTexts.{with_front}
use Rattle.sy_unread.proofs.fields.value.Given as goal

abbrev pub invariant-loop-i : goal.invariant-loop-i
invariant-loop-i l = with_front (take l.i l.bytes) (value_at l.is_escaped (drop l.i l.bytes)) ≡ value_at false l.bytes

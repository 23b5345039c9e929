use Rattle.std.proofs.Common.{◌≡◌, ◌++◌, false, drop}
use Rattle.sy_unread.specs.internal.Fields.{unescaped_at}
use Rattle.sy_unread.proofs.fields.unescaped.Given as goal

abbrev pub invariant-loop-byte : goal.invariant-loop-byte
invariant-loop-byte l = l.bytes.items ++ unescaped_at l.is_escaped (drop l.byte-index l.value) ≡ unescaped_at false l.value

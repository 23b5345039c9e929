use Rattle.std.proofs.Common.{◌≡◌, ◌++◌, drop}
use Rattle.sy_unread.specs.Records.{escaped}
use Rattle.sy_unread.proofs.parts.append_escaped.Given as goal

-- what was appended, and the bytes that are left
abbrev pub invariant-loop-byte : goal.invariant-loop-byte
invariant-loop-byte l = l.text.items ++ escaped (drop l.byte-index l.value) ≡ l.initial.text.items ++ escaped l.value

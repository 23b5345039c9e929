use Rattle.std.proofs.Common.{◌≡◌, ◌++◌, drop, map}
use Rattle.sy_unread.specs.Repairs.{name_byte}
use Rattle.sy_unread.proofs.names.append_bytes.Given as goal

-- what was appended, and the bytes that are left
abbrev pub invariant-loop-byte : goal.invariant-loop-byte
invariant-loop-byte l = l.text.items ++ map name_byte (drop l.byte-index l.name) ≡ l.initial.text.items ++ map name_byte l.name

use Rattle.std.proofs.Common.{◌≡◌, ◌++◌, drop, flat_map}
use Rattle.sy_unread.specs.Shown.{shown_byte}
use Rattle.sy_unread.proofs.summary.shown.append_safe.Given as goal

-- what was appended, and the bytes that are left
abbrev pub invariant-loop-byte : goal.invariant-loop-byte
invariant-loop-byte l = l.text.items ++ flat_map shown_byte (drop l.byte-index l.bytes) ≡ l.initial.text.items ++ flat_map shown_byte l.bytes

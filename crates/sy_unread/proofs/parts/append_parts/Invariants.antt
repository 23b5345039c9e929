use Rattle.std.proofs.Common.{◌≡◌, ◌++◌, drop, flat_map}
use Rattle.sy_unread.specs.internal.{part_text}
use Rattle.sy_unread.proofs.parts.append_parts.Given as goal

-- what was appended, and the parts that are left
abbrev pub invariant-loop-part : goal.invariant-loop-part
invariant-loop-part l =
    l.text.items ++ flat_map part_text (drop l.part-index l.parts) ≡ l.initial.text.items ++ flat_map part_text l.parts

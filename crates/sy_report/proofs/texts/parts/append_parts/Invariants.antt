use Rattle.std.proofs.Common.{◌≡◌, ◌++◌, drop, flat_map}
use Rattle.sy_report.specs.Parts.{part_text}
use Rattle.sy_report.proofs.texts.parts.append_parts.Given as goal

-- what was put, and the parts that are left to put
abbrev pub invariant-loop-part : goal.invariant-loop-part
invariant-loop-part l =
    l.text.items ++ flat_map part_text (drop l.part-index l.parts) ≡ l.initial.text.items ++ flat_map part_text l.parts

use Rattle.std.proofs.Common.{◌≡◌, ◌++◌, length}
use Rattle.sy_report.specs.Printed.{printed}
use Rattle.sy_report.proofs.texts.printed.append_printed.Given as goal

-- what was put, and what is printed of the rest
abbrev pub invariant-loop-piece : goal.invariant-loop-piece
invariant-loop-piece l = l.text.items ++ printed l.rest ≡ l.initial.text.items ++ printed l.name

abbrev pub decreases-loop-piece : goal.decreases-loop-piece
decreases-loop-piece l = length l.rest

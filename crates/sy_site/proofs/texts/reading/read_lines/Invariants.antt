use Rattle.std.proofs.Common.{◌≤◌, ◌+◌, length}
use Rattle.sy_site.proofs.lemmas.texts.Found.{Found}
use Rattle.sy_site.proofs.texts.reading.read_lines.Given as goal

abbrev pub invariant-loop-line : goal.invariant-loop-line
invariant-loop-line l = Found l.text l.rest l.found.items l.number × (l.number + length l.rest ≤ length l.text + 1)

abbrev pub decreases-loop-line : goal.decreases-loop-line
decreases-loop-line l = length l.rest

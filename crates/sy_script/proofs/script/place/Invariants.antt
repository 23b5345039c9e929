use Rattle.std.proofs.Common.{◌≡◌, ◌+◌, ◌≤◌, drop}
use Rattle.sy_script.specs.internal.Answer.{place, place_from}
use Rattle.sy_script.proofs.script.place.Given as goal

abbrev pub invariant-loop-b : goal.invariant-loop-b
invariant-loop-b l = (place_from l.line l.column (drop l.b-index l.before) ≡ place l.before) × (l.line ≤ l.b-index + 1) × (l.column ≤ l.b-index + 1)

use Rattle.std.proofs.Common.{◌≤◌, ◌+◌, length, map}
use Rattle.std.specs.String.{string_bytes}
use Rattle.sy_site.proofs.lemmas.texts.Noted.{Noted}
use Rattle.sy_site.proofs.texts.names.file_names.Given as goal

abbrev pub invariant-loop-line : goal.invariant-loop-line
invariant-loop-line l = Noted l.text l.rest (map string_bytes l.names.items) l.relays l.number × (l.number + length l.rest ≤ length l.text + 1)

abbrev pub decreases-loop-line : goal.decreases-loop-line
decreases-loop-line l = length l.rest

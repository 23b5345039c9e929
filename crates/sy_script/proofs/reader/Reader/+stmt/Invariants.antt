use Rattle.std.proofs.Common.{◌≡◌, ◌+◌, ◌-◌, ◌*◌}
use Rattle.sy_script.specs.declared.token.Kind.TheVariants as k
use Rattle.sy_script.specs.internal.Reading.{items_from}
use Rattle.sy_script.specs.internal.ReadingStmt.{stmt, body}
use Rattle.sy_script.proofs.reader.Reader.+stmt.Given as goal

abbrev pub decreases-block : goal.decreases-block
decreases-block l = 8 * l.place.left

abbrev pub decreases-branches : goal.decreases-branches
decreases-branches l = 8 * l.place.left + 1

abbrev pub decreases-choice : goal.decreases-choice
decreases-choice l = 8 * l.place.left + 2

abbrev pub decreases-stmt : goal.decreases-stmt
decreases-stmt l = 8 * l.place.left + 3

abbrev pub decreases-body : goal.decreases-body
decreases-body l = 8 * l.place.left + 4

abbrev pub invariant-body-loop-turn : goal.invariant-body-loop-turn
invariant-body-loop-turn l = body l.self.text.now l.place.left l.place.opened l.tokens ≡ items_from k.RightBrace l.place.opened (stmt l.self.text.now l.place.left l.place.opened) (l._turn-end - l._turn) l.found l.rest

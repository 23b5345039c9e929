use Rattle.std.proofs.Common.{◌≡◌, length}
use Rattle.sy_checker.specs.internal.Inner.{number_at}
use Rattle.sy_checker.proofs.RowsMade.{AreMadeBelow}
use Rattle.sy_checker.proofs.making.rows_for.Given as goal

abbrev pub invariant-loop-is : goal.invariant-loop-is
invariant-loop-is l = AreMadeBelow l.site l.class l.part l.ranks (number_at l.numbers) l.rows.items l.is-index × (length l.rows.items ≡ l.is-index)

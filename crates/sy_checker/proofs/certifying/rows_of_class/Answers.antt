use Rattle.std.proofs.Common.{subst, sym}
use Rattle.sy_site.specs.machine.Soundness.{AreRanks}
use Rattle.sy_fit.specs.Fit.{AreWanted}
use Rattle.sy_checker.specs.internal.Inner.{AreNumbers, number_at}
use Rattle.sy_checker.specs.internal.Loops.{rank_at}
use Rattle.sy_checker.proofs.certifying.rows_of_class.Goals as goal

pub rows_for-requires-clause-wanted : goal.rows_for-requires-clause-wanted
rows_for-requires-clause-wanted c = subst (AreWanted c.args.site.now c.args.class) (sym c.as_slice-2.ensures.value) c.in_ok-part.ensures

pub rows_for-requires-clause-ranks : goal.rows_for-requires-clause-ranks
rows_for-requires-clause-ranks c =
    subst (λ l. AreRanks c.args.site.now c.args.class (rank_at l)) (sym c.as_slice-3.ensures.value) c.requires.course.ranks

pub rows_for-requires-clause-numbers : goal.rows_for-requires-clause-numbers
rows_for-requires-clause-numbers c =
    subst (λ l. AreNumbers c.args.site.now c.args.class (number_at l)) (sym c.as_slice-4.ensures.value) c.requires.course.numbers

pub returns-clause-ok : goal.returns-clause-ok
returns-clause-ok c = record {
  part = c.as_slice-2.result.now;
  are_wanted = subst (AreWanted c.args.site.now c.args.class) (sym c.as_slice-2.ensures.value) c.in_ok-part.ensures;
  right = c.in_ok-rows.ensures.ok;
  many = c.in_ok-rows.ensures.length;
}

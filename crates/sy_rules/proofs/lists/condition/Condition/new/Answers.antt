use Rattle.std.proofs.Common.{◌+◌, subst, sym}
use Rattle.std.proofs.Math.ListN.{set}
use Rattle.std.proofs.lemmas.Bool.{and_parts}
use Rattle.sy_rules.proofs.lemmas.lists.ClassVerdicts.{JudgedSoFar, free_more, judged_more}
use Rattle.sy_rules.proofs.lists.condition.Condition.new.Goals as goal

pub loop-facility-preserved : goal.loop-facility-preserved
loop-facility-preserved c =
    let n = c.loop-facility.facility in
    let x = c.args.expr in
    let v = c.verdicts_of-found.result in
    record {
      judged = subst (λ f. JudgedSoFar (n + 1) x (set c.loop-facility.verdicts f v)) (sym c.from.ensures)
          (judged_more n x c.loop-facility.verdicts v c.loop-facility.invariant.judged c.loop-facility-test.true c.verdicts_of-found.ensures);
      free = free_more n x v c.loop-facility.free c.are_free-free.result _ c.loop-facility.invariant.free c.verdicts_of-found.ensures c.are_free-free.ensures
          (λ both. and_parts c.loop-facility.free c.are_free-free.result both);
    }

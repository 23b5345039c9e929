use Rattle.std.proofs.Common.{◌+◌, sym, refl, subst}
use Rattle.sy_rules.proofs.lemmas.lists.ClassVerdicts.{SaidSoFar, said_either, said_no, said_yes}
use Rattle.sy_rules.proofs.lists.condition.verdicts_of.Goals.{in-Yes, in-Either, in-No}
use Rattle.sy_rules.proofs.lists.condition.verdicts_of.Goals as goal

pub loop-severity-preserved : goal.loop-severity-preserved
loop-severity-preserved c =
    let n = c.loop-severity.severity in
    let x = c.args.expr.now in
    let So_far = SaidSoFar (n + 1) x c.args.facility in
    elim c.match-eval_class.branch [
      | in-Yes w ↦ subst So_far (sym w.found-is) (said_yes n x c.args.facility c.loop-severity.found _ refl refl c.loop-severity.invariant c.eval_class.result c.eval_class.ensures c.only-bit.result c.only-bit.ensures w.in-Yes.is)
      | in-Either w ↦ subst So_far (sym w.found-is) (said_either n x c.args.facility c.loop-severity.found _ refl refl c.loop-severity.invariant c.eval_class.result c.eval_class.ensures c.only-bit.result c.only-bit.ensures w.in-Either.is)
      | in-No w ↦ subst So_far (sym w.found-is) (said_no n x c.args.facility c.loop-severity.found _ refl refl c.loop-severity.invariant c.eval_class.result c.eval_class.ensures c.only-bit.result c.only-bit.ensures w.in-No.is)
    ]

use Rattle.std.proofs.Common.{drop, get_or, length, refl, subst, sym, take}
use Rattle.std.proofs.lemmas.List.{take_all}
use Rattle.std.proofs.lemmas.Option.{slice_get_read}
use Rattle.sy_fit.specs.Acceptance.{AreReached}
use Rattle.sy_fit.specs.Fit.{AreWrong}
use Rattle.sy_fit.proofs.Guarded.{take_next}
use Rattle.sy_fit.specs.internal.Verifying.{IsJudged}
use Rattle.sy_fit.proofs.Verified.{done_left, next_right, no_later, whole_rest}
use Rattle.sy_fit.proofs.verifying.check_rows.Goals as goal

pub loop-class-preserved : goal.loop-class-preserved
loop-class-preserved c =
    let site = c.args.site.now in
    let rows = c.args.rows.now in
    let done = c.loop-class.done in
    let judged =
    subst (λ l. IsJudged site c.class-item.result l c.in-Ok.judged) (whole_rest rows done) c.in-Ok.ensures.judged in (
      next_right site c.args.classes.now rows done c.loop-class.class-index c.class-item.result c.loop-class-test.true c.loop-class.invariant.0
          c.in-Right.count
          (subst (λ j. IsJudged site (get_or c.args.classes.now c.loop-class.class-index c.class-item.result) (drop done rows) j) c.in-Right.is
          (subst (λ k. IsJudged site k (drop done rows) c.in-Ok.judged) c.class-item.is judged)),
      subst (λ l. AreReached site l c.judge_next.new.pairs.items)
          (take_next c.args.classes.now c.loop-class.class-index c.class-item.result c.loop-class-test.true c.class-item.is)
          (c.in-Ok.ensures.pairs (take c.loop-class.class-index c.args.classes.now) c.loop-class.invariant.1),
      c.in-Ok.ensures.walks,
    )

pub returns-in-Some-clause-err : goal.returns-in-Some-clause-err
returns-in-Some-clause-err c =
    let site = c.args.site.now in
    let classes = c.args.classes.now in
    let rows = c.args.rows.now in
    let done = c.loop-class.done in
    let at = slice_get_read rows (length rows) done c.in-Some.row.now refl c.in-Some.ensures.lookup.3.0 c.in-Some.ensures.lookup.1 in
    let all = no_later site classes rows done c.loop-class.class-index c.loop-class-test.false c.loop-class.invariant.0 in (
      done,
      subst (AreWrong site classes rows done) (sym c.row_kind-row.ensures) (done_left site classes rows done all c.in-Some.row.now at),
      refl,
    )

pub returns-in-None-clause-pairs : goal.returns-in-None-clause-pairs
returns-in-None-clause-pairs c =
    subst (λ l. AreReached c.args.site.now l c.loop-class.pairs.items) (take_all c.loop-class.class-index c.args.classes.now c.loop-class-test.false)
    c.loop-class.invariant.1

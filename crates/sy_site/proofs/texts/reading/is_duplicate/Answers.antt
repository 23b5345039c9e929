use Rattle.std.proofs.Common.{arith}
use Rattle.sy_site.specs.internal.Reading.{words_given}
use Rattle.sy_site.proofs.lemmas.texts.Again.{again_end, again_here, again_next, again_on}
use Rattle.sy_site.proofs.texts.reading.is_duplicate.Goals as goal

pub returns-then-gives_again-clause-again : goal.returns-then-gives_again-clause-again
returns-then-gives_again-clause-again c = λ e.
    c.loop-earlier.invariant.0 (again_here c.args.found.now (words_given c.args.line.now) c.loop-earlier.earlier-index c.earlier-item.result
    c.loop-earlier-test.true c.earlier-item.is (c.gives_again.ensures.again c.if-gives_again.true))

pub loop-earlier-preserved : goal.loop-earlier-preserved
loop-earlier-preserved c =
    let found = c.args.found.now in
    let line = words_given c.args.line.now in
    let place = c.loop-earlier.earlier-index in
    let first = c.earlier-item.result in (
      λ d. c.loop-earlier.invariant.0 (again_on found line place first c.loop-earlier-test.true c.earlier-item.is d),
      λ d. again_next found line place first c.loop-earlier-test.true c.earlier-item.is (c.gives_again.ensures.apart c.if-gives_again.false)
          (c.loop-earlier.invariant.1 d),
    )

pub returns-clause-new : goal.returns-clause-new
returns-clause-new c = λ e d.
    again_end c.args.found.now (words_given c.args.line.now) c.loop-earlier.earlier-index (omega arith) (c.loop-earlier.invariant.1 d)

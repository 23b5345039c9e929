use Rattle.std.proofs.Common.{arith}
use Rattle.sy_site.proofs.lemmas.sites.More.{outsides_at, outsides_end}
use Rattle.sy_site.proofs.texts.outsides.outsides.Goals as goal

pub loop-given-preserved : goal.loop-given-preserved
loop-given-preserved c =
    outsides_at c.args.found.now c.loop-given.given-index c.given-item.result c.loop-given.outsides.items _ (omega (arith, c.loop-given-test.true))
    c.given-item.is c.in_ok-push_outside.ensures.outsides c.loop-given.invariant

pub returns-clause-outsides : goal.returns-clause-outsides
returns-clause-outsides c =
    outsides_end c.args.found.now c.loop-given.given-index c.loop-given.outsides.items (omega (arith, c.loop-given-test.false)) c.loop-given.invariant

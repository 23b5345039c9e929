use Rattle.std.proofs.lemmas.Bool.{false≢true}
use Rattle.sy_fit.proofs.Paths.{goes_first, goes_nowhere_at, goes_on_at, goes_to_end}
use Rattle.sy_fit.proofs.path.is_path_from.Goals as goal

pub loop-number-init : goal.loop-number-init
loop-number-init c = goes_first c.args.site.now c.args.class c.args.archive c.args.from c.args.occurrences.now c.requires.there

pub must_lead-requires : goal.must_lead-requires
must_lead-requires c = record { flows = c.requires.flows; there = c.loop-number.invariant.there }

pub returns-in-None : goal.returns-in-None
returns-in-None c = (
  λ no. absurd (false≢true no),
  λ p. absurd (goes_nowhere_at c.args.site.now c.args.class c.args.archive c.args.from c.args.occurrences.now c.loop-number.at
      c.loop-number.number-index c.loop-number-test.true c.in-None.ensures c.loop-number.invariant p),
)

pub loop-number-preserved : goal.loop-number-preserved
loop-number-preserved c =
    goes_on_at c.args.site.now c.is_lawful.ensures c.args.class c.args.archive c.args.from c.args.occurrences.now c.loop-number.at
    c.loop-number.number-index c.in-Some.to c.loop-number-test.true c.in-Some.ensures c.loop-number.invariant

pub must_write-requires : goal.must_write-requires
must_write-requires c = record { flows = c.requires.flows; there = c.loop-number.invariant.there }

pub returns : goal.returns
returns c =
    let end = goes_to_end c.args.site.now c.args.class c.args.archive c.args.from c.args.occurrences.now c.loop-number.at c.loop-number.number-index
    c.loop-number-test.false c.loop-number.invariant in
    (λ yes. end.whole (c.must_write.ensures.0 yes), λ p. c.must_write.ensures.1 (end.left p))

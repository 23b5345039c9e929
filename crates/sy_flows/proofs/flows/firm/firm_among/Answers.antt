use Rattle.std.proofs.Common.{◌≡◌, ◌+◌, ◌∙◌, ◌<◌, not, Some, ap, arith, sym, subst, get_or, length, refl}
use Rattle.std.specs.Prelude.{slice_get}
use Rattle.std.proofs.lemmas.Option.{slice_get-get_or}
use Rattle.sy_rules.specs.declared.lists.occurrence.Occurrence.TheVariants as occurrence
use Rattle.sy_board.specs.relay.Spares.{is_spare_occurrence}
use Rattle.sy_flows.proofs.Firmness.{firm_all, more_firm}
use Rattle.sy_flows.proofs.flows.firm.firm_among.Goals as goal

pub loop-number-preserved : goal.loop-number-preserved
loop-number-preserved c =
    let below = c.loop-number-test.true in
    let occurrences = c.args.occurrences.now in
    let at = c.loop-number.number in
    let it = get_or occurrences at (occurrence.Run 0) in
    record {
      firm = more_firm (is_spare_occurrence c.args.plan.now c.args.spares.now) occurrences at c.loop-number.set c.with-set.result it
          (not c.is_spare-asked.result) (slice_get-get_or occurrences at (occurrence.Run 0) below) (ap not c.is_spare-asked.ensures) c.with-set.ensures
          c.loop-number.invariant.firm;
      all = refl;
      within = omega (arith, below);
    }

pub returns : goal.returns
returns c =
    let all = c.loop-number.invariant.all in
    let done = c.loop-number-test.false in
    firm_all (is_spare_occurrence c.args.plan.now c.args.spares.now) c.args.occurrences.now c.loop-number.number c.loop-number.set
    (omega (arith, all, done)) c.loop-number.invariant.firm

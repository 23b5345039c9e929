use Rattle.std.proofs.Common.{ℕ, ◌≤◌, ◌∙◌, arith, sym}
use Rattle.std.proofs.lemmas.Bool.{false≢true}
use Rattle.sy_rules.specs.declared.lists.occurrence.Occurrence.TheVariants as occurrence
use Rattle.sy_flows.proofs.Used.{list_of_found}
use Rattle.sy_warnings.specs.internal.Holding.{StandsForSome}
use Rattle.sy_warnings.proofs.Execution.{not_first, not_more, refuted}
use Rattle.sy_warnings.proofs.bottleneck.bottleneck_in.Goals as goal

pub returns-then-not-is_spare-clause-none : goal.returns-then-not-is_spare-clause-none
returns-then-not-is_spare-clause-none c = λ it. false≢true (sym c.if-not-is_spare.true ∙ c.is_spare.ensures ∙ it.spare)

pub loop-list-init : goal.loop-list-init
loop-list-init c = not_first (λ (list : ℕ). StandsForSome c.args.site.now (record { relay = c.args.relay; list = list }) c.args.action)

pub loop-list-preserved : goal.loop-list-preserved
loop-list-preserved c =
    not_more (λ (list : ℕ). StandsForSome c.args.site.now (record { relay = c.args.relay; list = list }) c.args.action) c.loop-list.list c.loop-list.invariant
    (refuted c.stands_for_some.result (StandsForSome c.args.site.now (record { relay = c.args.relay; list = c.loop-list.list }) c.args.action)
    c.stands_for_some.ensures c.if-stands_for_some.false)

pub returns-then-stands_for_some-clause-some : goal.returns-then-stands_for_some-clause-some
returns-then-stands_for_some-clause-some c =
    let it = c.stands_for_some.ensures.0 c.if-stands_for_some.true in
    let low = c.loop-list-test.true in
    let many = c.lists_of-list-end.ensures in (
      omega (arith, low, many),
      record {
        spare = sym c.is_spare.ensures ∙ c.if-not-is_spare.false;
        class = it.class;
        protected = it.protected;
        list = c.loop-list.list;
        comes = it.stands.comes;
        number = it.stands.before.0;
        does = it.stands.before.1.runs;
        later = it.stands.before.1.needs.0;
        behind = it.stands.before.1.needs.1.behind;
        is = it.stands.before.1.needs.1.needed.0;
        needed = it.stands.before.1.needs.1.needed.1;
      },
    )

pub returns-clause-none : goal.returns-clause-none
returns-clause-none c = λ it.
    (let low = list_of_found c.args.site.now c.args.relay it.list it.number (occurrence.Run c.args.action) it.does.found in
    let end = c.loop-list-test.false in
    let many = c.lists_of-list-end.ensures in
    c.loop-list.invariant it.list (omega (arith, low, end, many))
    (record {
      class = it.class;
      protected = it.protected;
      stands = record {
        comes = it.comes;
        before = (
          it.number,
          record { runs = it.does; needs = (it.later, record { behind = it.behind; needed = (it.is, it.needed) }) },
        );
      };
    }))

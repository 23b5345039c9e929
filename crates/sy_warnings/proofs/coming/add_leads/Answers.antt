use Rattle.std.proofs.Common.{arith, inl, inr, subst}
use Rattle.std.proofs.lemmas.Bool.{cases_eq}
use Rattle.sy_warnings.specs.Following.{Leads}
use Rattle.sy_warnings.proofs.Arriving.{kept_more, leads_below, more_behind, nothing_more}
use Rattle.sy_warnings.proofs.coming.add_leads.Goals as goal

pub loop-number-init : goal.loop-number-init
loop-number-init c = record {
  found = c.requires.found;
  more = nothing_more c.args.found.now.lists.items;
  led = λ number to low leads. absurd (omega (arith, low));
}

pub loop-number-preserved : goal.loop-number-preserved
loop-number-preserved c = record {
  found = c.in_ok-add_lead.ensures.found;
  more = more_behind c.args.found.now.lists.items c.loop-number.found.lists.items c.add_lead.new.found.lists.items c.loop-number.invariant.more
      c.in_ok-add_lead.ensures.more;
  led = λ number to low leads. elim (cases_eq number c.loop-number.number) [
    | inl same ↦ c.in_ok-add_lead.ensures.led to (subst (λ n. Leads c.args.site.now c.args.class c.args.by c.args.from n to) same leads)
    | inr apart ↦ kept_more c.loop-number.found.lists.items c.add_lead.new.found.lists.items c.in_ok-add_lead.ensures.more to
        (c.loop-number.invariant.led number to (omega (arith, low, apart)) leads)
  ];
}

pub returns-clause-led : goal.returns-clause-led
returns-clause-led c = λ number to leads.
    (let low = leads_below c.args.site.now c.is_lawful.ensures c.args.class c.args.by c.args.from number to leads in
    let end = c.loop-number-test.false in
    c.loop-number.invariant.led number to (omega (arith, low, end)) leads)

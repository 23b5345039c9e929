use Rattle.std.proofs.Common.{◌≡◌, ◌∙◌, ◌+◌, Some, ap, arith, get_or, length, subst, sym}
use Rattle.std.specs.Prelude.{Contains, slice_get}
use Rattle.std.proofs.lemmas.List.Elements.{Contains-get_or}
use Rattle.std.proofs.lemmas.Option.{slice_get-get_or}
use Rattle.sy_site.specs.declared.site.SiteInput.{SiteInput}
use Rattle.sy_flows.specs.Flows.{AreEach}
use Rattle.sy_flows.specs.Leads.{AreAllFound, IsLeadOf, list_at}
use Rattle.sy_flows.proofs.Flowing.{each_more, each_none}
use Rattle.sy_flows.proofs.There.{entry_there}
use Rattle.sy_flows.proofs.lists.leads.leads_of.Goals as goal

abbrev no_input : SiteInput
no_input = record { relay = 0; input = 0 }

one_value : {A : Type 0} {x y : A} → Some x ≡ Some y → x ≡ y
one_value e = cc

pub loop-entry-init : goal.loop-entry-init
loop-entry-init c =
    subst (AreEach (IsLeadOf c.args.site.now c.args.class) 0) (sym c.new-leads.ensures.items) (each_none (IsLeadOf c.args.site.now c.args.class))

pub list_of-requires : goal.list_of-requires
list_of-requires c =
    let entries = c.entries-entry-items.result.now in
    let item = get_or entries c.loop-entry.entry-index no_input in
    record {
      there = entry_there c.args.site.now c.is_lawful.ensures item
          (subst (λ l. Contains l item) c.entries-entry-items.ensures (Contains-get_or entries c.loop-entry.entry-index no_input c.loop-entry-test.true));
    }

pub loop-entry-preserved : goal.loop-entry-preserved
loop-entry-preserved c =
    let site = c.args.site.now in
    let entries = c.entries-entry-items.result.now in
    let index = c.loop-entry.entry-index in
    let found = c.in_ok-found.found in
    subst (AreEach (IsLeadOf site c.args.class) (index + 1)) (sym c.in_ok-push.ensures.items)
    (each_more (IsLeadOf site c.args.class) index c.loop-entry.leads.items found c.loop-entry.invariant
    (λ entry stands. subst (λ e. AreAllFound site c.args.class (list_at site e) found.lists.items found.origins.items)
    (one_value (sym (slice_get-get_or entries index no_input c.loop-entry-test.true)
    ∙ subst (λ l. slice_get l index ≡ Some entry) (sym c.entries-entry-items.ensures) stands))
    (subst (λ s. AreAllFound site c.args.class s found.lists.items found.origins.items) c.list_of.ensures.list c.in_ok-found.ensures)))

pub returns : goal.returns
returns c =
    let same : length c.entries-entry-items.result.now ≡ length c.args.site.now.entries = ap length c.entries-entry-items.ensures in
    let all : c.loop-entry.entry-index ≡ length c.args.site.now.entries = omega (arith, same, c.loop-entry-test.false, c.loop-entry.auto.entry-index-end) in
    subst (λ n. AreEach (IsLeadOf c.args.site.now c.args.class) n c.loop-entry.leads.items) all c.loop-entry.invariant

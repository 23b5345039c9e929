use Rattle.std.proofs.Common.{subst, sym, ◌∙◌}
use Rattle.std.specs.Prelude.{Contains}
use Rattle.sy_flows.specs.Leads.{AreLeads}
use Rattle.sy_checker.specs.internal.Survey.{Among, IsUnmetBy, Reports}
use Rattle.sy_checker.proofs.surveying.push_all_unmet.Goals as goal

pub push_entries-requires : goal.push_entries-requires
push_entries-requires c = record {
  protected = c.requires.protected;
  flows = c.requires.walk.flows;
  leads = subst (AreLeads c.args.site.now c.args.class) (sym c.as_slice.ensures.value) c.requires.walk.leads;
  entries = λ x is. subst (λ l. Contains l x) c.entries.ensures is;
  named = λ a is. subst (λ l. Contains l a) (c.as_slice-2.ensures.value ∙ c.in_ok-named.ensures) is;
}

pub returns : goal.returns
returns c =
    let site = c.args.site.now in
    subst (λ archives. Reports site c.args.class
    (λ i j. Among site.entries (λ entry. Among archives (λ archive. IsUnmetBy site c.args.class entry archive i j))) c.args.found.now.groups.items
    c.push_entries.new.found.groups.items)
    (c.as_slice-2.ensures.value ∙ c.in_ok-named.ensures)
    (subst (λ entries. Reports site c.args.class
    (λ i j. Among entries (λ entry. Among c.as_slice-2.result.now (λ archive. IsUnmetBy site c.args.class entry archive i j)))
    c.args.found.now.groups.items c.push_entries.new.found.groups.items)
    c.entries.ensures c.in_ok-push_entries.ensures)

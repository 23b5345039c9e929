use Rattle.std.proofs.Common.{ap}
use Rattle.sy_rules.specs.lists.Work.{May, Must}
use Rattle.sy_rules.proofs.lemmas.plan.Loads.{bits_at}
use Rattle.sy_rules.proofs.plan.Plan.flows.Goals as goal

pub returns-clause-may : goal.returns-clause-may
returns-clause-may c =
    let p = c.self.inside in
    bits_at (λ s. May s c.args.class) c.args.self.now.lists p.tests.items c.deref-2.result.now p.tables.items c.deref.result.now p.list_queues.items c.args.list c.flows_of_list.result.0
    (ap (λ v. v.lists) c.self.view_is) c.requires.exists c.deref-2.ensures.value c.deref.ensures.value c.flows_of_list.ensures.may

pub returns-clause-must : goal.returns-clause-must
returns-clause-must c =
    let p = c.self.inside in
    bits_at (λ s. Must s c.args.class) c.args.self.now.lists p.tests.items c.deref-2.result.now p.tables.items c.deref.result.now p.list_queues.items c.args.list c.flows_of_list.result.1
    (ap (λ v. v.lists) c.self.view_is) c.requires.exists c.deref-2.ensures.value c.deref.ensures.value c.flows_of_list.ensures.must

use Rattle.std.proofs.Common.{ap}
use Rattle.sy_rules.specs.lists.Work.{Due}
use Rattle.sy_rules.proofs.lemmas.plan.Loads.{bits_at}
use Rattle.sy_rules.proofs.plan.Plan.due.Goals as goal

pub returns : goal.returns
returns c =
    let p = c.self.inside in
    bits_at (λ s. Due s c.args.message.now) c.args.self.now.lists p.tests.items c.deref-2.result.now p.tables.items c.deref.result.now p.list_queues.items c.args.list c.due_of_list.result
    (ap (λ v. v.lists) c.self.view_is) c.requires.exists c.deref-2.ensures.value c.deref.ensures.value c.due_of_list.ensures

use Rattle.std.proofs.Common.{◌<◌, length, sym, ◌∙◌, ap, arith}
use Rattle.sy_rules.specs.internal.Tables.{lines_of_tables}
use Rattle.sy_rules.specs.Whole.{queue_at}
use Rattle.sy_rules.proofs.lemmas.parts.Listed.{length-listed_from, queue_listed}
use Rattle.sy_rules.proofs.plan.Plan.list_queue.Goals as goal

pub index-requires : goal.index-requires
index-requires c =
    let p = c.self.inside in
    let same = length-listed_from (lines_of_tables p.tests.items p.tables.items) 0 p.list_queues.items in
    let whole = ap (λ v. length v.lists) c.self.view_is in
    omega (arith, same, whole, c.requires.exists)

pub returns : goal.returns
returns c =
    let p = c.self.inside in
    let lines = lines_of_tables p.tests.items p.tables.items in
    let same = length-listed_from lines 0 p.list_queues.items in
    let whole = ap (λ v. length v.lists) c.self.view_is in
    let there : c.args.list < length p.list_queues.items = omega (arith, same, whole, c.requires.exists) in
    c.index.ensures ∙ (sym (queue_listed lines 0 p.list_queues.items c.args.list c.index.result.now there) ∙ ap (λ v. queue_at v c.args.list) c.self.view_is)

use Rattle.std.proofs.Common.{ap, drop, ◌∙◌}
use Rattle.sy_select.specs.Properties.{says}
use Rattle.sy_rules.specs.internal.TableWalk.{work_of_statements}
use Rattle.sy_rules.proofs.lemmas.lists.FlowRows.{due_by_head}
use Rattle.sy_rules.proofs.lists.walk.due_behind.Goals as goal

pub returns : goal.returns
returns c =
    let tests = c.args.tests.now in
    let tables = c.args.tables.now in
    let m = c.args.message.now in
    due_by_head tests tables c.args.list c.requires.tables m c.args.head c.statements.result c.requires.head
    (c.statements.ensures ∙ ap (λ rest. work_of_statements (says m) tests tables 16 rest 0) (c.behind-rest.ensures ∙ ap (drop c.args.head.size) c.table_at.ensures))

use Rattle.std.proofs.Common.{List, map, sym, subst, ap, ◌∙◌}
use Rattle.std.proofs.lemmas.Result.{IfOk-weaker}
use Rattle.sy_rules.specs.declared.lists.statement.Statement.{Statement}
use Rattle.sy_rules.specs.internal.Numbering.{count_in}
use Rattle.sy_rules.specs.internal.Tables.{AreNumbered, lines_of_tables, table_at}
use Rattle.sy_rules.proofs.lemmas.lists.Numbering.{all_numbers, all_lines}
use Rattle.sy_rules.proofs.lists.numbering.number_lists.Goals as goal

pub returns-clause-numbered : goal.returns-clause-numbered
returns-clause-numbered c =
    let count = count_in c.args.sizes.now in
    let tables = map (λ table. table.items) c.args.tables.now in
    IfOk-weaker c.all_numbered.result _ _ (λ x is l. subst (λ (ts : List (List Statement)). AreNumbered count 0 (table_at ts l)) (sym is) (all_numbers count tables l)) c.all_numbered.ensures

pub returns-clause-same : goal.returns-clause-same
returns-clause-same c =
    let count = count_in c.args.sizes.now in
    let tables = map (λ table. table.items) c.args.tables.now in
    IfOk-weaker c.all_numbered.result _ _ (λ x is tests. ap (lines_of_tables tests) is ∙ all_lines tests count tables) c.all_numbered.ensures

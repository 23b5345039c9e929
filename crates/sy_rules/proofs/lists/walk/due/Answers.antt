use Rattle.std.proofs.Common.{sym, subst}
use Rattle.sy_rules.specs.declared.lists.walk.Reached.{Reached}
use Rattle.sy_rules.specs.lists.Lines.{body_of}
use Rattle.sy_rules.specs.lists.Sets.{Bits}
use Rattle.sy_rules.specs.internal.Tables.{lines_of_tables}
use Rattle.sy_rules.specs.lists.Work.{Due}
use Rattle.sy_rules.proofs.lemmas.lists.TableRuns.{work_set}
use Rattle.sy_rules.proofs.lists.walk.due.Goals as goal

pub returns : goal.returns
returns c =
    subst (λ (r : Reached). Bits (Due (body_of (lines_of_tables c.args.tests.now c.args.tables.now) c.args.list) c.args.message.now) r.set) (sym c.list.ensures)
    (work_set c.args.tests.now c.args.tables.now c.args.message.now c.args.list c.requires)

use Rattle.std.proofs.Common.{◌∙◌, arith}
use Rattle.sy_rules.proofs.lemmas.lists.Settled.{flow_as_deep}
use Rattle.sy_rules.proofs.lists.flow.Judge.flow.Goals as goal

pub returns : goal.returns
returns c = c.list.ensures ∙ flow_as_deep c.args.self.tests.now c.args.self.tables.now c.requires.tables c.args.self.class 18 c.args.list 0 (omega arith)

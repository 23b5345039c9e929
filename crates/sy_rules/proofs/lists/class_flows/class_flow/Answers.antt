use Rattle.std.proofs.Common.{ap}
use Rattle.sy_rules.specs.declared.lists.flow.Flow.{Flow}
use Rattle.sy_rules.specs.internal.FlowWalk.{judged}
use Rattle.sy_rules.specs.internal.Tables.{table_at}
use Rattle.sy_rules.proofs.lists.class_flows.class_flow.Goals as goal

pub returns-then-may-must : goal.returns-then-may-must
returns-then-may-must c = record {
  may = ap (λ (f : Flow). f.may.set) c.flow-flow.ensures;
  must = ap (λ (f : Flow). f.must.set) c.flow-flow.ensures;
  head = c.no_head-head.ensures (judged c.args.judge.class c.args.judge.tests.now) c.args.judge.tables.now (table_at c.args.judge.tables.now c.args.list);
}

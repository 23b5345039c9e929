use Rattle.std.proofs.Common.{[], refl}
use Rattle.sy_rules.proofs.lemmas.plan.WholePass.{same_tables}
use Rattle.sy_rules.proofs.plan.pass_flows.Goals as goal

pub class_flows-requires : goal.class_flows-requires
class_flows-requires c = same_tables [] c.args.tables.now refl c.requires

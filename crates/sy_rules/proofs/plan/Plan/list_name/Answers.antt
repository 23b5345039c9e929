use Rattle.std.proofs.Common.{length, ap, arith}
use Rattle.sy_rules.proofs.plan.Plan.list_name.Goals as goal

pub index-requires : goal.index-requires
index-requires c = omega (arith, c.self.invariant.whole.list_names, ap (λ v. length v.lists) c.self.view_is, c.requires.exists)

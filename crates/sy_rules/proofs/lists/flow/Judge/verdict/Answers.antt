use Rattle.std.proofs.Common.{◌∙◌, ap, unwrap_or, Option}
use Rattle.sy_select.specs.declared.condition.Test.{Test}
use Rattle.sy_select.specs.Properties.{known}
use Rattle.sy_select.specs.Truth.{Formula}
use Rattle.sy_select.specs.internal.Walk.{verdict}
use Rattle.sy_rules.proofs.lists.flow.Judge.verdict.Goals as goal

pub returns-in-Some : goal.returns-in-Some
returns-in-Some c =
    let k = known c.args.self.class in
    c.verdict.ensures
    ∙ ap (λ (o : Option (Formula Test)). verdict k (unwrap_or o Formula.Never)) c.in-Some.ensures

pub returns-in-None : goal.returns-in-None
returns-in-None c = let k = known c.args.self.class in ap (λ (o : Option (Formula Test)). verdict k (unwrap_or o Formula.Never)) c.in-None.ensures

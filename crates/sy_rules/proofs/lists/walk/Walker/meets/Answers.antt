use Rattle.std.proofs.Common.{◌∙◌, ap, unwrap_or, Option}
use Rattle.sy_select.specs.declared.condition.Test.{Test}
use Rattle.sy_select.specs.Properties.{says}
use Rattle.sy_select.specs.Truth.{Formula}
use Rattle.sy_select.specs.internal.Walk.{holds}
use Rattle.sy_rules.proofs.lists.walk.Walker.meets.Goals as goal

pub returns-in-Some : goal.returns-in-Some
returns-in-Some c =
    let said = says c.args.self.message.now in
    c.is_met.ensures ∙ ap (λ (o : Option (Formula Test)). holds said (unwrap_or o Formula.Never)) c.in-Some.ensures

pub returns-in-None : goal.returns-in-None
returns-in-None c = ap (λ (o : Option (Formula Test)). holds (says c.args.self.message.now) (unwrap_or o Formula.Never)) c.in-None.ensures

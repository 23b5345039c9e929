use Rattle.std.proofs.Common.{◌∙◌, ◌≤◌, ◌≡◌, sym, subst, arith}
use Rattle.std.specs.Prelude.{IfSome}
use Rattle.sy_rules.specs.internal.FlowWalk.{flow_of_list, flow_turned}
use Rattle.sy_rules.proofs.lists.flow.Judge.known_at.Goals as goal

pub returns-in-Some : goal.returns-in-Some
returns-in-Some c =
    let deep : 17 ≤ c.args.depth = omega (arith, c.if-depth-lt-LISTS_DEEP.false) in
    subst (λ o. IfSome o (λ flow. flow_of_list c.args.self.class c.args.self.tests.now c.args.self.tables.now c.args.depth c.args.list c.args.base ≡ flow_turned flow c.args.base))
    (sym c.kept.ensures ∙ c.in-Some.is) (c.requires.known c.args.list c.args.depth c.args.base deep)
    ∙ sym c.flow_turned.ensures

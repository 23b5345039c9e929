use Rattle.std.proofs.Common.{rules, arith, ◌≡◌, option_map}
use Rattle.sy_site.specs.Sites.{plan_at}
use Rattle.sy_inputs.proofs.Unkept.{found, none_at_all, one_more}
use Rattle.sy_inputs.proofs.whole_entries.first_unkept.Goals as goal

pub returns-then-is_unkept : goal.returns-then-is_unkept
returns-then-is_unkept c =
    let plan = c.plan-plan.ensures in
    let lent = c.deref-2.ensures in
    let of = c.inputs-input-items.ensures in
    let same : c.inputs-input-items.result.now ≡ (plan_at c.args.site.now c.args.relay).inputs = cc in
    let yes = c.is_unkept.ensures.yes c.if-is_unkept.true in
    found c.args.site.now c.args.relay (option_map (λ name. name.now) c.args.given) c.loop-input.number c.input-item.result
    c.inputs-input-items.result.now same c.loop-input.input-index c.loop-input.invariant.0 (search (rules, arith)) (search rules)
    yes.0 yes.1 c.loop-input.invariant.1

pub loop-input-preserved : goal.loop-input-preserved
loop-input-preserved c =
    let plan = c.plan-plan.ensures in
    let lent = c.deref-2.ensures in
    let of = c.inputs-input-items.ensures in
    let same : c.inputs-input-items.result.now ≡ (plan_at c.args.site.now c.args.relay).inputs = cc in
    let index = c.loop-input.invariant.0 in (
      omega (arith, index),
      one_more c.args.site.now c.args.relay (option_map (λ name. name.now) c.args.given) c.loop-input.number c.input-item.result
          c.inputs-input-items.result.now same c.loop-input.input-index index (search (rules, arith)) (search rules)
          (c.is_unkept.ensures.no c.if-is_unkept.false) c.loop-input.invariant.1,
    )

pub returns : goal.returns
returns c =
    let plan = c.plan-plan.ensures in
    let lent = c.deref-2.ensures in
    let of = c.inputs-input-items.ensures in
    let same : c.inputs-input-items.result.now ≡ (plan_at c.args.site.now c.args.relay).inputs = cc in
    none_at_all c.args.site.now c.args.relay (option_map (λ name. name.now) c.args.given) c.loop-input.number c.inputs-input-items.result.now same
    (omega (arith, c.loop-input.invariant.0, c.loop-input-test.false)) c.loop-input.invariant.1

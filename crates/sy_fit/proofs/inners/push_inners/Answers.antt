use Rattle.std.proofs.Common.{◌≡◌, arith, length, subst}
use Rattle.sy_site.specs.Sites.{plan_at}
use Rattle.sy_fit.specs.internal.Inners.{AreInners}
use Rattle.sy_fit.proofs.inners.push_inners.Goals as goal

pub push_inner-requires : goal.push_inner-requires
push_inner-requires c = record { own = c.requires.own; flows = c.requires.flows; inners = c.loop-list.invariant.inners }

pub loop-list-preserved : goal.loop-list-preserved
loop-list-preserved c =
    let below = c.loop-list-test.true in
    record { inners = c.in_ok-push_inner.ensures; all = c.loop-list.invariant.all; within = omega (arith, below) }

pub returns : goal.returns
returns c =
    let over = c.loop-list-test.false in
    let within = c.loop-list.invariant.within in
    let all = c.loop-list.invariant.all in
    let same : c.loop-list.list ≡ length (plan_at c.args.site.now c.args.relay).lists = omega (arith, over, within, all) in
    subst (λ n. AreInners c.args.site.now c.args.class c.args.relay n c.loop-list.inners.items) same c.loop-list.invariant.inners

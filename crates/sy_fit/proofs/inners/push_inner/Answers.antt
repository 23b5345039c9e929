use Rattle.std.proofs.Common.{◌+◌, ◌∙◌, subst, sym}
use Rattle.std.proofs.lemmas.Bool.{false≢true}
use Rattle.sy_fit.specs.internal.Inners.{AreInners}
use Rattle.sy_fit.proofs.InnersSorted.{inner_posted, inner_push, inner_skip, own_there, posted_inner}
use Rattle.sy_fit.proofs.inners.push_inner.Goals as goal

pub is_posted-requires : goal.is_posted-requires
is_posted-requires c = record {
  there = own_there c.args.site.now c.is_lawful.ensures c.args.class c.args.relay c.args.own.now c.requires.own;
  flows = c.requires.flows;
}

pub returns-in_ok-push : goal.returns-in_ok-push
returns-in_ok-push c =
    subst (AreInners c.args.site.now c.args.class c.args.relay (c.args.list + 1)) (sym c.in_ok-push.ensures.items)
    (inner_push c.args.site.now c.args.class c.args.relay c.args.list c.args.inners.now.items c.requires.inners
    (posted_inner c.args.site.now c.args.class c.args.relay c.args.own.now c.requires.own c.args.list (c.is_posted.ensures.0 c.if-is_posted.true)))

pub returns-else-is_posted : goal.returns-else-is_posted
returns-else-is_posted c =
    inner_skip c.args.site.now c.args.class c.args.relay c.args.list c.args.inners.now.items c.requires.inners
    (λ is. false≢true (sym c.if-is_posted.false
    ∙ c.is_posted.ensures.1 (inner_posted c.args.site.now c.args.class c.args.relay c.args.own.now c.requires.own c.args.list is)))

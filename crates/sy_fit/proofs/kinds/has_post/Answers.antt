use Rattle.std.proofs.Common.{◌≤◌, ◌∙◌, arith, length, refl, sym}
use Rattle.std.proofs.lemmas.Bool.{false≢true}
use Rattle.sy_fit.proofs.Feeding.{no_post, none_yet, one_less, post_found}
use Rattle.sy_fit.proofs.kinds.has_post.Goals as goal

pub loop-list-init : goal.loop-list-init
loop-list-init c = none_yet c.args.plan.now c.args.queue

pub loop-list-preserved : goal.loop-list-preserved
loop-list-preserved c =
    one_less c.args.plan.now c.args.queue c.loop-list.list (sym c.list_posts.ensures ∙ c.if-list_posts.false) c.loop-list.invariant

pub returns-then-list_posts : goal.returns-then-list_posts
returns-then-list_posts c = (
  λ yes. post_found c.args.plan.now c.args.queue c.loop-list.list (sym c.list_posts.ensures ∙ c.if-list_posts.true),
  λ h. refl,
)

pub returns : goal.returns
returns c =
    let all : length c.args.plan.now.lists ≤ c.loop-list.list = omega (arith, c.loop-list-test.false, c.list_names.ensures.lists) in
    (λ no. absurd (false≢true no), λ h. absurd (no_post c.args.plan.now c.args.queue c.loop-list.list all c.loop-list.invariant h))

use Rattle.std.proofs.Common.{◌≡◌, ℕ, ◌+◌, refl, sym, ap, ◌∙◌, arith, Some}
use Rattle.sy_rules.specs.PlanValue.{Plan}
use Rattle.sy_board.specs.relay.Boards.{Account}
use Rattle.sy_board.specs.internal.Stored.{account_inside}
use Rattle.sy_board.proofs.relay.DueBits.{less_left, lowest_of}
use Rattle.sy_board.proofs.relay.Tallies.{Comes, all_counted, none_counted, one_post_due, post_counted, room_for_post, room_for_run, run_counted}
use Rattle.sy_board.specs.declared.relay.accounts.Accounts.TheInside.{Inside}
use Rattle.sy_board.proofs.relay.accounts.Accounts.count_entry.Goals as goal

-- from one step to the next
further : (plan : Plan) (list left between due : ℕ) (now mid old : Account) → Comes plan list left now between mid → Comes plan list between mid due old → Comes plan list left now due old
further plan list left between due now mid old one others = record { room = one.room; same = one.same ∙ others.same }

one_post_more : (a : Inside) → account_inside (record a { posts_left = a.posts_left + 1 }) ≡ one_post_due (account_inside a)
one_post_more a = let one : a.posted + a.lost_post + (a.posts_left + 1) ≡ a.posted + a.lost_post + a.posts_left + 1 = omega arith in rw one refl

pub loop-left-init : goal.loop-left-init
loop-left-init c = record { room = c.requires; same = refl }

pub count_run-requires : goal.count_run-requires
count_run-requires c =
    room_for_run c.args.plan.now c.args.list c.loop-left.left _ _ (lowest_of c.loop-left.left (omega arith) (omega arith)) c.loop-left.self c.loop-left.invariant.room c.in-Some-Run.action
    (sym c.occurrence_of.ensures ∙ c.in-Some-Run.is ∙ ap Some c.in-Some-Run.field-0-is)

pub loop-left-smaller-in-Some-Run : goal.loop-left-smaller-in-Some-Run
loop-left-smaller-in-Some-Run c = less_left c.loop-left.left (omega arith) (omega arith)

pub loop-left-preserved-in-Some-Run : goal.loop-left-preserved-in-Some-Run
loop-left-preserved-in-Some-Run c =
    rw c.count_run.ensures (further c.args.plan.now c.args.list _ c.loop-left.left c.args.due _ c.loop-left.self c.args.self.now
    (run_counted c.args.plan.now c.args.list c.loop-left.left _ _ (lowest_of c.loop-left.left (omega arith) (omega arith)) c.loop-left.self c.loop-left.invariant.room c.in-Some-Run.action
    (sym c.occurrence_of.ensures ∙ c.in-Some-Run.is ∙ ap Some c.in-Some-Run.field-0-is))
    c.loop-left.invariant)

pub overflow_add-self : goal.overflow_add-self
overflow_add-self c =
    let room = room_for_post c.args.plan.now c.args.list c.loop-left.left _ _ (lowest_of c.loop-left.left (omega arith) (omega arith)) c.loop-left.self c.loop-left.invariant.room c.in-Some-Post.field-0-0
    (sym c.occurrence_of.ensures ∙ c.in-Some-Post.is ∙ ap Some c.in-Some-Post.field-0-is) in
    let inside = rw (← c.self.view_is) at room in
    omega (arith, inside)

pub loop-left-smaller-in-Some-Post : goal.loop-left-smaller-in-Some-Post
loop-left-smaller-in-Some-Post c = less_left c.loop-left.left (omega arith) (omega arith)

pub loop-left-preserved-in-Some-Post : goal.loop-left-preserved-in-Some-Post
loop-left-preserved-in-Some-Post c =
    let counted = post_counted c.args.plan.now c.args.list c.loop-left.left _ _ (lowest_of c.loop-left.left (omega arith) (omega arith)) c.loop-left.self c.loop-left.invariant.room c.in-Some-Post.field-0-0
    (sym c.occurrence_of.ensures ∙ c.in-Some-Post.is ∙ ap Some c.in-Some-Post.field-0-is) in
    let one_more = one_post_more c.self.inside ∙ ap one_post_due c.self.view_is in
    rw one_more (further c.args.plan.now c.args.list _ c.loop-left.left c.args.due _ c.loop-left.self c.args.self.now counted c.loop-left.invariant)

pub loop-left-smaller : goal.loop-left-smaller
loop-left-smaller c = less_left c.loop-left.left (omega arith) (omega arith)

pub loop-left-preserved : goal.loop-left-preserved
loop-left-preserved c =
    further c.args.plan.now c.args.list _ c.loop-left.left c.args.due _ c.loop-left.self c.args.self.now
    (none_counted c.args.plan.now c.args.list c.loop-left.left _ _ (lowest_of c.loop-left.left (omega arith) (omega arith)) c.loop-left.self c.loop-left.invariant.room (sym c.occurrence_of.ensures ∙ c.in-None.is))
    c.loop-left.invariant

pub returns : goal.returns
returns c =
    let none : c.loop-left.left ≡ 0 = omega arith in
    let same = rw none at c.loop-left.invariant.same in
    sym (all_counted c.args.plan.now c.args.list c.loop-left.self) ∙ same

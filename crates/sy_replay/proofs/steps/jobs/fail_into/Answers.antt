use Rattle.std.proofs.Common.{◌∙◌}
use Rattle.sy_replay.specs.internal.Jobs.{Answer}
use Rattle.sy_replay.proofs.Made.{answered_into, with_it, without_it}
use Rattle.sy_replay.proofs.steps.jobs.fail_into.Goals as goal

pub returns-then-took-clause-ok : goal.returns-then-took-clause-ok
returns-then-took-clause-ok c =
    let r = c.args.run in
    answered_into Answer.Fail c.args.took c.args.board.now c.fail_again.new.board c.args.worker r.action r.followed r.tag c.args.tags.now.items c.push_back_reserved.new.self.items
    c.in_default-fail_again.ensures.ok ((rw c.reserve.ensures.items at c.push_back_reserved.ensures.items) ∙ with_it c.args.took c.args.tags.now.items r.tag c.if-took.true)

pub returns-else-took-clause-ok : goal.returns-else-took-clause-ok
returns-else-took-clause-ok c =
    let r = c.args.run in
    answered_into Answer.Fail c.args.took c.args.board.now c.fail_again.new.board c.args.worker r.action r.followed r.tag c.args.tags.now.items c.reserve.new.self.items
    c.in_default-fail_again.ensures.ok (c.reserve.ensures.items ∙ without_it c.args.took c.args.tags.now.items r.tag c.if-took.false)

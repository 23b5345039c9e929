use Rattle.std.proofs.Common.{true}
use Rattle.sy_replay.specs.internal.Jobs.{Answer}
use Rattle.sy_replay.proofs.Made.{answered_into}
use Rattle.sy_replay.proofs.steps.jobs.settle_into.Goals as goal

pub returns-clause-ok : goal.returns-clause-ok
returns-clause-ok c =
    let r = c.args.run in
    answered_into Answer.Done true c.args.board.now c.settle.new.board c.args.worker r.action r.followed r.tag c.args.tags.now.items c.push_back_reserved.new.self.items
    c.in_default-settle.ensures.ok (rw c.reserve.ensures.items at c.push_back_reserved.ensures.items)

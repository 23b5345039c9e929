use Rattle.std.proofs.Common.{◌∙◌, ◌<◌, arith, length, subst}
use Rattle.sy_rules.specs.Whole.{IsWhole}
use Rattle.sy_replay.specs.internal.Jobs.{Answer}
use Rattle.sy_replay.proofs.Made.{given_up_made, items_stay}
use Rattle.sy_replay.proofs.Refused.{no_run_steps, run_there}
use Rattle.sy_replay.proofs.steps.jobs.give_up.Goals as goal

pub returns-in-Err-clause-err : goal.returns-in-Err-clause-err
returns-in-Err-clause-err c = no_run_steps c.in-Err.why Answer.GiveUp c.args.board.now c.args.worker c.in-Err.ensures.err c.args.took

pub index_mut-tags-requires : goal.index_mut-tags-requires
index_mut-tags-requires c =
    let whole = subst IsWhole (c.deref.ensures ∙ c.plan.ensures) c.plans_are_whole.ensures in
    let there = run_there c.args.board.now.plan c.args.board.now.state c.args.worker c.in-Ok.run'.action whole c.in-Ok.ensures.ok.job in
    let n = c.requires in
    let ok = c.args.passed.now.ok in
    omega (arith, there, n, ok)

pub returns-in-Err-give_up_into-clause-unchanged : goal.returns-in-Err-give_up_into-clause-unchanged
returns-in-Err-give_up_into-clause-unchanged c =
    let whole = subst IsWhole (c.deref.ensures ∙ c.plan.ensures) c.plans_are_whole.ensures in
    let there = run_there c.args.board.now.plan c.args.board.now.state c.args.worker c.in-Ok.run'.action whole c.in-Ok.ensures.ok.job in
    let action = c.in-Ok.run'.action in
    let xs = c.args.passed.now.items in
    let x = c.index_mut-tags.result.now in
    let l : action < length xs = let n = c.requires in omega (arith, there, n) in
    let same = c.in-Err-give_up_into.ensures.unchanged in
    (same.0, items_stay xs action x c.give_up_into.new.tags l c.index_mut-tags.ensures.value same.1, c.reserve.ensures.items)

pub returns-clause-ok : goal.returns-clause-ok
returns-clause-ok c =
    let whole = subst IsWhole (c.deref.ensures ∙ c.plan.ensures) c.plans_are_whole.ensures in
    let there = run_there c.args.board.now.plan c.args.board.now.state c.args.worker c.in-Ok.run'.action whole c.in-Ok.ensures.ok.job in
    let action = c.in-Ok.run'.action in
    let xs = c.args.passed.now.items in
    let x = c.index_mut-tags.result.now in
    let l : action < length xs = let n = c.requires in omega (arith, there, n) in
    given_up_made c.args.relay c.args.took c.args.board.now c.give_up_into.new.board c.args.worker action c.in-Ok.run'.followed c.in-Ok.run'.tag xs x c.give_up_into.new.tags c.args.losses.now.items
    c.push_reserved.new.self.items l c.index_mut-tags.ensures.value c.in_default-give_up_into.ensures.ok (rw c.reserve.ensures.items at c.push_reserved.ensures.items)

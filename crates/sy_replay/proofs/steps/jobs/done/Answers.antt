use Rattle.std.proofs.Common.{◌∙◌, ◌<◌, append-nil, arith, length, subst, sym, true}
use Rattle.sy_board.specs.relay.Steps.{Event}
use Rattle.sy_rules.specs.Whole.{IsWhole}
use Rattle.sy_replay.specs.internal.Events.{IsIllegal}
use Rattle.sy_replay.specs.internal.Jobs.{Answer, IsNoAnswer}
use Rattle.sy_replay.proofs.Made.{comes_made, if_err, items_set, items_stay, on_err, on_ok, read_comes}
use Rattle.sy_replay.proofs.Refused.{no_run_steps, run_there}
use Rattle.sy_replay.proofs.steps.jobs.done.Goals as goal

pub returns-in-Err-clause-err : goal.returns-in-Err-clause-err
returns-in-Err-clause-err c = no_run_steps c.in-Err.why Answer.Done c.args.board.now c.args.worker c.in-Err.ensures.err true

pub index_mut-requires : goal.index_mut-requires
index_mut-requires c =
    let whole = subst IsWhole (c.deref.ensures ∙ c.plan.ensures) c.plans_are_whole.ensures in
    let there = run_there c.args.board.now.plan c.args.board.now.state c.args.worker c.in-Ok.run'.action whole c.in-Ok.ensures.ok.job in
    let n = c.requires in
    let ok = c.args.passed.now.ok in
    omega (arith, there, n, ok)

pub returns-clause-ok : goal.returns-clause-ok
returns-clause-ok c =
    let whole = subst IsWhole (c.deref.ensures ∙ c.plan.ensures) c.plans_are_whole.ensures in
    let there = run_there c.args.board.now.plan c.args.board.now.state c.args.worker c.in-Ok.run'.action whole c.in-Ok.ensures.ok.job in
    let action = c.in-Ok.run'.action in
    let xs = c.args.passed.now.items in
    let x = c.index_mut.result.now in
    let l : action < length xs = let n = c.requires in omega (arith, there, n) in
    on_ok c.settle_into.result (λ comes losses.
    comes_made Answer.Done c.args.relay true c.args.board.now c.settle_into.new.board c.args.worker action c.in-Ok.run'.followed c.in-Ok.run'.tag _ _ c.settle_into.new.tags.items losses losses
    (read_comes Answer.Done true c.args.board.now c.settle_into.new.board c.args.worker action c.in-Ok.run'.followed c.in-Ok.run'.tag xs x c.settle_into.new.tags.items l c.index_mut.ensures.value comes)
    (items_set xs action c.settle_into.new.tags) (sym (append-nil losses))) c.settle_into.ensures.ok

pub returns-clause-err : goal.returns-clause-err
returns-clause-err c =
    if_err (λ why. IsNoAnswer why Answer.Done c.args.board.now c.args.worker) (λ why. IsIllegal why c.args.board.now (Event.Done c.args.worker)) c.settle_into.result
    (λ why none. none true) c.settle_into.ensures.err

pub returns-clause-unchanged : goal.returns-clause-unchanged
returns-clause-unchanged c =
    let whole = subst IsWhole (c.deref.ensures ∙ c.plan.ensures) c.plans_are_whole.ensures in
    let there = run_there c.args.board.now.plan c.args.board.now.state c.args.worker c.in-Ok.run'.action whole c.in-Ok.ensures.ok.job in
    let action = c.in-Ok.run'.action in
    let xs = c.args.passed.now.items in
    let x = c.index_mut.result.now in
    let l : action < length xs = let n = c.requires in omega (arith, there, n) in
    on_err c.settle_into.result (λ same. (same.0, items_stay xs action x c.settle_into.new.tags l c.index_mut.ensures.value same.1)) c.settle_into.ensures.unchanged

use Rattle.std.proofs.Common.{ap, ◌∙◌}
use Rattle.std.proofs.lemmas.List.{length-map}
use Rattle.sy_board.specs.internal.Stored.{account_inside}
use Rattle.sy_board.specs.internal.Counting as counting
use Rattle.sy_board.proofs.relay.Tallies.{at_error, counts_read, done_full, done_written, run_there, with_actions}
use Rattle.sy_board.proofs.relay.accounts.Accounts.count_done.Goals as goal

pub returns-in_err-done-clause-full : goal.returns-in_err-done-clause-full
returns-in_err-done-clause-full c =
    let some = rw (← c.self.view_is) at c.requires in
    let there = run_there c.self.inside.actions.items c.args.action some in
    let read = counts_read c.self.inside.actions.items c.args.action c.index-counts.result.now there c.index-counts.ensures in
    let full = c.in_err-done.ensures.err in
    rw (← c.self.view_is) (at_error c.from_residual.result _ (done_full (account_inside c.self.inside) c.args.action (rw length-map there) (rw read full)))

pub returns-clause-ok : goal.returns-clause-ok
returns-clause-ok c =
    let some = rw (← c.self.view_is) at c.requires in
    ap (λ cs. with_actions cs (account_inside c.self.inside))
    (done_written c.self.inside.actions.items c.args.action c.index-counts.result.now c.in_ok-done.done c.index-counts.ensures some c.in_ok-done.ensures.ok)
    ∙ ap (counting.after_done c.args.action) c.self.view_is

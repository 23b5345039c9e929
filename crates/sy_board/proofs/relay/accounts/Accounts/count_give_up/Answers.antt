use Rattle.std.proofs.Common.{◌≡◌, ◌+◌, ap, ◌∙◌, refl, rules}
use Rattle.std.proofs.lemmas.List.{length-map}
use Rattle.sy_board.specs.internal.Stored.{account_inside}
use Rattle.sy_board.specs.internal.Counting as counting
use Rattle.sy_board.proofs.relay.Tallies.{at_error, counts_read, given_up_full, given_up_written, run_there}
use Rattle.sy_board.proofs.relay.accounts.Accounts.count_give_up.Goals as goal

pub returns-in_err-given_up-clause-full : goal.returns-in_err-given_up-clause-full
returns-in_err-given_up-clause-full c =
    let some = rw (← c.self.view_is) at c.requires in
    let there = run_there c.self.inside.actions.items c.args.action some in
    let read = counts_read c.self.inside.actions.items c.args.action c.index-counts.result.now there c.index-counts.ensures in
    let full = c.in_err-given_up.ensures.err in
    rw (← c.self.view_is) (at_error c.from_residual.result _ (given_up_full (account_inside c.self.inside) c.args.action c.args.guarded (rw length-map there) (rw read full)))

pub returns-clause-ok : goal.returns-clause-ok
returns-clause-ok c =
    let some = rw (← c.self.view_is) at c.requires in
    let guarded : c.in_ok-guarded_lost.guarded_lost ≡ c.self.inside.guarded_lost + counting.one_if c.args.guarded = c.in_ok-guarded_lost.ensures.ok ∙ ap (λ more. c.self.inside.guarded_lost + more) (search rules) in
    let written = given_up_written c.self.inside.actions.items c.args.action c.index-counts.result.now c.in_ok-given_up.given_up c.index-counts.ensures some c.in_ok-given_up.ensures.ok in
    rw (← c.self.view_is) (rw (written, guarded) refl)

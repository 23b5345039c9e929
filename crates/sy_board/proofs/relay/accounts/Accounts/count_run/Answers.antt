use Rattle.std.proofs.Common.{map, ap, ◌∙◌, sym}
use Rattle.sy_board.specs.internal.Stored.{account_inside}
use Rattle.sy_board.specs.relay.Boards.{counts_of}
use Rattle.sy_board.specs.internal.Counting as counting
use Rattle.sy_board.proofs.relay.Tallies.{left_written, no_run_due, run_due, with_actions}
use Rattle.sy_board.proofs.relay.accounts.Accounts.count_run.Goals as goal
use Rattle.sy_board.proofs.relay.accounts.Accounts.count_run.Goals.{in-Some, in_default}

pub returns : goal.returns
returns c =
    elim c.match-get_mut.branch [
      | in-Some w ↦ ap account_inside w.self-inside-is
          ∙ (ap (λ cs. with_actions cs (account_inside c.self.inside))
          (left_written c.self.inside.actions.items c.args.action w.in-Some.counts.now w.in-Some.ensures.item.3.0 w.in-Some.ensures.value
          ∙ sym (run_due c.args.action (map counts_of c.self.inside.actions.items)))
          ∙ ap (counting.one_run_due c.args.action) c.self.view_is)
      | in_default w ↦ ap account_inside w.self-inside-is
          ∙ (ap (λ cs. with_actions cs (account_inside c.self.inside)) (no_run_due c.self.inside.actions.items c.args.action w.in_default.ensures.item.3)
          ∙ ap (counting.one_run_due c.args.action) c.self.view_is)
    ]

use Rattle.std.proofs.Common.{rules, map}
use Rattle.sy_runtime.proofs.Compared.{done_are}
use Rattle.sy_runtime.proofs.stopping.has_done.Goals as goal

pub returns : goal.returns
returns g c = λ t. done_are c.actions.result.now c.args.accounts.now.totals.actions (map (λ h. h.made) c.args.hatches.now) (search rules) (c.are_made.ensures t)

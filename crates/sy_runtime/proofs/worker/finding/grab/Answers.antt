use Rattle.std.proofs.Common.{rules, subst, ◌∙◌}
use Rattle.sy_rules.specs.Whole.{IsWhole}
use Rattle.sy_runtime.proofs.Found.{nothing_waits}
use Rattle.sy_runtime.proofs.worker.finding.grab.Goals as goal

pub returns-then-count-eq0 : goal.returns-then-count-eq0
returns-then-count-eq0 c = λ messages.
    nothing_waits c.args.board.now c.grab.new.self c.args.worker _ _ (subst IsWhole (c.deref.ensures ∙ c.plan.ensures) c.plans_are_whole.ensures) c.requires c.in-Ok.ensures.ok (search rules)

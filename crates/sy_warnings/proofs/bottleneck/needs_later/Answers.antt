use Rattle.std.proofs.Common.{◌≤◌, arith}
use Rattle.sy_warnings.proofs.Execution.{no_so}
use Rattle.sy_warnings.proofs.bottleneck.needs_later.Goals as goal

pub returns-then-later-number : goal.returns-then-later-number
returns-then-later-number c = no_so (λ it. (let low = it.behind in let high = c.if-later-number.true in absurd (omega (arith, low, high))))

pub returns : goal.returns
returns c = (
  λ yes. record { behind = c.if-later-number.false; needed = c.may_need.ensures.0 yes },
  λ it. c.may_need.ensures.1 it.needed,
)

use Rattle.std.proofs.Common.{ap, ◌∙◌}
use Rattle.sy_select.proofs.Bits.{only_one, ones_up_to}
use Rattle.sy_select.proofs.read_level.named.Goals as goal
use Rattle.sy_select.proofs.read_level.named.Goals.{then-is_alone, else-is_alone}

pub returns-clause-mask : goal.returns-clause-mask
returns-clause-mask c = λ s within. elim c.if-is_alone.branch [
  | then-is_alone w ↦ rw w.if-is_alone.true (only_one c.if-is_alone.severities.0 c.args.severity s (ap (λ x. x.0) w.severities-is ∙ w.only-severities.ensures))
  | else-is_alone w ↦ rw w.if-is_alone.false (ones_up_to c.if-is_alone.severities.0 c.args.severity s (ap (λ x. x.0) w.severities-is ∙ w.up_to-severities.ensures))
]

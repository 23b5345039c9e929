use Rattle.std.proofs.Common.{◌∙◌}
use Rattle.sy_select.proofs.Bits.{has_flag}
use Rattle.sy_select.proofs.severities.Severities.has.Goals as goal

pub returns : goal.returns
returns c = let e = c.contains.ensures tt in let o = c.only.ensures in rw o at e ∙ has_flag c.args.self.0 c.args.severity

use Rattle.std.proofs.Common.{arith}
use Rattle.sy_script.proofs.Cuts.{cut_in_order}
use Rattle.sy_script.proofs.laws.spans_in_order.Goals as goal

pub returns : goal.returns
returns c text ts end rest cut = cut_in_order cut 0 (omega arith)

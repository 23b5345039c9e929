use Rattle.std.proofs.Common.{◌∙◌}
use Rattle.std.proofs.lemmas.Result.{IfOk-weaker}
use Rattle.sy_relp.proofs.Ends.{says_close}
use Rattle.sy_relp.proofs.closing.close_text.Goals as goal

pub returns : goal.returns
returns c = IfOk-weaker c.format.result _ _ (λ s h. h ∙ says_close c.args.txnr) c.format.ensures.ok

use Rattle.std.proofs.Common.{◌∙◌}
use Rattle.std.proofs.lemmas.Bool.Decides.{Decides-eqb}
use Rattle.std.proofs.lemmas.Slice.Eq.{slice_eq-Decides}
use Rattle.sy_relp.proofs.Heard.{ok_of}
use Rattle.sy_relp.proofs.hear.says_ok.Goals as goal

pub returns : goal.returns
returns c = λ is. ok_of c.args.content.now _ c.split_at.ensures.front ((slice_eq-Decides Decides-eqb _ _ _ c.eq.ensures).0 is ∙ c.as_slice.ensures)

use Rattle.std.proofs.Common.{sym}
use Rattle.sy_select.proofs.PartLaws.{if_ok_then, listed_facilities}
use Rattle.sy_select.proofs.part.facilities.Goals as goal

pub returns-clause-ok : goal.returns-clause-ok
returns-clause-ok c = if_ok_then c.listed.result c.listed.ensures.ok (λ set h. listed_facilities c.args.whole.now c.args.text.now set (sym c.if-same_bytes.ensures) h)

use Rattle.std.proofs.Common.{◌∙◌, sym}
use Rattle.sy_unread.proofs.FieldTexts.{value_ends, value_found, value_more}
use Rattle.sy_unread.proofs.fields.value.Goals as goal

pub returns-then-is_bare : goal.returns-then-is_bare
returns-then-is_bare c = value_found _ _ _ _ c.loop-i-test.true (sym c.is_bare.ensures ∙ c.if-is_bare.true) c.loop-i.invariant

pub loop-i-preserved : goal.loop-i-preserved
loop-i-preserved c = rw c.is_bare-is_escaped.ensures (value_more _ _ _ _ c.loop-i-test.true (sym c.is_bare.ensures ∙ c.if-is_bare.false) c.loop-i.invariant)

pub returns : goal.returns
returns c = value_ends _ _ _ _ c.loop-i-test.false c.loop-i.invariant

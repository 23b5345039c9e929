use Rattle.std.proofs.Common.{eq-eqb}
use Rattle.sy_unread.proofs.FieldTexts.{is_not, word_ends, word_found, word_more}
use Rattle.sy_unread.proofs.fields.word.Goals as goal

pub returns-then-byte-eq32-clause-first : goal.returns-then-byte-eq32-clause-first
returns-then-byte-eq32-clause-first c = word_found _ _ _ c.loop-i-test.true (eq-eqb _ _ c.if-byte-eq32.true) c.loop-i.invariant

pub loop-i-preserved : goal.loop-i-preserved
loop-i-preserved c = word_more _ _ _ c.loop-i-test.true (is_not _ _ c.if-byte-eq32.false) c.loop-i.invariant

pub returns-clause-first : goal.returns-clause-first
returns-clause-first c = word_ends _ _ _ c.loop-i-test.false c.loop-i.invariant

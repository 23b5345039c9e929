use Rattle.std.proofs.Common.{◌≡◌, take, drop}
use Rattle.sy_unread.specs.Words.{word_at}
use Rattle.sy_unread.proofs.FieldTexts.{with_front}
use Rattle.sy_unread.proofs.fields.word.Given as goal

abbrev pub invariant-loop-i : goal.invariant-loop-i
invariant-loop-i l = with_front (take l.i l.bytes) (word_at (drop l.i l.bytes)) ≡ word_at l.bytes

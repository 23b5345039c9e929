use Rattle.std.proofs.Common.{sym, inl, inr}
use Rattle.sy_select.proofs.LevelLaws.{level_away, level_named, level_star}
use Rattle.sy_select.proofs.read_level.read_level.Goals as goal
use Rattle.sy_select.proofs.read_level.read_level.Goals.{then-same_bytes-2-via-then-same_bytes-2, then-same_bytes-2-via-else-same_bytes-2+then-same_word}

pub returns-then-same_bytes-clause-ok : goal.returns-then-same_bytes-clause-ok
returns-then-same_bytes-clause-ok c = level_star c.args.whole.now c.args.text.now _ _ (sym c.if-same_bytes.ensures) c.every.ensures.takes c.every.ensures.mask

pub returns-then-same_bytes-2-clause-ok : goal.returns-then-same_bytes-2-clause-ok
returns-then-same_bytes-2-clause-ok c =
    elim c.then-same_bytes-2.branch [
      | then-same_bytes-2-via-then-same_bytes-2 w ↦ level_away c.args.whole.now c.args.text.now _ _ (inl (sym w.if-same_bytes-2.ensures)) c.every-then-same_bytes-2.ensures.takes c.every-then-same_bytes-2.ensures.mask
      | then-same_bytes-2-via-else-same_bytes-2+then-same_word w ↦ level_away c.args.whole.now c.args.text.now _ _ (inr (sym w.if-same_word.ensures)) c.every-then-same_bytes-2.ensures.takes c.every-then-same_bytes-2.ensures.mask
    ]

pub returns-in-Some-clause-ok : goal.returns-in-Some-clause-ok
returns-in-Some-clause-ok c =
    rw c.named.ensures.takes (level_named c.args.whole.now c.args.text.now c.cut_sign-takes.result.1.now c.cut_sign-is_alone.result.1.now c.cut_sign-takes.result.0 c.cut_sign-is_alone.result.0 c.in-Some.severity c.named.result.severities.0
    (sym c.if-same_bytes.ensures) (sym c.if-same_bytes-2.ensures) (sym c.if-same_word.ensures)
    c.cut_sign-takes.ensures.behind c.cut_sign-takes.ensures.whole c.cut_sign-is_alone.ensures.behind c.cut_sign-is_alone.ensures.whole
    (sym c.if-same_word-2.ensures) c.in-Some.ensures.value c.named.ensures.mask)

use Rattle.std.proofs.Common.{◌∙◌}
use Rattle.sy_unread.proofs.FieldTexts.{bare_ends, bare_more}
use Rattle.sy_unread.proofs.fields.unescaped.Goals as goal

pub loop-byte-preserved : goal.loop-byte-preserved
loop-byte-preserved c = rw (c.in_ok-append_bare.ensures, c.is_bare-is_escaped.ensures) (bare_more _ _ _ _ _ c.loop-byte-test.true c.loop-byte.invariant)

pub returns : goal.returns
returns c =
    let same = c.deref.ensures.value ∙ bare_ends _ _ _ _ _ c.loop-byte-test.false c.loop-byte.invariant in
    rw (← same) c.from_utf8_lossy.ensures.lossy

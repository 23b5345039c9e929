use Rattle.sy_unread.proofs.record.append_head.Goals as goal

pub returns-clause-value : goal.returns-clause-value
returns-clause-value c =
    rw (
      ← c.as_bytes.ensures.value,
      ← c.as_bytes-2.ensures.value,
      ← c.from.ensures,
      ← c.number.ensures.value,
      ← c.number-2.ensures.value,
      ← c.number-3.ensures.value,
      ← c.length.ensures.value,
    ) c.append_parts.ensures

pub returns-clause-in_range : goal.returns-clause-in_range
returns-clause-in_range c = record {
  input = rw (← c.from.ensures) c.number.ensures.fits;
  frame = c.number-2.ensures.fits;
  at = c.number-3.ensures.fits;
  length = c.length.ensures.fits;
}

use Rattle.std.proofs.Common.{◌++◌, ap, ◌∙◌}
use Rattle.sy_findings.proofs.verdicts.explained_tally.tally_of.Goals as goal

pub returns : goal.returns
returns c = record {
  head = c.in_ok-text.text.items;
  lines = c.in_ok-lines.lines.items;
  text_is = c.in_ok-extend_from_slice.ensures.items ∙ ap (λ l. c.in_ok-text.text.items ++ l) c.as_slice.ensures.value;
  are_lines = c.in_ok-lines.ensures;
}

use Rattle.std.proofs.Common.{◌≡◌, ◌+◌, length}
use Rattle.sy_escapes.specs.internal.Lines.{line_len}
use Rattle.sy_escapes.proofs.batch.line_len.Given as goal

abbrev pub invariant-loop-rest : goal.invariant-loop-rest
invariant-loop-rest l = record {
  size : line_len l.text ≡ l.len + line_len l.rest;
  within : l.len + length l.rest ≡ length l.text;
}

abbrev pub decreases-loop-rest : goal.decreases-loop-rest
decreases-loop-rest l = length l.rest

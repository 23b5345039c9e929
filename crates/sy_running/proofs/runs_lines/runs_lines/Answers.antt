use Rattle.std.proofs.Common.{rules}
use Rattle.sy_running.proofs.runs_lines.runs_lines.Goals as goal

pub returns : goal.returns
returns g c = (
  c.as_bytes.result.now,
  c.in_ok-program.program.items,
  (rw c.as_slice-3.ensures.value at
      (rw (rw c.new-text.ensures.items at c.in_ok-append_runs.ensures) at c.in_ok-extend_from_slice.ensures.items)),
  c.in_ok-program.ensures,
)

use Rattle.std.proofs.Common.{rules, inl}
use Rattle.sy_running.proofs.runs_lines.program_line.Goals as goal

pub returns : goal.returns
returns c =
    inl (
      c.value_or_not-commit.result.now,
      c.value_or_not-sources.result.now,
      c.match-value_of.state.now,
      (rw c.new-text.ensures.items at c.in_ok-append_program.ensures),
    )

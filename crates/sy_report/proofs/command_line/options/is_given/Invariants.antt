use Rattle.std.proofs.Common.{◌≡◌, ◌+◌, map, drop, string_bytes}
use Rattle.sy_report.specs.Words.{once_if, times}
use Rattle.sy_report.proofs.command_line.options.is_given.Given as goal

abbrev pub invariant-loop-arg : goal.invariant-loop-arg
invariant-loop-arg l = once_if l.is_there + times l.option (map string_bytes (drop l.arg-index l.args)) ≡ times l.option (map string_bytes l.args)

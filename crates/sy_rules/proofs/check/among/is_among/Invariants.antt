use Rattle.std.proofs.Common.{◌≡◌, drop}
use Rattle.sy_rules.specs.check.ScriptFaults.{is_among}
use Rattle.sy_rules.proofs.check.among.is_among.Given as goal

abbrev pub invariant-loop-other : goal.invariant-loop-other
invariant-loop-other l = is_among l.name (drop l.other-index l.names) ≡ is_among l.name l.names

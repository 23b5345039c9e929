use Rattle.std.proofs.Common.{◌≡◌, ◌++◌, drop, flat_map}
use Rattle.sy_findings.specs.Checks.{way_line}
use Rattle.sy_findings.proofs.verdicts.findings.push_way.Given as goal

-- what was put, and the lines that are left to put
abbrev pub invariant-loop-row : goal.invariant-loop-row
invariant-loop-row l =
    l.text.items ++ flat_map (way_line l.site) (drop l.row-index l.way) ≡ l.initial.text.items ++ flat_map (way_line l.site) l.way

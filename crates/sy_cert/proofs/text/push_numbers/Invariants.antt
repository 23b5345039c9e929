use Rattle.std.proofs.Common.{◌≡◌, ◌++◌, map, drop}
use Rattle.std.specs.Fmt.{decimal}
use Rattle.sy_cert.specs.Rows.{further}
use Rattle.sy_cert.proofs.text.push_numbers.Given as goal

-- what was written, and what is left to write
abbrev pub invariant-loop-number : goal.invariant-loop-number
invariant-loop-number l = l.text.items ++ further (map decimal (drop l.number-index l.numbers)) ≡ l.initial.text.items ++ further (map decimal l.numbers)

use Rattle.std.proofs.Common.{◌≡◌, length}
use Rattle.std.specs.List.{list_all}
use Rattle.std.specs.Option.{option_copied}
use Rattle.sy_wire.specs.Numbers.{is_numeral}
use Rattle.sy_cert.specs.internal.Reading.{words_left}
use Rattle.sy_cert.proofs.lines.are_numerals.Given as goal

abbrev pub invariant-loop-word : goal.invariant-loop-word
invariant-loop-word l = list_all is_numeral (words_left (option_copied l.rest)) ≡ list_all is_numeral (words_left (option_copied l.left))

abbrev pub decreases-loop-word : goal.decreases-loop-word
decreases-loop-word l = length (words_left (option_copied l.left))

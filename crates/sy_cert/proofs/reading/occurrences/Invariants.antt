use Rattle.std.proofs.Common.{◌≡◌, ◌++◌, length, map}
use Rattle.std.specs.Fmt.{decimal}
use Rattle.std.specs.Option.{option_copied}
use Rattle.sy_cert.specs.Rows.{AreOccurrences}
use Rattle.sy_cert.specs.internal.Reading.{words_left}
use Rattle.sy_cert.proofs.reading.occurrences.Given as goal

-- what was read, and what is left to read
abbrev pub invariant-loop-word : goal.invariant-loop-word
invariant-loop-word l =
    AreOccurrences l.occurrences
    × (map decimal l.occurrences ++ words_left (option_copied l.left) ≡ words_left (option_copied l.rest))

abbrev pub decreases-loop-word : goal.decreases-loop-word
decreases-loop-word l = length (words_left (option_copied l.left))

use Rattle.std.proofs.Common.{◌≡◌, ◌+◌, ◌≤◌, drop, filter, length, map}
use Rattle.sy_site.specs.internal.Reading.{words_given}
use Rattle.sy_site.specs.texts.Lines.{is_kind}
use Rattle.sy_site.proofs.texts.reading.how_many.Given as goal

abbrev pub invariant-loop-given : goal.invariant-loop-given
invariant-loop-given l =
    (l.count + length (filter (is_kind l.word) (map words_given (drop l.given-index l.found)))
    ≡ length (filter (is_kind l.word) (map words_given l.found)))
    × (l.count ≤ l.given-index)

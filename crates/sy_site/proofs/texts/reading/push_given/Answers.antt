use Rattle.std.proofs.Common.{◌≤◌, arith, filter, inl, inr, length, map, refl}
use Rattle.sy_site.specs.internal.Reading.{kind, line_given, most, words_given}
use Rattle.sy_site.specs.texts.Lines.{is_kind, words}
use Rattle.sy_site.proofs.lemmas.texts.Kinds.{too_many}
use Rattle.sy_site.proofs.texts.reading.push_given.Goals as goal

pub returns-then-how_many-most-clause-err : goal.returns-then-how_many-most-clause-err
returns-then-how_many-most-clause-err c = λ is.
    let it = line_given c.args.line in
    let found = c.args.found.now.items in
    let placed = rw c.as_slice.ensures.value at (c.if-not-has_place.ensures.yes refl) in
    let counts = rw (c.as_slice-2.ensures.value, c.kind.ensures) at c.how_many.ensures in
    let many : most it ≤ length (filter (is_kind (kind it)) (map words_given found)) = omega (arith, counts, c.most.ensures, c.if-how_many-most.true) in
    inr (inl (too_many it (words c.args.line.behind.now) found placed many))

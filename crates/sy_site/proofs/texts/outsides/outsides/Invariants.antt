use Rattle.std.proofs.Common.{◌≡◌, ◌++◌, drop, map}
use Rattle.sy_site.specs.internal.Reading.{line_given}
use Rattle.sy_site.specs.texts.Describes.{outside_lines}
use Rattle.sy_site.proofs.texts.outsides.outsides.Given as goal

abbrev pub invariant-loop-given : goal.invariant-loop-given
invariant-loop-given l =
    l.outsides.items ++ outside_lines (map line_given (drop l.given-index l.found)) ≡ outside_lines (map line_given l.found)

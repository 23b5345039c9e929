use Rattle.std.proofs.Common.{List, [], drop, map}
use Rattle.sy_site.specs.Sites.{SiteInput}
use Rattle.sy_site.specs.internal.Reading.{line_given}
use Rattle.sy_site.specs.internal.Relays.{HasMore}
use Rattle.sy_site.specs.internal.SiteInside.{site_with}
use Rattle.sy_site.specs.texts.Describes.{IsEntry, whole_lines}
use Rattle.sy_site.proofs.texts.references.whole_entries.Given as goal

abbrev pub invariant-loop-given : goal.invariant-loop-given
invariant-loop-given l =
    (final : List SiteInput) → HasMore (IsEntry (site_with l.relays)) (whole_lines (map line_given (drop l.given-index l.found))) l.entries.items final
    → HasMore (IsEntry (site_with l.relays)) (whole_lines (map line_given l.found)) [] final

use Rattle.std.proofs.Common.{List, [], drop, map}
use Rattle.sy_site.specs.Sites.{SiteAction}
use Rattle.sy_site.specs.internal.Reading.{line_given}
use Rattle.sy_site.specs.internal.Relays.{HasMore, NoneProtected}
use Rattle.sy_site.specs.internal.SiteInside.{site_with}
use Rattle.sy_site.specs.texts.Describes.{IsSpare, spare_lines}
use Rattle.sy_site.proofs.texts.references.spares.Given as goal

abbrev pub invariant-loop-given : goal.invariant-loop-given
invariant-loop-given l =
    ((final : List SiteAction) → HasMore (IsSpare (site_with l.relays)) (spare_lines (map line_given (drop l.given-index l.found))) l.spares.items final
    → HasMore (IsSpare (site_with l.relays)) (spare_lines (map line_given l.found)) [] final)
    × (NoneProtected l.found (spare_lines (map line_given (drop l.given-index l.found))) → NoneProtected l.found (spare_lines (map line_given l.found)))

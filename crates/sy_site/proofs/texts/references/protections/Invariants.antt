use Rattle.std.proofs.Common.{List, [], map}
use Rattle.sy_site.specs.Sites.{Protection}
use Rattle.sy_site.specs.internal.Reading.{line_given}
use Rattle.sy_site.specs.internal.Relays.{HasMore}
use Rattle.sy_site.specs.internal.SiteInside.{site_with}
use Rattle.sy_site.specs.texts.Describes.{IsProtection, protect_lines}
use Rattle.sy_site.proofs.texts.references.protections.Given as goal

abbrev pub invariant-loop-given : goal.invariant-loop-given
invariant-loop-given l =
    (final : List Protection) → HasMore (IsProtection (site_with l.relays)) (protect_lines (map line_given l.given-iterator.rest.items)) l.protections.items final
    → HasMore (IsProtection (site_with l.relays)) (protect_lines (map line_given l.initial.given-iterator.rest.items)) [] final

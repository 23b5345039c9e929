use Rattle.std.proofs.Common.{List, [], drop, map}
use Rattle.sy_site.specs.declared.site.relay.Relay.{Relay}
use Rattle.sy_site.specs.texts.Describes.{file, relay_lines}
use Rattle.sy_site.specs.internal.Reading.{line_given}
use Rattle.sy_site.specs.internal.Relays.{HasMore, IsWholeRelay}
use Rattle.sy_site.proofs.texts.relays.relays.Given as goal

abbrev pub invariant-loop-given : goal.invariant-loop-given
invariant-loop-given l =
    (final : List Relay) → HasMore (IsWholeRelay (map (λ f. file f.0.now f.1.now) l.files)) (relay_lines (map line_given (drop l.given-index l.found))) l.relays.items final
    → HasMore (IsWholeRelay (map (λ f. file f.0.now f.1.now) l.files)) (relay_lines (map line_given l.found)) [] final

use Rattle.std.proofs.Common.{arith, map, refl}
use Rattle.sy_site.specs.texts.Describes.{file, relay_lines}
use Rattle.sy_site.specs.internal.Relays.{IsWholeRelay}
use Rattle.sy_site.proofs.lemmas.sites.More.{at_end, relay_first, next_at}
use Rattle.sy_site.proofs.texts.relays.relays.Goals as goal

pub loop-given-preserved : goal.loop-given-preserved
loop-given-preserved c = λ final later.
    c.loop-given.invariant final
    (next_at (IsWholeRelay (map (λ f. file f.0.now f.1.now) c.args.files.now)) relay_lines relay_first c.args.found.now c.loop-given.given-index c.given-item.result _ _ final (omega (arith, c.loop-given-test.true)) c.given-item.is
    c.in_ok-push_relay.ensures.relays later)

pub returns-clause-relays : goal.returns-clause-relays
returns-clause-relays c =
    c.loop-given.invariant c.loop-given.relays.items
    (at_end (IsWholeRelay (map (λ f. file f.0.now f.1.now) c.args.files.now)) relay_lines c.args.found.now c.loop-given.given-index c.loop-given.relays.items refl (omega (arith, c.loop-given-test.false)))

use Rattle.std.proofs.Common.{arith, refl}
use Rattle.sy_site.specs.internal.SiteInside.{site_with}
use Rattle.sy_site.specs.texts.Describes.{IsEntry, entry_lines}
use Rattle.sy_site.proofs.lemmas.sites.More.{at_end, entry_first, next_at}
use Rattle.sy_site.proofs.texts.references.entries.Goals as goal

pub loop-given-preserved : goal.loop-given-preserved
loop-given-preserved c = λ final later.
    c.loop-given.invariant final
    (next_at (IsEntry (site_with c.args.relays.now)) entry_lines entry_first c.args.found.now c.loop-given.given-index c.given-item.result _ _ final (omega (arith, c.loop-given-test.true)) c.given-item.is
    c.in_ok-push_entry.ensures.entries later)

pub returns-clause-entries : goal.returns-clause-entries
returns-clause-entries c =
    c.loop-given.invariant c.loop-given.entries.items
    (at_end (IsEntry (site_with c.args.relays.now)) entry_lines c.args.found.now c.loop-given.given-index c.loop-given.entries.items refl (omega (arith, c.loop-given-test.false)))

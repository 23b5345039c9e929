use Rattle.std.proofs.Common.{arith, refl}
use Rattle.sy_site.specs.internal.SiteInside.{site_with}
use Rattle.sy_site.specs.texts.Describes.{IsEntry, whole_lines}
use Rattle.sy_site.proofs.lemmas.sites.More.{at_end, next_at, whole_first}
use Rattle.sy_site.proofs.texts.references.whole_entries.Goals as goal

pub loop-given-preserved : goal.loop-given-preserved
loop-given-preserved c = λ final later.
    c.loop-given.invariant final
    (next_at (IsEntry (site_with c.args.relays.now)) whole_lines whole_first c.args.found.now c.loop-given.given-index c.given-item.result _ _ final (omega (arith, c.loop-given-test.true)) c.given-item.is
    c.in_ok-push_whole_entry.ensures.entries later)

pub returns-clause-entries : goal.returns-clause-entries
returns-clause-entries c =
    c.loop-given.invariant c.loop-given.entries.items
    (at_end (IsEntry (site_with c.args.relays.now)) whole_lines c.args.found.now c.loop-given.given-index c.loop-given.entries.items refl (omega (arith, c.loop-given-test.false)))

use Rattle.std.proofs.Common.{◌≡◌, arith, false, map, refl, ap, subst, sym}
use Rattle.std.proofs.lemmas.List.{drop_all}
use Rattle.sy_site.specs.internal.Reading.{line_given}
use Rattle.sy_site.specs.internal.Relays.{NoneProtected, is_protected}
use Rattle.sy_site.specs.internal.SiteInside.{site_with}
use Rattle.sy_site.specs.texts.Describes.{IsSpare, spare_lines}
use Rattle.sy_site.proofs.lemmas.sites.More.{all_at, at_end, next_at, spare_first}
use Rattle.sy_site.proofs.texts.references.spares.Goals as goal

pub loop-given-preserved : goal.loop-given-preserved
loop-given-preserved c =
    let found = c.args.found.now in
    let place = c.loop-given.given-index in (
      λ final later. c.loop-given.invariant.0 final
          (next_at (IsSpare (site_with c.args.relays.now)) spare_lines spare_first found place c.given-item.result _ _ final
          (omega (arith, c.loop-given-test.true)) c.given-item.is c.in_ok-push_spare.ensures.spares later),
      λ later. c.loop-given.invariant.1
          (all_at (λ spare. is_protected found spare ≡ false) spare_lines spare_first found place c.given-item.result
          (omega (arith, c.loop-given-test.true)) c.given-item.is c.in_ok-push_spare.ensures.apart later),
    )

pub returns-clause-spares : goal.returns-clause-spares
returns-clause-spares c =
    c.loop-given.invariant.0 c.loop-given.spares.items
    (at_end (IsSpare (site_with c.args.relays.now)) spare_lines c.args.found.now c.loop-given.given-index c.loop-given.spares.items refl (omega (arith, c.loop-given-test.false)))

pub returns-clause-apart : goal.returns-clause-apart
returns-clause-apart c =
    let found = c.args.found.now in
    let none = ap (λ l. spare_lines (map line_given l)) (drop_all c.loop-given.given-index found (omega (arith, c.loop-given-test.false))) in
    c.loop-given.invariant.1 (subst (NoneProtected found) (sym none) (λ k d low. absurd (omega (arith, low))))

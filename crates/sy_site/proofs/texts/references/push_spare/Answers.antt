use Rattle.std.proofs.Common.{arith, inr, subst, sym}
use Rattle.sy_site.specs.texts.Describes.{IsSpare}
use Rattle.sy_site.specs.internal.Lines.{spare_line_of}
use Rattle.sy_site.specs.internal.Relays.{NoneProtected}
use Rattle.sy_site.specs.internal.SiteInside.{site_with}
use Rattle.sy_site.proofs.lemmas.sites.More.{none_of, not_spare, push_one}
use Rattle.sy_site.proofs.lemmas.texts.FaultsFound.{no_action, spare_protected, spare_unknown}
use Rattle.sy_site.proofs.texts.references.push_spare.Goals as goal

pub returns-in_default : goal.returns-in_default
returns-in_default c =
    let none = not_spare c.args.given.now.line c.in_default.not-Spare in
    record {
      spares = none_of (IsSpare (site_with c.args.relays.now)) _ c.args.spares.now.items none;
      apart = subst (NoneProtected c.args.found.now) (sym none) (λ k d low. absurd (omega (arith, low)));
      err = tt;
    }

pub returns-then-is_protected-clause-err : goal.returns-then-is_protected-clause-err
returns-then-is_protected-clause-err c = λ text files placed all r.
    inr (spare_protected text files c.args.given.now.number c.args.found.now (spare_line_of c.in-Spare.line) (rw c.in-Spare.is at placed) all
    (sym c.if-is_protected.ensures))

pub returns-in-Err-Relay-clause-err : goal.returns-in-Err-Relay-clause-err
returns-in-Err-Relay-clause-err c = λ text files placed all r.
    inr (spare_unknown text files r c.args.given.now.number (spare_line_of c.in-Spare.line) (rw c.in-Spare.is at placed) (rw c.in-Err-Relay.field-0-is at c.in-Err-Relay.ensures.missing))

pub returns-in-Err-Part-clause-err : goal.returns-in-Err-Part-clause-err
returns-in-Err-Part-clause-err c = λ text files placed all r.
    let missing = rw c.in-Err-Part.field-0-is at c.in-Err-Part.ensures.missing in
    inr (no_action text files r c.args.given.now.number (spare_line_of c.in-Spare.line) (rw c.in-Spare.is at placed) missing.0 missing.1 missing.2)

pub returns-else-is_protected-clause-spares : goal.returns-else-is_protected-clause-spares
returns-else-is_protected-clause-spares c = rw c.in-Spare.is
    (push_one (IsSpare (site_with c.args.relays.now)) (spare_line_of c.in-Spare.line) c.in-Ok.action c.args.spares.now.items _ c.push_item.result c.in-Ok.ensures.action c.push_item.ensures.ok)

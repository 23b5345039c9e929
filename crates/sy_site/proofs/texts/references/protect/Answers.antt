use Rattle.std.proofs.Common.{inr, refl}
use Rattle.sy_site.specs.internal.Lines.{protect_line_of}
use Rattle.sy_site.specs.internal.SiteInside.{site_with}
use Rattle.sy_site.specs.texts.Describes.{IsProtection}
use Rattle.sy_site.proofs.lemmas.sites.More.{push_one}
use Rattle.sy_site.proofs.lemmas.texts.FaultsFound.{no_archive, protect_unknown}
use Rattle.sy_site.proofs.texts.references.protect.Goals as goal

pub returns-in-Err-Relay-clause-err : goal.returns-in-Err-Relay-clause-err
returns-in-Err-Relay-clause-err c = λ text files at r.
    inr (protect_unknown text files r c.args.number (protect_line_of c.args.line) at (rw c.in-Err-Relay.field-0-is at c.in-Err-Relay.ensures.missing))

pub returns-in-Err-Part-clause-err : goal.returns-in-Err-Part-clause-err
returns-in-Err-Part-clause-err c = λ text files at r.
    let missing = rw c.in-Err-Part.field-0-is at c.in-Err-Part.ensures.missing in
    inr (no_archive text files r c.args.number (protect_line_of c.args.line) at missing.0 missing.1 missing.2)

pub returns-in-Ok-clause-protections : goal.returns-in-Ok-clause-protections
returns-in-Ok-clause-protections c =
    push_one (IsProtection (site_with c.args.relays.now)) (protect_line_of c.args.line) (record { selector = c.args.line.selector; archive = c.in-Ok.archive })
    c.args.protections.now.items _ c.push_item.result (record { selector = refl; archive = c.in-Ok.ensures.archive }) c.push_item.ensures.ok

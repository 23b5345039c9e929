use Rattle.sy_site.specs.texts.Describes.{IsProtection}
use Rattle.sy_site.specs.internal.SiteInside.{site_with}
use Rattle.sy_site.proofs.lemmas.sites.More.{none_of, not_protect}
use Rattle.sy_site.proofs.texts.references.push_protection.Goals as goal

pub returns-in_default : goal.returns-in_default
returns-in_default c = record {
  protections = none_of (IsProtection (site_with c.args.relays.now)) _ c.args.protections.now.items (not_protect c.args.given.line c.in_default.not-Protect);
  err = tt;
}

use Rattle.std.proofs.Common.{subst, sym}
use Rattle.sy_site.specs.texts.Describes.{IsEntry}
use Rattle.sy_site.specs.internal.Lines.{entry_line_of}
use Rattle.sy_site.specs.internal.SiteInside.{site_with}
use Rattle.sy_site.proofs.lemmas.sites.More.{none_of, not_whole, plain_entry, whole_entry}
use Rattle.sy_site.proofs.texts.references.push_whole_entry.Goals as goal

pub returns-in_default : goal.returns-in_default
returns-in_default c = record {
  entries = none_of (IsEntry (site_with c.args.relays.now)) _ c.args.entries.now.items (not_whole c.args.given.now.line c.in_default.not-Entry);
  err = tt;
}

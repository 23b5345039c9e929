use Rattle.sy_site.proofs.lemmas.sites.More.{none_outside, not_outside}
use Rattle.sy_site.proofs.texts.outsides.push_outside.Goals as goal

pub returns-in_default : goal.returns-in_default
returns-in_default c = record {
  outsides = none_outside c.args.outsides.now.items _ (not_outside c.args.given.now.line c.in_default.not-Outside);
  err = tt;
}

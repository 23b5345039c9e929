use Rattle.std.proofs.Common.{subst}
use Rattle.sy_site.specs.Finding.{IsTrueRefusal}
use Rattle.sy_findings.proofs.verdicts.check.say_found.Goals as goal

pub returns-in-Ok-clause-ok : goal.returns-in-Ok-clause-ok
returns-in-Ok-clause-ok c = record {
  found = c.in-Finding.finding;
  is_true = subst (IsTrueRefusal c.args.site.now) c.in-Finding.is c.requires.found;
  text_is = c.in-Ok.ensures.text;
  refused = c.in-Ok.ensures.refused;
}

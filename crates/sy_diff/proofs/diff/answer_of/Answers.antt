use Rattle.std.proofs.Common.{refl}
use Rattle.sy_diff.proofs.diff.answer_of.Goals as goal

pub returns-in-Ok-clause-ok : goal.returns-in-Ok-clause-ok
returns-in-Ok-clause-ok g c = record {
  change = _;
  old_is = c.in_ok-old.ensures.ok;
  new_is = c.in_ok-new.ensures.ok;
  renames_are = refl;
  judged = c.in-Ok.ensures.ok;
}

use Rattle.std.proofs.Common.{rules}
use Rattle.sy_flows.proofs.Alike.{turned}
use Rattle.sy_checker.proofs.Cleaner.{clean_for}
use Rattle.sy_checker.proofs.course.new_course.Goals as goal

pub returns-clause-ok : goal.returns-clause-ok
returns-clause-ok c = record {
  flows = search rules;
  spread = search rules;
  reached = search rules;
  every = search rules;
  ranks = search rules;
  many = search rules;
  numbers = search rules;
  leads = search rules;
  clean = λ other like low.
      clean_for c.args.site.now c.is_lawful.ensures other c.args.class (turned c.args.site.now c.args.class other like) c.clean_up_to.result
      c.clean_up_to.ensures low c.in_ok-searched.ensures.ok;
}

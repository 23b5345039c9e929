use Rattle.std.proofs.Common.{◌≡◌, Some, sym, ◌∙◌}
use Rattle.sy_rules.specs.declared.lists.occurrence.Occurrence.TheVariants as occurrence
use Rattle.sy_site.specs.machine.Reach.{occurrence_at}
use Rattle.sy_warnings.proofs.Execution.{no_so, none_so, refuted, there_so, yes_so}
use Rattle.sy_warnings.proofs.holding.runs_at.Goals as goal

pub returns-then-not-is_run : goal.returns-then-not-is_run
returns-then-not-is_run c = no_so (λ e. refuted c.is_run.result
    (occurrence_at c.args.site.now c.args.at.relay c.args.at.list c.args.number ≡ Some (occurrence.Run c.args.action)) c.is_run.ensures c.if-not-is_run.true
    e.does.found)

pub returns-in-Some : goal.returns-in-Some
returns-in-Some c = yes_so (there_so c.args.site.now c.args.by c.args.at c.args.number (occurrence.Run c.args.action) c.in-Some.field-0
    (c.is_run.ensures.0 c.if-not-is_run.false) c.executed.result c.executed.ensures c.in-Some.is)

pub returns-in-None : goal.returns-in-None
returns-in-None c = no_so (none_so c.args.site.now c.args.by c.args.at c.args.number c.executed.result c.executed.ensures c.in-None.is
    (occurrence.Run c.args.action))

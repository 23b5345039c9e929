use Rattle.sy_rules.proofs.lemmas.check.FaultLaws.{loaded, refused_for_memory, refused_there}
use Rattle.sy_rules.proofs.plan.Plan.load.Goals as goal

pub returns-in-Ok-clause-plan : goal.returns-in-Ok-clause-plan
returns-in-Ok-clause-plan c = loaded c.args.script.now c.load_items.result c.load_items.ensures.plan c.load_items.ensures.ok

pub returns-in-Ok-clause-there : goal.returns-in-Ok-clause-there
returns-in-Ok-clause-there c = refused_there c.args.script.now c.load_items.result c.load_items.ensures.err

pub returns-in-Ok-clause-only : goal.returns-in-Ok-clause-only
returns-in-Ok-clause-only c = refused_for_memory c.args.script.now c.load_items.result c.load_items.ensures.err

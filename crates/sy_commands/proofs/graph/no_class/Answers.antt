use Rattle.std.proofs.Common.{inl, refl}
use Rattle.sy_commands.proofs.graph.no_class.Goals as goal

pub returns-in-Ok-clause-reported : goal.returns-in-Ok-clause-reported
returns-in-Ok-clause-reported g c = rw (← c.out.view_is) (inl (refl, c.as_slice.result.now, c.report_texts.ensures))

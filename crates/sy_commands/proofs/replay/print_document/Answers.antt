use Rattle.std.proofs.Common.{ap, inl, inr, refl}
use Rattle.sy_report.specs.declared.outcome.halt.Halt.TheVariants as halts
use Rattle.sy_commands.proofs.Replayed.{printed_ends}
use Rattle.sy_commands.proofs.replay.print_document.Goals as goal

pub returns-in-Ok-clause-ends : goal.returns-in-Ok-clause-ends
returns-in-Ok-clause-ends g c = printed_ends c.in-Ok.text.items c.print.result c.args.out.now c.print.new.out c.print.ensures.printed

pub returns-in-Err-clause-ends : goal.returns-in-Err-clause-ends
returns-in-Err-clause-ends g c = inr (halts.NoMemory, c.stop.ensures.status, inl (refl, ap (λ s. s.faults) c.stop.ensures.same))

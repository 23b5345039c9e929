use Rattle.std.proofs.Common.{ap, sym, subst}
use Rattle.std.specs.Io.KnownBytes.{Appends}
use Rattle.std.specs.Arc.{arc_value}
use Rattle.sy_passing.specs.Pass.{line}
use Rattle.sy_passing.proofs.Carrying.{failure_says, line_fails, line_out, receipt_of, text_of}
use Rattle.sy_passing.proofs.Ready.{IsRunOf, job_there}
use Rattle.sy_passing.proofs.pass.one_message.offer.Goals as goal

pub unreachable-requires-in-None : goal.unreachable-requires-in-None
unreachable-requires-in-None g c = job_there _ _ c.requires.ready.1 c.in-None.ensures.none

pub returns-in-Ok-deliver-clause-receipt : goal.returns-in-Ok-deliver-clause-receipt
returns-in-Ok-deliver-clause-receipt g c =
    receipt_of _ _ _ _ _ _ c.requires.ready.1 c.in-Some-Run.ensures.some (subst (IsRunOf (arc_value c.in-Ok.message)) (sym c.in-Some-Run.field-0-is) (sym c.in-Ok.ensures)) c.requires.whole.number c.in-Ok-deliver.ensures.receipt

pub returns-in-Ok-deliver-clause-ok : goal.returns-in-Ok-deliver-clause-ok
returns-in-Ok-deliver-clause-ok g c = λ raw ready.
    let text = text_of _ _ _ _ ready c.in-Some-Run.ensures.some (subst (IsRunOf (arc_value c.in-Ok.message)) (sym c.in-Some-Run.field-0-is) (sym c.in-Ok.ensures)) in
    subst (λ x. Appends (g.W.Sink.contents c.args.hatch.now.device.writer) (g.W.Sink.contents c.deliver.new.self.device.writer) (line x)) text (line_out g.W.Sink.contents g.W.Sink.faults c.args.hatch.now.device (line (arc_value c.in-Ok.message).raw) c.deliver.new.self.device c.requires.whole.out c.in-Ok-deliver.ensures.done.0)

pub returns-in-Err-clause-err : goal.returns-in-Err-clause-err
returns-in-Err-clause-err g c = λ raw ready.
    let text = text_of _ _ _ _ ready c.in-Some-Run.ensures.some (subst (IsRunOf (arc_value c.in-Ok.message)) (sym c.in-Some-Run.field-0-is) (sym c.in-Ok.ensures)) in
    let said = failure_says g.W.Sink.contents g.W.Sink.faults c.args.hatch.now.device (line (arc_value c.in-Ok.message).raw) c.deliver.new.self.device _ _ _ _ c.in-Err.failure.fault c.args.hatch.now.made c.requires.room c.in-Err.ensures.cause in
    rw (ap line text) at (line_fails g.W.Sink.contents g.W.Sink.faults c.args.hatch.now.device (line (arc_value c.in-Ok.message).raw) c.deliver.new.self.device c.requires.whole.out _ _ said.0 c.carry_fault.ensures).0

pub returns-in-Err-clause-count : goal.returns-in-Err-clause-count
returns-in-Err-clause-count g c =
    let said = failure_says g.W.Sink.contents g.W.Sink.faults c.args.hatch.now.device (line (arc_value c.in-Ok.message).raw) c.deliver.new.self.device _ _ _ _ c.in-Err.failure.fault c.args.hatch.now.made c.requires.room c.in-Err.ensures.cause in
    (line_fails g.W.Sink.contents g.W.Sink.faults c.args.hatch.now.device (line (arc_value c.in-Ok.message).raw) c.deliver.new.self.device c.requires.whole.out _ _ said.0 c.carry_fault.ensures).2

use Rattle.std.proofs.Common.{inl, inr, subst}
use Rattle.std.proofs.KnownBytes.{Keeps-refl}
use Rattle.sy_report.specs.Reports.{Reported, report, seen}
use Rattle.sy_passing.specs.internal.Stops.{StopsIn}
use Rattle.sy_report.specs.declared.outcome.stop.Stop.TheVariants.{WriteFailed}
use Rattle.sy_passing.proofs.Statuses.{stopped}
use Rattle.sy_passing.proofs.pass.give_up.Goals as goal

pub returns-in-WriteFailed-clause-pass : goal.returns-in-WriteFailed-clause-pass
returns-in-WriteFailed-clause-pass g c = rw (← c.out.view_is) (λ input first s.
    let wrote = g.W.Sink.contents c.out.inside.writer in
    let is_reported = Reported (seen g.E.Sink.contents g.E.Sink.is_flushed g.E.Sink.faults c.out.inside.errors)
    (seen g.E.Sink.contents g.E.Sink.is_flushed g.E.Sink.faults c.report_stop.new.errors) in
    stopped input first wrote wrote (Keeps-refl wrote) is_reported WriteFailed c.args.stopped.frame
    (subst (λ e. StopsIn e c.args.stopped.frame input first wrote) c.in-WriteFailed.is s)
    (subst (λ e. is_reported (report e c.args.stopped.frame)) c.in-WriteFailed.is c.report_stop.ensures))

pub returns-in-WriteFailed-clause-cause : goal.returns-in-WriteFailed-clause-cause
returns-in-WriteFailed-clause-cause g c = rw (← c.out.view_is) (λ four.
    let is_reported = Reported (seen g.E.Sink.contents g.E.Sink.is_flushed g.E.Sink.faults c.out.inside.errors)
    (seen g.E.Sink.contents g.E.Sink.is_flushed g.E.Sink.faults c.report_stop.new.errors) in
    inr (subst (λ e. is_reported (report e c.args.stopped.frame)) c.in-WriteFailed.is c.report_stop.ensures, inl c.in-WriteFailed.is))

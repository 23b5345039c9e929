use Rattle.std.proofs.Common.{◌∙◌, inl, inr, ap, sym}
use Rattle.sy_report.specs.Reports.{Reported, seen, status_shown}
use Rattle.sy_passing.proofs.Statuses.{flush_failed, gives_up, stopped}
use Rattle.sy_passing.proofs.pass.hand_on.Goals as goal
use Rattle.sy_passing.proofs.pass.hand_on.Goals.{in-Ok, in-Err}

pub returns-clause-pass : goal.returns-clause-pass
returns-clause-pass g c = rw (← c.out.view_is) (λ input first s.
    elim c.match-flush.branch [
      | in-Ok w ↦ rw (c.status_of.ensures, w.stop-is) (stopped input first _ _ c.flush.ensures.bytes _ c.args.stopped.stop c.args.stopped.frame s (rw w.stop-is at c.report_stop.ensures))
      | in-Err w ↦ rw (c.status_of.ensures, w.stop-is) (flush_failed input first _ _ c.flush.ensures.bytes _ c.args.stopped.stop c.args.stopped.frame s (rw w.stop-is at c.report_stop.ensures))
    ])

pub returns-clause-flushed : goal.returns-clause-flushed
returns-clause-flushed g c = rw (← c.out.view_is) (
    elim c.match-flush.branch [
      | in-Ok w ↦ inl w.in-Ok.ensures.flushed
      | in-Err w ↦ inr (c.status_of.ensures ∙ ap status_shown w.stop-is, w.in-Err.ensures.err)
    ])

pub returns-clause-cause : goal.returns-clause-cause
returns-clause-cause g c = rw (← c.out.view_is) (λ is.
    elim c.match-flush.branch [
      | in-Ok w ↦ gives_up (Reported (seen g.E.Sink.contents g.E.Sink.is_flushed g.E.Sink.faults c.out.inside.errors) (seen g.E.Sink.contents g.E.Sink.is_flushed g.E.Sink.faults c.report_stop.new.errors)) c.args.stopped.stop c.args.stopped.frame _ _ (ap status_shown (sym w.stop-is) ∙ sym c.status_of.ensures ∙ is) (rw w.stop-is at c.report_stop.ensures)
      | in-Err w ↦ inr (rw w.stop-is at c.report_stop.ensures, inr w.in-Err.ensures.err)
    ])

pub returns-clause-none_failed : goal.returns-clause-none_failed
returns-clause-none_failed g c = rw (← c.out.view_is) (λ other.
    elim c.match-flush.branch [
      | in-Ok w ↦ ((λ is. other (c.status_of.ensures ∙ ap status_shown w.stop-is ∙ is)), w.in-Ok.ensures.ok)
      | in-Err w ↦ absurd (other (c.status_of.ensures ∙ ap status_shown w.stop-is))
    ])

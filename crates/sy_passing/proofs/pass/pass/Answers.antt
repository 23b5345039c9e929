use Rattle.std.proofs.Common.{◌∙◌, inl, inr}
use Rattle.sy_report.specs.Reports.{Reported, seen}
use Rattle.sy_passing.proofs.Statuses.{has_failed, none_failed, rose_by}
use Rattle.sy_passing.proofs.pass.pass.Goals as goal

pub returns-in-Err-clause-cause : goal.returns-in-Err-clause-cause
returns-in-Err-clause-cause g c = rw (← c.out.view_is) (λ is.
    has_failed (Reported (seen g.E.Sink.contents g.E.Sink.is_flushed g.E.Sink.faults c.out.inside.errors) c.give_up.new.out.errors) c.in-Err.stopped.stop _ _ _ c.in-Err.ensures.writes c.give_up.ensures.writes c.in-Err.ensures.cause (c.give_up.ensures.cause is))

pub returns-in-Err-clause-none_failed : goal.returns-in-Err-clause-none_failed
returns-in-Err-clause-none_failed g c = rw (← c.out.view_is) (λ other.
    let last = c.give_up.ensures.none_failed other in
    let before = none_failed c.in-Err.stopped.stop _ _ c.in-Err.ensures.cause last.0 in
    (before.0, last.1 ∙ before.1))

pub returns-in-Err-clause-pass : goal.returns-in-Err-clause-pass
returns-in-Err-clause-pass g c = rw (← c.out.view_is) (λ input known. c.give_up.ensures.pass input _ (c.in-Err.ensures.err input known))

pub returns-in-Err-clause-flushed : goal.returns-in-Err-clause-flushed
returns-in-Err-clause-flushed g c = rw (← c.out.view_is) (
    elim c.give_up.ensures.flushed [
      | inl a ↦ inl a
      | inr b ↦ inr (b.0, rose_by c.in-Err.stopped.stop _ _ _ c.in-Err.ensures.writes c.give_up.ensures.writes c.in-Err.ensures.cause b.1)
    ])

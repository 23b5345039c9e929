use Rattle.std.proofs.Common.{subst, sym}
use Rattle.std.specs.Prelude.{OnOk}
use Rattle.sy_replay.specs.Events.{site_event}
use Rattle.sy_replay.specs.internal.Held.{contents_of}
use Rattle.sy_replay.specs.States.{Applies}
use Rattle.sy_replay.proofs.Made.{on_ok}
use Rattle.sy_replay.proofs.replay.step.Goals as goal

pub returns-in-TakeNew-clause-ok : goal.returns-in-TakeNew-clause-ok
returns-in-TakeNew-clause-ok c =
    subst (λ e. OnOk c.take_new.result (Applies c.args.site.now (contents_of c.args.held.now) (site_event e) (contents_of c.take_new.new.held))) (sym c.in-TakeNew.is)
    (on_ok c.take_new.result (λ steps. steps c.args.site.now c.requires) c.take_new.ensures.ok)

pub returns-in-TakeFrom-clause-ok : goal.returns-in-TakeFrom-clause-ok
returns-in-TakeFrom-clause-ok c =
    subst (λ e. OnOk c.take_from.result (Applies c.args.site.now (contents_of c.args.held.now) (site_event e) (contents_of c.take_from.new.held))) (sym c.in-TakeFrom.is)
    c.take_from.ensures.ok

pub returns-in-Inside-clause-ok : goal.returns-in-Inside-clause-ok
returns-in-Inside-clause-ok c =
    let held = c.args.held.now in
    subst (λ e. OnOk c.inside.result (Applies c.args.site.now (contents_of held) (site_event e)
    (contents_of (record { parts = c.inside.new.parts; copies = held.copies; losses = c.inside.new.losses; arrivals = held.arrivals })))) (sym c.in-Inside.is)
    (on_ok c.inside.result (λ steps. steps c.args.site.now held.copies.items held.arrivals.items c.requires) c.inside.ensures.ok)

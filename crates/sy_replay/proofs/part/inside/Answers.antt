use Rattle.std.proofs.Common.{refl}
use Rattle.std.proofs.lemmas.Option.{slice_get_read}
use Rattle.sy_replay.specs.Events.{losses_of, step_of}
use Rattle.sy_replay.specs.internal.Events.{IsIllegal}
use Rattle.sy_replay.specs.internal.States.{IsNoneInside}
use Rattle.sy_site.specs.machine.Steps.{SiteEvent}
use Rattle.sy_replay.proofs.Made.{if_err, on_ok}
use Rattle.sy_replay.proofs.Sites.{inside_made, inside_refused}
use Rattle.sy_replay.proofs.part.inside.Goals as goal

pub returns-clause-ok : goal.returns-clause-ok
returns-clause-ok c = on_ok c.step.result (λ makes site copies arrivals of.
    inside_made site c.args.parts.now.items copies (losses_of c.args.losses.now.items) (losses_of c.step.new.losses.items) arrivals c.args.relay c.in-Some.part.now c.step.new.self
    c.args.event of (slice_get_read c.args.parts.now.items _ c.args.relay c.in-Some.part.now refl c.in-Some.ensures.item.3.0 c.in-Some.ensures.item.1) c.step.ensures.lists c.step.ensures.whole makes) c.step.ensures.ok

pub returns-clause-err : goal.returns-clause-err
returns-clause-err c = if_err (λ why. IsIllegal why c.in-Some.part.now.board (step_of c.args.event))
    (λ why. IsNoneInside why c.args.parts.now.items (losses_of c.args.losses.now.items) (SiteEvent.Inside c.args.relay (step_of c.args.event))) c.step.result
    (λ why none site copies arrivals of.
    inside_refused why site c.args.parts.now.items copies (losses_of c.args.losses.now.items) arrivals c.args.relay c.in-Some.part.now c.args.event of (slice_get_read c.args.parts.now.items _ c.args.relay c.in-Some.part.now refl c.in-Some.ensures.item.3.0 c.in-Some.ensures.item.1) none)
    c.step.ensures.err

use Rattle.std.proofs.Common.{refl, subst}
use Rattle.std.specs.Prelude.{slice_set}
use Rattle.std.specs.Arc.{arc_value}
use Rattle.std.proofs.lemmas.Option.{slice_get_read}
use Rattle.sy_replay.specs.Events.{losses_of}
use Rattle.sy_replay.specs.internal.Parts.{IsNoTake}
use Rattle.sy_replay.specs.internal.Takes.{IsNoEntry, TakesEntry}
use Rattle.sy_replay.proofs.Made.{if_err, on_ok}
use Rattle.sy_replay.proofs.Sites.{plans_set}
use Rattle.sy_replay.proofs.Takes.{entry_refused, entry_taken, plan_taken}
use Rattle.sy_replay.proofs.part.take_entry.Goals as goal

pub returns-clause-ok : goal.returns-clause-ok
returns-clause-ok c =
    let parts = c.args.parts.now.items in
    let part = c.in-Some.part.now in
    let is = slice_get_read parts _ c.args.to.relay part refl c.in-Some.ensures.item.3.0 c.in-Some.ensures.item.1 in
    on_ok c.take.result (λ t. subst (λ m. TakesEntry parts (losses_of c.args.losses.now.items) c.args.to c.args.hand m c.args.tag (slice_set parts c.args.to.relay c.take.new.self) (losses_of c.take.new.losses.items)) c.in-Ok.ensures
    (entry_taken parts (losses_of c.args.losses.now.items) (losses_of c.take.new.losses.items) c.args.to c.args.hand (arc_value c.in-Ok.message) c.args.tag part c.take.new.self is t))
    c.take.ensures.ok

pub returns-clause-err : goal.returns-clause-err
returns-clause-err c =
    let parts = c.args.parts.now.items in
    let part = c.in-Some.part.now in
    let is = slice_get_read parts _ c.args.to.relay part refl c.in-Some.ensures.item.3.0 c.in-Some.ensures.item.1 in
    if_err (λ why. IsNoTake why part.board c.args.to.input c.args.hand (arc_value c.in-Ok.message) c.args.tag)
    (λ why. IsNoEntry why parts c.args.to c.args.hand (arc_value c.args.message.now) c.args.tag) c.take.result
    (λ why none. subst (λ m. IsNoEntry why parts c.args.to c.args.hand m c.args.tag) c.in-Ok.ensures
    (entry_refused why parts c.args.to c.args.hand (arc_value c.in-Ok.message) c.args.tag part is none)) c.take.ensures.err

pub returns-clause-plans : goal.returns-clause-plans
returns-clause-plans c =
    let parts = c.args.parts.now.items in
    let part = c.in-Some.part.now in
    let is = slice_get_read parts _ c.args.to.relay part refl c.in-Some.ensures.item.3.0 c.in-Some.ensures.item.1 in
    plans_set c.args.to.relay parts part c.take.new.self is
    (plan_taken _ c.take.result c.args.to.relay part c.take.new.self (losses_of c.args.losses.now.items) (losses_of c.take.new.losses.items) c.args.to.input c.args.hand
    (arc_value c.in-Ok.message) c.args.tag c.take.ensures.ok c.take.ensures.unchanged)

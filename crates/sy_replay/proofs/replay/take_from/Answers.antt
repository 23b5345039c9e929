use Rattle.std.proofs.Common.{◌≡◌, ◌∙◌, ◌∷◌, ◌++◌, [], ap, arith, length, subst, sym}
use Rattle.std.specs.Arc.{arc_value}
use Rattle.sy_site.specs.machine.Steps.{SiteEvent}
use Rattle.sy_site.specs.machine.States.{taken_by}
use Rattle.sy_replay.specs.Events.{losses_of}
use Rattle.sy_replay.specs.internal.Events.{behind}
use Rattle.sy_replay.specs.internal.Held.{contents_of}
use Rattle.sy_replay.specs.States.{Applies, holding}
use Rattle.sy_replay.specs.internal.Takes.{IsNoEntry, TakesEntry}
use Rattle.sy_replay.proofs.Takes.{from_link, none_there, not_from_link, place_kept}
use Rattle.sy_replay.proofs.replay.take_from.Goals as goal

pub returns-in_default-clause-err : goal.returns-in_default-clause-err
returns-in_default-clause-err c =
    none_there c.args.site.now (contents_of c.args.held.now) c.args.to c.args.hand c.args.link c.args.place c.in_default.ensures.none

pub returns-in-Err-clause-err : goal.returns-in-Err-clause-err
returns-in-Err-clause-err c =
    let held = c.args.held.now in
    let tag : c.len-tag.result ≡ length held.copies.items = let len = c.len-tag.ensures in let ok = c.reserve.new.self.ok in let items = ap length c.reserve.ensures.items in omega (arith, len, ok, items) in
    not_from_link c.in-Err.why c.args.site.now (contents_of held) c.args.to c.args.hand c.args.link c.args.place c.in-Some.copy.now c.requires c.in-Some.ensures.some
    (subst (λ m. IsNoEntry c.in-Err.why held.parts.items c.args.to c.args.hand m (length held.copies.items)) (c.in-Ok.ensures ∙ c.message.ensures)
    (subst (IsNoEntry c.in-Err.why held.parts.items c.args.to c.args.hand (arc_value c.in-Ok.message)) tag c.in-Err.ensures.err))

pub unlink-requires : goal.unlink-requires
unlink-requires c =
    place_kept c.args.held.now.parts.items c.take_entry.new.parts.items c.args.link c.args.place c.in-Some.ensures.some.tag c.in-Some.ensures.some.stands
    c.in_default-take_entry.ensures.ok.passed

pub returns-clause-ok : goal.returns-clause-ok
returns-clause-ok c =
    let held = c.args.held.now in
    let tag : c.len-tag.result ≡ length held.copies.items = let len = c.len-tag.ensures in let ok = c.reserve.new.self.ok in let items = ap length c.reserve.ensures.items in omega (arith, len, ok, items) in
    let copy = c.in-Some.copy.now in
    let after = losses_of c.take_entry.new.losses.items in
    let entry = subst (λ m. TakesEntry held.parts.items (losses_of held.losses.items) c.args.to c.args.hand m (length held.copies.items) c.take_entry.new.parts.items after)
    (c.in-Ok.ensures ∙ c.message.ensures)
    (subst (λ t. TakesEntry held.parts.items (losses_of held.losses.items) c.args.to c.args.hand (arc_value c.in-Ok.message) t c.take_entry.new.parts.items after) tag c.in_default-take_entry.ensures.ok) in
    let step = from_link c.args.site.now (contents_of held) c.args.to c.args.hand c.args.link c.args.place copy c.take_entry.new.parts.items c.unlink.new.parts.items after
    c.requires c.in-Some.ensures.some entry c.unlink.ensures.gone in
    let copies = c.push_reserved.ensures.items ∙ ap (λ xs. xs ++ c.in-Ok-taken_by.copy ∷ []) c.reserve.ensures.items
    ∙ ap (λ x. held.copies.items ++ x ∷ [])
    (c.in-Ok-taken_by.ensures ∙ ap (λ s. taken_by c.args.to.relay (behind s copy)) c.is_spare.ensures) in
    subst (λ cs. Applies c.args.site.now (contents_of held) (SiteEvent.TakeFrom c.args.to c.args.hand c.args.link c.args.place)
    (holding c.unlink.new.parts.items cs after held.arrivals.items)) (sym copies) step

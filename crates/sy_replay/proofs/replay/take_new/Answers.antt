use Rattle.std.proofs.Common.{◌≡◌, ◌∙◌, ◌∷◌, ◌++◌, [], ap, arith, length, subst, sym}
use Rattle.std.specs.Arc.{arc_value}
use Rattle.sy_site.specs.machine.Steps.{SiteEvent}
use Rattle.sy_replay.specs.Events.{losses_of}
use Rattle.sy_replay.specs.States.{Applies, holding}
use Rattle.sy_replay.specs.internal.Takes.{IsNoEntry, TakesEntry}
use Rattle.sy_replay.proofs.Takes.{arrival, first, new_comes, none_comes}
use Rattle.sy_replay.proofs.replay.take_new.Goals as goal

pub returns-in-Err-clause-err : goal.returns-in-Err-clause-err
returns-in-Err-clause-err c = λ site of.
    let held = c.args.held.now in
    let m = arc_value c.args.message.now in
    let tag : c.len-tag.result ≡ length held.copies.items = let len = c.len-tag.ensures in let ok = c.reserve-2.new.self.ok in let items = ap length c.reserve-2.ensures.items in omega (arith, len, ok, items) in
    none_comes c.in-Err.why site held.parts.items held.copies.items (losses_of held.losses.items) held.arrivals.items c.args.to c.args.hand m of
    (subst (IsNoEntry c.in-Err.why held.parts.items c.args.to c.args.hand m) tag c.in-Err.ensures.err)

pub returns-clause-ok : goal.returns-clause-ok
returns-clause-ok c = λ site of.
    let held = c.args.held.now in
    let m = arc_value c.args.message.now in
    let tag : c.len-tag.result ≡ length held.copies.items = let len = c.len-tag.ensures in let ok = c.reserve-2.new.self.ok in let items = ap length c.reserve-2.ensures.items in omega (arith, len, ok, items) in
    let number : c.len.result ≡ length held.arrivals.items = let len = c.len.ensures in let ok = held.arrivals.ok in omega (arith, len, ok) in
    let event = SiteEvent.TakeNew c.args.to c.args.hand m in
    let before = losses_of held.losses.items in
    let after = losses_of c.take_entry.new.losses.items in
    let old = holding held.parts.items held.copies.items before held.arrivals.items in
    let parts = c.take_entry.new.parts.items in
    let entry = subst (λ t. TakesEntry held.parts.items before c.args.to c.args.hand m t parts after) tag c.in_default-take_entry.ensures.ok in
    let step = new_comes site held.parts.items held.copies.items before after held.arrivals.items c.args.to c.args.hand m parts of entry in
    let copies = c.push_reserved.ensures.items ∙ ap (λ xs. xs ++ c.in-Ok-first.copy ∷ []) c.reserve-2.ensures.items
    ∙ ap (λ x. held.copies.items ++ x ∷ []) (c.in-Ok-first.ensures ∙ ap (first c.args.to m) number) in
    let arrivals = c.push_reserved-2.ensures.items ∙ ap (λ xs. xs ++ arrival c.args.to (arc_value c.in-Ok.arrived) ∷ []) c.reserve.ensures.items
    ∙ ap (λ x. held.arrivals.items ++ arrival c.args.to x ∷ []) c.in-Ok.ensures in
    subst (λ cs. Applies site old event (holding parts cs after c.push_reserved-2.new.self.items)) (sym copies)
    (subst (λ arrived. Applies site old event (holding parts (held.copies.items ++ first c.args.to m (length held.arrivals.items) ∷ []) after arrived)) (sym arrivals) step)

use Rattle.std.proofs.Common.{◌≡◌, ◌∙◌, subst, ap}
use Rattle.std.specs.Prelude.{IfOk}
use Rattle.sy_site.specs.Sites.{actions_at}
use Rattle.sy_fit.specs.Acceptance.{ArePairsAt}
use Rattle.sy_fit.specs.internal.Acceptance.{AreGuardable}
use Rattle.sy_fit.proofs.Guarded.{guard_is, guard_may}
use Rattle.sy_fit.proofs.accepted.Accepted.guard.Goals as goal

pub returns-clause-guard : goal.returns-clause-guard
returns-clause-guard c =
    guard_is c.args.self.now c.args.relay c.in_ok-pairs.pairs.items c.in_ok-spares.spares.items c.new.result
    (subst (λ l. ArePairsAt l c.args.relay c.in_ok-pairs.pairs.items) (c.as_slice.ensures.value ∙ ap (λ a. a.pairs) c.self.view_is) c.in_ok-pairs.ensures)
    (c.in_ok-spares.ensures ∙ ap (λ l. actions_at l c.args.relay) (c.as_slice-2.ensures.value ∙ ap (λ a. a.spares) c.self.view_is))
    (subst (λ l. IfOk c.new.result (λ g. g ≡ record { pairs = l; spares = c.in_ok-spares.spares.items })) c.as_slice-3.ensures.value
    (subst (λ l. IfOk c.new.result (λ g. g ≡ record { pairs = c.as_slice-3.result.now; spares = l })) c.as_slice-4.ensures.value c.new.ensures))

pub returns-clause-may : goal.returns-clause-may
returns-clause-may c =
    guard_may c.args.self.now c.args.relay c.new.result (subst AreGuardable c.self.view_is c.self.invariant)
    (guard_is c.args.self.now c.args.relay c.in_ok-pairs.pairs.items c.in_ok-spares.spares.items c.new.result
    (subst (λ l. ArePairsAt l c.args.relay c.in_ok-pairs.pairs.items) (c.as_slice.ensures.value ∙ ap (λ a. a.pairs) c.self.view_is) c.in_ok-pairs.ensures)
    (c.in_ok-spares.ensures ∙ ap (λ l. actions_at l c.args.relay) (c.as_slice-2.ensures.value ∙ ap (λ a. a.spares) c.self.view_is))
    (subst (λ l. IfOk c.new.result (λ g. g ≡ record { pairs = l; spares = c.in_ok-spares.spares.items })) c.as_slice-3.ensures.value
    (subst (λ l. IfOk c.new.result (λ g. g ≡ record { pairs = c.as_slice-3.result.now; spares = l })) c.as_slice-4.ensures.value c.new.ensures)))

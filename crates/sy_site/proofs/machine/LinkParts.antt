-- What else holds of a copy on a link that leads nowhere, and of a lost one.
use Rattle.std.proofs.Common.{◌≡◌, ℕ, ◌==◌, Bool, true, false, [], ◌∷◌, refl, subst, arith, Some}
use Rattle.std.specs.Prelude.{◌≢◌, ◌⊎◌}
use Rattle.std.specs.Int.{bit_at}
use Rattle.std.proofs.lemmas.Bool.{eqb-true}
use Rattle.sy_wire.specs.declared.class.Class.{Class}
use Rattle.sy_chain.specs.Entries.{Entry}
use Rattle.sy_rules.specs.lists.Body.{Body}
use Rattle.sy_rules.specs.lists.Work.{May}
use Rattle.sy_rules.specs.Whole.{body_at}
use Rattle.sy_rules.proofs.lemmas.lists.WorkLaws.{work_may}
use Rattle.sy_board.specs.relay.Cells.{Cell, at}
use Rattle.sy_board.specs.relay.Spares.{Scope}
use Rattle.sy_board.proofs.relay.Keeps.{Each}
use Rattle.sy_site.specs.Sites.{SiteAction, SiteInput, plan_at, target}
use Rattle.sy_site.specs.machine.Reach.{Reach, entry, forwards, list_of, onward}
use Rattle.sy_site.specs.machine.Confinement.{IsOfAPost, IsPlaceOf}
use Rattle.sy_site.specs.machine.Examples.{example_message, hub_input, up}
use Rattle.sy_site.specs.machine.Counterexamples.{Bound, Bounds, OfHeld, OfLinks, aimless_site, hasty_site, input_of}
use Rattle.sy_site.proofs.machine.Naming.{each_in}
use Rattle.sy_site.proofs.machine.Parts.{none_there, of_nothing}
use Rattle.sy_site.proofs.machine.Spread.{action_elim, some_same}
use Rattle.sy_site.proofs.machine.AimlessRun as aimless
use Rattle.sy_site.proofs.machine.HastyRun as hasty

module _ (class : Class) where
  -- ---- a link to nowhere

  -- no relay holds anything any more
  held_none_aimless : (P : ℕ → Cell → Entry → Type 0) (relay : ℕ) (cell : Cell) → Each (P relay cell) (at ((aimless.s4 class).relays relay) cell)
  held_none_aimless P relay cell = go (0 == relay) refl
    where
      go : (b : Bool) → (0 == relay) ≡ b → Each (P relay cell) (at ((aimless.s4 class).relays relay) cell)
      go true e = subst (λ z. Each (P z cell) (at ((aimless.s4 class).relays z) cell)) (eqb-true 0 relay e) (of_nothing (plan_at aimless_site 0) (P 0) cell)
      go false e = rw e (of_nothing (plan_at aimless_site relay) (P relay) cell)

  none_held_aimless : (P : ℕ → Cell → Entry → Type 0) → OfHeld aimless_site class (aimless.s4 class) P
  none_held_aimless P relay cell e there copy followed plain =
      each_in (P relay cell) (at ((aimless.s4 class).relays relay) cell) (held_none_aimless P relay cell) e there

  -- the link to the next relay alone has something
  on_up_aimless : (P : SiteAction → Type 0) → P up → OfLinks aimless_site class (aimless.s4 class) P
  on_up_aimless P p link tag there copy followed plain forward =
      each_in (λ z. P link) ((aimless.s4 class).passed link) (action_elim (λ z. Each (λ x. P z)) (λ a. []) up (0 ∷ []) (p, tt) (λ a. tt) link) tag there

  pub aimless_others : (other : Bound) → other ≢ Bound.LinkLeads → Bounds aimless_site class (aimless.s4 class) other
  aimless_others Bound.InReach differs = none_held_aimless (λ relay cell e. Reach aimless_site class Scope.Firm (input_of relay e))
  aimless_others Bound.OnList differs = none_held_aimless (λ relay cell e.
      (e.list ≡ list_of aimless_site (input_of relay e)) ⊎ IsOfAPost aimless_site class relay cell e)
  aimless_others Bound.MayRun differs = none_held_aimless (λ relay cell e.
      (number : ℕ) → bit_at e.due number ≡ 1 → May (body_at (plan_at aimless_site relay) e.list) class number)
  aimless_others Bound.AtPlace differs = none_held_aimless (λ relay cell e.
      IsPlaceOf (plan_at aimless_site relay) cell e.input ⊎ IsOfAPost aimless_site class relay cell e)
  aimless_others Bound.LinkLeads differs = absurd (differs refl)
  aimless_others Bound.LinkInReach differs = on_up_aimless
      (λ link. (to : SiteInput) → target aimless_site link ≡ Some to → Reach aimless_site class Scope.Firm to) (λ to leads. absurd (cc))
  aimless_others Bound.NoneLost differs = λ loss there copy followed plain. none_there loss there

  hub_is_reached : Reach hasty_site class Scope.Firm hub_input
  hub_is_reached = onward 0 (entry (0, omega arith, refl)) (forwards 0 0
      (record { may = work_may (Body.Run 0 Body.End) (example_message class) class 0 refl refl; found = refl; in_scope = refl }) refl)

  -- ---- a lost copy

  -- no relay holds anything any more
  held_none_hasty : (P : ℕ → Cell → Entry → Type 0) (relay : ℕ) (cell : Cell) → Each (P relay cell) (at ((hasty.s4 class).relays relay) cell)
  held_none_hasty P relay cell = go (0 == relay) refl
    where
      go : (b : Bool) → (0 == relay) ≡ b → Each (P relay cell) (at ((hasty.s4 class).relays relay) cell)
      go true e = subst (λ z. Each (P z cell) (at ((hasty.s4 class).relays z) cell)) (eqb-true 0 relay e) (of_nothing (plan_at hasty_site 0) (P 0) cell)
      go false e = rw e (of_nothing (plan_at hasty_site relay) (P relay) cell)

  none_held_hasty : (P : ℕ → Cell → Entry → Type 0) → OfHeld hasty_site class (hasty.s4 class) P
  none_held_hasty P relay cell e there copy followed plain =
      each_in (P relay cell) (at ((hasty.s4 class).relays relay) cell) (held_none_hasty P relay cell) e there

  -- the link to the next relay alone has something
  on_up_hasty : (P : SiteAction → Type 0) → P up → OfLinks hasty_site class (hasty.s4 class) P
  on_up_hasty P p link tag there copy followed plain forward =
      each_in (λ z. P link) ((hasty.s4 class).passed link) (action_elim (λ z. Each (λ x. P z)) (λ a. []) up (0 ∷ []) (p, tt) (λ a. tt) link) tag there

  pub hasty_others : (other : Bound) → other ≢ Bound.NoneLost → Bounds hasty_site class (hasty.s4 class) other
  hasty_others Bound.InReach differs = none_held_hasty (λ relay cell e. Reach hasty_site class Scope.Firm (input_of relay e))
  hasty_others Bound.OnList differs = none_held_hasty (λ relay cell e.
      (e.list ≡ list_of hasty_site (input_of relay e)) ⊎ IsOfAPost hasty_site class relay cell e)
  hasty_others Bound.MayRun differs = none_held_hasty (λ relay cell e.
      (number : ℕ) → bit_at e.due number ≡ 1 → May (body_at (plan_at hasty_site relay) e.list) class number)
  hasty_others Bound.AtPlace differs = none_held_hasty (λ relay cell e.
      IsPlaceOf (plan_at hasty_site relay) cell e.input ⊎ IsOfAPost hasty_site class relay cell e)
  hasty_others Bound.LinkLeads differs = on_up_hasty (λ link. (to : SiteInput) × (target hasty_site link ≡ Some to)) (hub_input, refl)
  hasty_others Bound.LinkInReach differs = on_up_hasty
      (λ link. (to : SiteInput) → target hasty_site link ≡ Some to → Reach hasty_site class Scope.Firm to)
      (λ to leads. subst (Reach hasty_site class Scope.Firm) (some_same leads) hub_is_reached)
  hasty_others Bound.NoneLost differs = absurd (differs refl)

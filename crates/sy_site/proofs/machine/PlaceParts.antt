-- What else holds of copies of another list, and in another queue.
use Rattle.std.proofs.Common.{◌≡◌, ℕ, ◌==◌, Bool, true, false, refl, sym, subst, arith, inl, inr}
use Rattle.std.specs.Prelude.{◌≢◌, ◌⊎◌}
use Rattle.std.specs.Int.{bit_at}
use Rattle.std.proofs.lemmas.Bool.{eqb-true}
use Rattle.sy_wire.specs.declared.class.Class.{Class}
use Rattle.sy_chain.specs.Entries.{Entry}
use Rattle.sy_rules.specs.lists.Body.{Body}
use Rattle.sy_rules.specs.lists.Work.{May}
use Rattle.sy_rules.specs.Whole.{body_at, queue_for}
use Rattle.sy_rules.proofs.lemmas.lists.WorkLaws.{work_may}
use Rattle.sy_board.specs.relay.Cells.{Cell, at}
use Rattle.sy_board.specs.relay.Kinds.{MayLose}
use Rattle.sy_board.specs.relay.Plans.{post_flow}
use Rattle.sy_board.specs.relay.Spares.{Scope}
use Rattle.sy_board.proofs.relay.Keeps.{Each}
use Rattle.sy_site.specs.Sites.{Site, plan_at}
use Rattle.sy_site.specs.machine.Reach.{Reach, entry, list_of}
use Rattle.sy_site.specs.machine.Confinement.{IsOfAPost, IsOfItsInput, IsPlaceOf}
use Rattle.sy_site.specs.machine.Examples.{example_message}
use Rattle.sy_site.specs.machine.Counterexamples.{Bound, Bounds, OfHeld, changing_site, input_of, moving_site}
use Rattle.sy_site.proofs.machine.DueSets.{only_first}
use Rattle.sy_site.proofs.machine.Naming.{each_in}
use Rattle.sy_site.proofs.machine.Parts.{none_there, of_nothing, of_one_entry}
use Rattle.sy_site.proofs.machine.ChangingRun as changing
use Rattle.sy_site.proofs.machine.MovingRun as moving

-- where its input doesn't put it, and a post into its list's queue may be lost
pub not_placed : (site : Site) (class : Class) (relay : ℕ) (cell : Cell) (e : Entry) → (IsOfItsInput (plan_at site relay) cell e → ⊥)
    → MayLose (plan_at site relay) class (queue_for (plan_at site relay) e.list) (post_flow (plan_at site relay) (queue_for (plan_at site relay) e.list))
    → IsOfItsInput (plan_at site relay) cell e ⊎ IsOfAPost site class relay cell e → ⊥
not_placed site class relay cell e elsewhere loses (inl its) = elsewhere its
not_placed site class relay cell e elsewhere loses (inr post) = post.keeps loses

module _ (class : Class) where
  -- ---- in a queue that isn't the input's

  held_queue : (P : ℕ → Cell → Entry → Type 0) → P 0 (Cell.Queue 1) (moving.node class 1) → (relay : ℕ) (cell : Cell)
      → Each (P relay cell) (at ((moving.s4 class).relays relay) cell)
  held_queue P p relay cell = go (0 == relay) refl
    where
      go : (b : Bool) → (0 == relay) ≡ b → Each (P relay cell) (at ((moving.s4 class).relays relay) cell)
      go true e = subst (λ z. Each (P z cell) (at ((moving.s4 class).relays z) cell)) (eqb-true 0 relay e)
          (of_one_entry (plan_at moving_site 0) (P 0) (Cell.Queue 1) (moving.node class 1) p cell)
      go false e = rw e (of_nothing (plan_at moving_site relay) (P relay) cell)

  one_queue : (P : ℕ → Cell → Entry → Type 0) → P 0 (Cell.Queue 1) (moving.node class 1) → OfHeld moving_site class (moving.s4 class) P
  one_queue P p relay cell e there copy followed plain =
      each_in (P relay cell) (at ((moving.s4 class).relays relay) cell) (held_queue P p relay cell) e there

  pub queue_others : (other : Bound) → other ≢ Bound.AtPlace → Bounds moving_site class (moving.s4 class) other
  queue_others Bound.InReach differs = one_queue (λ relay cell e. Reach moving_site class Scope.Firm (input_of relay e)) (entry (0, omega arith, refl))
  queue_others Bound.OnList differs = one_queue
      (λ relay cell e. (e.list ≡ list_of moving_site (input_of relay e)) ⊎ IsOfAPost moving_site class relay cell e) (inl refl)
  queue_others Bound.MayRun differs = one_queue
      (λ relay cell e. (number : ℕ) → bit_at e.due number ≡ 1 → May (body_at (plan_at moving_site relay) e.list) class number)
      (λ number set. subst (May (Body.Post 1 Body.End) class) (sym (only_first number set))
      (work_may (Body.Post 1 Body.End) (example_message class) class 0 refl refl))
  queue_others Bound.AtPlace differs = absurd (differs refl)
  queue_others Bound.LinkLeads differs = λ link tag there copy followed plain forward. absurd (none_there tag there)
  queue_others Bound.LinkInReach differs = λ link tag there copy followed plain forward. absurd (none_there tag there)
  queue_others Bound.NoneLost differs = λ loss there copy followed plain. none_there loss there

  -- ---- with a worker of that queue

  held_worker : (P : ℕ → Cell → Entry → Type 0) → P 0 (Cell.Worker 1) (moving.node class 1) → (relay : ℕ) (cell : Cell)
      → Each (P relay cell) (at ((moving.s5 class).relays relay) cell)
  held_worker P p relay cell = go (0 == relay) refl
    where
      go : (b : Bool) → (0 == relay) ≡ b → Each (P relay cell) (at ((moving.s5 class).relays relay) cell)
      go true e = subst (λ z. Each (P z cell) (at ((moving.s5 class).relays z) cell)) (eqb-true 0 relay e)
          (of_one_entry (plan_at moving_site 0) (P 0) (Cell.Worker 1) (moving.node class 1) p cell)
      go false e = rw e (of_nothing (plan_at moving_site relay) (P relay) cell)

  one_worker : (P : ℕ → Cell → Entry → Type 0) → P 0 (Cell.Worker 1) (moving.node class 1) → OfHeld moving_site class (moving.s5 class) P
  one_worker P p relay cell e there copy followed plain =
      each_in (P relay cell) (at ((moving.s5 class).relays relay) cell) (held_worker P p relay cell) e there

  pub worker_others : (other : Bound) → other ≢ Bound.AtPlace → Bounds moving_site class (moving.s5 class) other
  worker_others Bound.InReach differs = one_worker (λ relay cell e. Reach moving_site class Scope.Firm (input_of relay e)) (entry (0, omega arith, refl))
  worker_others Bound.OnList differs = one_worker
      (λ relay cell e. (e.list ≡ list_of moving_site (input_of relay e)) ⊎ IsOfAPost moving_site class relay cell e) (inl refl)
  worker_others Bound.MayRun differs = one_worker
      (λ relay cell e. (number : ℕ) → bit_at e.due number ≡ 1 → May (body_at (plan_at moving_site relay) e.list) class number)
      (λ number set. subst (May (Body.Post 1 Body.End) class) (sym (only_first number set))
      (work_may (Body.Post 1 Body.End) (example_message class) class 0 refl refl))
  worker_others Bound.AtPlace differs = absurd (differs refl)
  worker_others Bound.LinkLeads differs = λ link tag there copy followed plain forward. absurd (none_there tag there)
  worker_others Bound.LinkInReach differs = λ link tag there copy followed plain forward. absurd (none_there tag there)
  worker_others Bound.NoneLost differs = λ loss there copy followed plain. none_there loss there

  -- ---- of another list

  held_list : (P : ℕ → Cell → Entry → Type 0) → P 0 (Cell.Queue 0) (changing.node class 1) → (relay : ℕ) (cell : Cell)
      → Each (P relay cell) (at ((changing.s4 class).relays relay) cell)
  held_list P p relay cell = go (0 == relay) refl
    where
      go : (b : Bool) → (0 == relay) ≡ b → Each (P relay cell) (at ((changing.s4 class).relays relay) cell)
      go true e = subst (λ z. Each (P z cell) (at ((changing.s4 class).relays z) cell)) (eqb-true 0 relay e)
          (of_one_entry (plan_at changing_site 0) (P 0) (Cell.Queue 0) (changing.node class 1) p cell)
      go false e = rw e (of_nothing (plan_at changing_site relay) (P relay) cell)

  one_list : (P : ℕ → Cell → Entry → Type 0) → P 0 (Cell.Queue 0) (changing.node class 1) → OfHeld changing_site class (changing.s4 class) P
  one_list P p relay cell e there copy followed plain =
      each_in (P relay cell) (at ((changing.s4 class).relays relay) cell) (held_list P p relay cell) e there

  pub list_others : (other : Bound) → other ≢ Bound.OnList → Bounds changing_site class (changing.s4 class) other
  list_others Bound.InReach differs = one_list (λ relay cell e. Reach changing_site class Scope.Firm (input_of relay e)) (entry (0, omega arith, refl))
  list_others Bound.OnList differs = absurd (differs refl)
  list_others Bound.MayRun differs = one_list
      (λ relay cell e. (number : ℕ) → bit_at e.due number ≡ 1 → May (body_at (plan_at changing_site relay) e.list) class number)
      (λ number set. subst (May (Body.Run 0 Body.End) class) (sym (only_first number set))
      (work_may (Body.Run 0 Body.End) (example_message class) class 0 refl refl))
  list_others Bound.AtPlace differs = one_list
      (λ relay cell e. IsPlaceOf (plan_at changing_site relay) cell e.input ⊎ IsOfAPost changing_site class relay cell e) (inl refl)
  list_others Bound.LinkLeads differs = λ link tag there copy followed plain forward. absurd (none_there tag there)
  list_others Bound.LinkInReach differs = λ link tag there copy followed plain forward. absurd (none_there tag there)
  list_others Bound.NoneLost differs = λ loss there copy followed plain. none_there loss there

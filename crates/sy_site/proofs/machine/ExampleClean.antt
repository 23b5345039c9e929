-- No kind of finding holds at the inputs of the example's edge and hub.
use Rattle.std.proofs.Common.{◌≡◌, ℕ, ◌<◌, ◌≤◌, refl, subst, arith, inl, inr, None}
use Rattle.std.specs.Prelude.{◌⊎◌, slice_get}
use Rattle.sy_wire.specs.declared.class.Class.{Class}
use Rattle.sy_rules.specs.declared.lists.occurrence.Occurrence.{Occurrence}
use Rattle.sy_rules.specs.declared.lists.occurrence.Occurrence.TheVariants as occurrence
use Rattle.sy_rules.specs.Whole.{queue_for}
use Rattle.sy_board.specs.relay.Kinds.{MayLose}
use Rattle.sy_board.specs.relay.Plans.{post_flow}
use Rattle.sy_board.specs.relay.Spares.{Scope, more, once, own, posted}
use Rattle.sy_site.specs.Sites.{target}
use Rattle.sy_site.specs.machine.Examples.{copying_plan, edge_input, example_site, hub_input, up, waiting_plan}
use Rattle.sy_site.specs.machine.Findings.{HoldsAt, IsForward, Kind}
use Rattle.sy_site.specs.machine.Reach.{Follows, MayDo, PostsOn}
use Rattle.sy_site.proofs.machine.ExampleSound.{hub_post, keeps_trying, mixed_runs, no_retry, only_post, only_run, post_runs_not, run_posts_not}

mild : (n : ℕ) → n < 8 → 8 ≤ n → ⊥
mild n a b = omega (arith, a, b)

module _ (class : Class) where
  -- an occurrence of a list that is this one
  moved : (relay from other number : ℕ) (is : Occurrence) → from ≡ other → MayDo example_site class Scope.Firm relay from number is
      → MayDo example_site class Scope.Firm relay other number is
  moved relay from other number is e does = subst (λ z. MayDo example_site class Scope.Firm relay z number is) e does

  -- ---- edge: its post goes from the ruleset's list to the action's

  edge_post : (from number to : ℕ) → (from ≡ 1) ⊎ (from ≡ 2) → MayDo example_site class Scope.Firm 0 from number (occurrence.Post to)
      → (from ≡ 1) × (to ≡ 2)
  edge_post from number to (inl e) does = (e, only_post 2 number to (moved 0 from 1 number (occurrence.Post to) e does).found)
  edge_post from number to (inr e) does = absurd (run_posts_not number to (moved 0 from 2 number (occurrence.Post to) e does).found)

  edge_follows : (list : ℕ) → Follows example_site class Scope.Firm edge_input list → (list ≡ 1) ⊎ (list ≡ 2)
  edge_follows list own = inl refl
  edge_follows list (posted {list = before} number follows does) = inr (edge_post before number list (edge_follows before follows) does).1

  edge_posts_on : (from to : ℕ) → (from ≡ 1) ⊎ (from ≡ 2) → PostsOn example_site class Scope.Firm 0 from to → (from ≡ 1) × (to ≡ 2)
  edge_posts_on from to is (once number does) = edge_post from number to is does
  edge_posts_on from to is (more {mid = mid} number does later) =
      let first = edge_post from number mid is does in
      let next = edge_posts_on mid to (inr first.1) later in
      (first.0, next.1)

  -- the action's queue loses no post
  keeps_post : MayLose waiting_plan class 2 (post_flow waiting_plan 2) → ⊥
  keeps_post (inl e) = e refl
  keeps_post (inr (inl off)) = omega (arith, off)
  keeps_post (inr (inr (inl above))) = omega (arith, above)
  keeps_post (inr (inr (inr discards))) = mild class.severity class.severity_in_range discards.severe

  goes_up : (action : ℕ) → action ≡ 0 → target example_site (record { relay = 0; action = action }) ≡ None → ⊥
  goes_up action e none =
      let here : target example_site up ≡ None = subst (λ a. target example_site (record { relay = 0; action = a }) ≡ None) e none in absurd (cc)

  pub edge_clean : (kind : Kind) → HoldsAt example_site class edge_input kind → ⊥
  edge_clean Kind.NotFull h = h refl
  edge_clean Kind.MarkOff h = omega (arith, h)
  edge_clean Kind.MarkAboveSize h = omega (arith, h)
  edge_clean Kind.Discards h = mild class.severity class.severity_in_range h.severe
  edge_clean Kind.InnerQueue h =
      let post = edge_post h.list h.number h.to (edge_follows h.list h.follows) h.does in
      keeps_post (subst (λ l. MayLose waiting_plan class (queue_for waiting_plan l) (post_flow waiting_plan (queue_for waiting_plan l))) post.1 h.loses)
  edge_clean Kind.GivesUp (a, may, retry, e) = no_retry a retry e
  edge_clean Kind.NoTarget (a, may, forward, none) = elim (edge_follows may.list may.follows) [
    | inl e ↦ post_runs_not 2 may.number a (moved 0 may.list 1 may.number (occurrence.Run a) e may.does).found
    | inr e ↦ goes_up a (only_run may.number a (moved 0 may.list 2 may.number (occurrence.Run a) e may.does).found) none
  ]
  edge_clean Kind.InnerLoop h =
      let on = edge_posts_on h.list h.list (edge_follows h.list h.follows) h.again in
      let first = on.0 in let second = on.1 in omega (arith, first, second)
  edge_clean Kind.Loop h = h
  edge_clean (Kind.Unmet archive) h = h

  -- ---- hub: what it does by its spare action is no finding

  hub_follows : (list : ℕ) → Follows example_site class Scope.Firm hub_input list → list ≡ 0
  hub_follows list own = refl
  hub_follows list (posted {list = before} number follows does) =
      absurd (hub_post class number list (moved 1 before 0 number (occurrence.Post list) (hub_follows before follows) does))

  hub_posts_on : (from to : ℕ) → from ≡ 0 → PostsOn example_site class Scope.Firm 1 from to → ⊥
  hub_posts_on from to e (once number does) = hub_post class number to (moved 1 from 0 number (occurrence.Post to) e does)
  hub_posts_on from to e (more {mid = mid} number does later) = hub_post class number mid (moved 1 from 0 number (occurrence.Post mid) e does)

  hub_run : (list number action : ℕ) → Follows example_site class Scope.Firm hub_input list
      → MayDo example_site class Scope.Firm 1 list number (occurrence.Run action) → action ≡ 0
  hub_run list number action follows does =
      mixed_runs number action (moved 1 list 0 number (occurrence.Run action) (hub_follows list follows) does).found

  pub hub_clean : (kind : Kind) → HoldsAt example_site class hub_input kind → ⊥
  hub_clean Kind.NotFull h = h refl
  hub_clean Kind.MarkOff h = omega (arith, h)
  hub_clean Kind.MarkAboveSize h = omega (arith, h)
  hub_clean Kind.Discards h = mild class.severity class.severity_in_range h.severe
  hub_clean Kind.InnerQueue h =
      hub_post class h.number h.to (moved 1 h.list 0 h.number (occurrence.Post h.to) (hub_follows h.list h.follows) h.does)
  hub_clean Kind.GivesUp (a, may, retry, e) = keeps_trying class a retry (hub_run may.list may.number a may.follows may.does) e
  hub_clean Kind.NoTarget (a, may, forward, none) =
      subst (λ a. IsForward (slice_get copying_plan.actions a)) (hub_run may.list may.number a may.follows may.does) forward
  hub_clean Kind.InnerLoop h = hub_posts_on h.list h.list (hub_follows h.list h.follows) h.again
  hub_clean Kind.Loop h = h
  hub_clean (Kind.Unmet archive) h = h

-- What feeds a queue.
use Rattle.std.proofs.Common.{[], ◌≡◌, ℕ, suc, ◌<◌, ◌≤◌, ◌+◌, Bool, true, false, not, ◌&&◌, ◌||◌, ◌==◌, if◌then◌else◌, List, ◌∷◌, length, get_or, Some, None, refl, sym, ap, subst, ◌∙◌, arith, inl, inr, eqb-true, eq-eqb}
use Rattle.std.specs.Prelude.{◌⊎◌, ◌≢◌, Decides, slice_get}
use Rattle.std.specs.List.{list_any}
use Rattle.std.proofs.lemmas.Bool.{cases_eq, false≢true}
use Rattle.std.proofs.lemmas.Option.{get_or_from_slice_get, slice_get-get_or, slice_get_within}
use Rattle.sy_marks.specs.declared.marks.Flow.TheVariants as flow
use Rattle.sy_rules.specs.declared.lists.occurrence.Occurrence.{Occurrence}
use Rattle.sy_rules.specs.declared.lists.occurrence.Occurrence.TheVariants as occurrence
use Rattle.sy_rules.specs.declared.parameters.settings.FlowControl.{FlowControl}
use Rattle.sy_rules.specs.declared.parameters.settings.FlowControl.TheVariants as control
use Rattle.sy_rules.specs.declared.parts.Input.{Input}
use Rattle.sy_rules.specs.PlanValue.{Listed, Plan}
use Rattle.sy_rules.specs.Whole.{body_in, queue_for}
use Rattle.sy_rules.specs.lists.Body.{occurrences}
use Rattle.sy_board.specs.relay.Plans.{flow_of, occurrences_at, parameters_at, post_flow}
use Rattle.sy_site.specs.Sites.{Site, plan_at}
use Rattle.sy_site.specs.internal.Findings.{IsFedFreely}
use Rattle.sy_board.specs.relay.Feeders.{Feeder, Feeds, IsFullDelay}
use Rattle.sy_fit.specs.internal.Risks.{HasPost, is_free, is_full_delay, posts_into}
use Rattle.sy_flows.proofs.Places.{some_at}

-- ---- some of a list
pub any_at : {A : Type 0} (p : A → Bool) (xs : List A) (d : A) → list_any p xs ≡ true → (k : ℕ) × (k < length xs) × (p (get_or xs k d) ≡ true)
any_at p [] d e = absurd (false≢true e)
any_at p (x ∷ xs) d e =
    elim (either (p x) (list_any p xs) e) [
      | inl here ↦ (0, omega arith, here)
      | inr later ↦ let found = any_at p xs d later in (suc found.0, omega (arith, found.1), found.2)
    ]
  where
    either : (a b : Bool) → (a || b) ≡ true → (a ≡ true) ⊎ (b ≡ true)
    either true b e = inl refl
    either false b e = inr e

first_true : (a b : Bool) → (a && b) ≡ true → a ≡ true
first_true true b e = refl
first_true false b e = e

second_true : (a b : Bool) → (a && b) ≡ true → b ≡ true
second_true true b e = e
second_true false b e = absurd (false≢true e)

-- ---- full-delay inputs
pub not_full : (f : FlowControl) → Decides (not (is_full_delay f)) (flow_of f ≢ flow.Full)
not_full control.Full = (λ e. absurd (false≢true e), λ apart. absurd (apart refl))
not_full control.On = (λ e same. cc, λ apart. refl)
not_full control.Off = (λ e same. cc, λ apart. refl)

-- ---- posts
abbrev pub HasNoneBelow : Plan → ℕ → ℕ → Type 0
HasNoneBelow plan queue most = (h : HasPost plan queue) → h.list < most → ⊥

post_to : (plan : Plan) (queue : ℕ) (o : Occurrence) → posts_into plan queue o ≡ true → (to : ℕ) × (o ≡ occurrence.Post to) × (queue_for plan to ≡ queue)
post_to plan queue (occurrence.Run action) e = absurd (false≢true e)
post_to plan queue (occurrence.Post list) e = (list, refl, eqb-true (queue_for plan list) queue e)

pub post_found : (plan : Plan) (queue list : ℕ) → list_any (posts_into plan queue) (occurrences_at plan list) ≡ true → HasPost plan queue
post_found plan queue list e =
    let at = any_at (posts_into plan queue) (occurrences_at plan list) (occurrence.Run 0) e in
    let to = post_to plan queue (get_or (occurrences_at plan list) at.0 (occurrence.Run 0)) at.2 in
    record {
      list = list;
      number = at.0;
      to = to.0;
      posts = slice_get-get_or (occurrences_at plan list) at.0 (occurrence.Run 0) at.1 ∙ ap Some to.1;
      leads = to.2;
    }

pub none_yet : (plan : Plan) (queue : ℕ) → HasNoneBelow plan queue 0
none_yet plan queue h low = omega (arith, low)

pub one_less : (plan : Plan) (queue list : ℕ) → list_any (posts_into plan queue) (occurrences_at plan list) ≡ false → HasNoneBelow plan queue list
    → HasNoneBelow plan queue (list + 1)
one_less plan queue list none before h low =
    elim (cases_eq h.list list) [
      | inl same ↦
          let posts = subst (λ l. slice_get (occurrences_at plan l) h.number ≡ Some (occurrence.Post h.to)) same h.posts in
          let within = slice_get_within (occurrences_at plan list) h.number (occurrence.Post h.to) posts in
          let at = get_or_from_slice_get (occurrences_at plan list) h.number (occurrence.Post h.to) (occurrence.Run 0) posts in
          false≢true (sym none ∙ some_at (posts_into plan queue) (occurrences_at plan list) (occurrence.Run 0) h.number within
          (ap (posts_into plan queue) at ∙ eq-eqb (queue_for plan h.to) queue h.leads))
      | inr apart ↦ before h (omega (arith, low, apart))
    ]

no_value : {A : Type 0} {x : A} → None ≡ Some x → ⊥
no_value e = cc

list_there : (lists : List Listed) (list number : ℕ) (o : Occurrence) → slice_get (occurrences (body_in (slice_get lists list))) number ≡ Some o
    → list < length lists
list_there [] list number o is = absurd (no_value is)
list_there (l ∷ lists) ℕ.zero number o is = omega arith
list_there (l ∷ lists) (ℕ.suc list) number o is = let low = list_there lists list number o is in omega (arith, low)

pub no_post : (plan : Plan) (queue most : ℕ) → length plan.lists ≤ most → HasNoneBelow plan queue most → HasPost plan queue → ⊥
no_post plan queue most all none h =
    let low = list_there plan.lists h.list h.number (occurrence.Post h.to) h.posts in
    none h (omega (arith, low, all))

-- ---- feeders
zero_input : Input
zero_input = record { port = 0; flow = control.Off; list = 0; queue = 0; unread_file = None }

none_full : flow.NoWait ≡ flow.Full → ⊥
none_full e = cc

module _ (site : Site) (relay queue : ℕ) where
  pub free_input : list_any (is_free queue) (plan_at site relay).inputs ≡ true → IsFedFreely site relay queue
  unfolding zero_input
  free_input e =
      let inputs = (plan_at site relay).inputs in
      let at = any_at (is_free queue) inputs zero_input e in
      let it = get_or inputs at.0 zero_input in
      record {
        feeder = Feeder.Input at.0;
        feeds = (at.1, eqb-true it.queue queue (first_true (it.queue == queue) (not (is_full_delay it.flow)) at.2));
        is_free = (not_full it.flow).0 (second_true (it.queue == queue) (not (is_full_delay it.flow)) at.2);
      }

  -- posts into a queue are free feeders where it doesn't wait
  free_post : (parameters_at (plan_at site relay) queue).waits ≡ false → HasPost (plan_at site relay) queue → IsFedFreely site relay queue
  free_post off h = record {
    feeder = Feeder.Post h.list h.number;
    feeds = (h.to, h.posts, h.leads);
    is_free = λ full. not_waiting full;
  }
    where
      not_waiting : post_flow (plan_at site relay) queue ≡ flow.Full → ⊥
      not_waiting full = none_full (sym (ap (λ b. if b then flow.Full else flow.NoWait) off) ∙ full)

  -- and where it does they aren't
  held_post : (parameters_at (plan_at site relay) queue).waits ≡ true → (list number : ℕ)
      → (IsFullDelay (plan_at site relay) queue (Feeder.Post list number) → ⊥) → ⊥
  held_post on list number free = free (ap (λ b. if b then flow.Full else flow.NoWait) on)

  free_of_input : (number : ℕ) → Feeds (plan_at site relay) queue (Feeder.Input number)
      → (IsFullDelay (plan_at site relay) queue (Feeder.Input number) → ⊥) → list_any (is_free queue) (plan_at site relay).inputs ≡ true
  unfolding zero_input
  free_of_input number feeds free =
      let inputs = (plan_at site relay).inputs in
      let it = get_or inputs number zero_input in
      some_at (is_free queue) inputs zero_input number feeds.0
      (ap (λ x. x && not (is_full_delay it.flow)) (eq-eqb it.queue queue feeds.1) ∙ (not_full it.flow).1 free)

  -- a queue that waits is fed freely by inputs alone
  pub fed_by_inputs : (parameters_at (plan_at site relay) queue).waits ≡ true → list_any (is_free queue) (plan_at site relay).inputs ≡ false
      → IsFedFreely site relay queue → ⊥
  fed_by_inputs on none f = go f.feeder f.feeds f.is_free
    where
      go : (feeder : Feeder) → Feeds (plan_at site relay) queue feeder → (IsFullDelay (plan_at site relay) queue feeder → ⊥) → ⊥
      go (Feeder.Input number) feeds free = false≢true (sym none ∙ free_of_input number feeds free)
      go (Feeder.Post list number) feeds free = held_post on list number free

  -- one that doesn't, by posts besides
  pub fed_by_post : (parameters_at (plan_at site relay) queue).waits ≡ false → list_any (is_free queue) (plan_at site relay).inputs ≡ false → (b : Bool)
      → Decides b (HasPost (plan_at site relay) queue) → Decides b (IsFedFreely site relay queue)
  fed_by_post off none b posts = (λ yes. free_post off (posts.0 yes), λ f. go f.feeder f.feeds f.is_free)
    where
      go : (feeder : Feeder) → Feeds (plan_at site relay) queue feeder → (IsFullDelay (plan_at site relay) queue feeder → ⊥) → b ≡ true
      go (Feeder.Input number) feeds free = absurd (false≢true (sym none ∙ free_of_input number feeds free))
      go (Feeder.Post list number) feeds free = posts.1 (record { list = list; number = number; to = feeds.0; posts = feeds.1; leads = feeds.2 })

-- the same plan by another name
pub posts_as : (p q : Plan) (queue : ℕ) (b : Bool) → p ≡ q → Decides b (HasPost p queue) → Decides b (HasPost q queue)
posts_as p q queue b same d = subst (λ x. Decides b (HasPost x queue)) same d

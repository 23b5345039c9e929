-- A lawful site's waits, and where messages of a class go on, are decided, and are between finitely many places: so numbers fall along them where
-- none is on a circle.
use Rattle.std.proofs.Common.{◌≡◌, ℕ, ◌<◌, ◌≤◌, ◌==◌, Bool, true, List, length, refl, sym, subst, ap, arith, ◌∙◌, inl, inr, Option, Some, None, is_some}
use Rattle.std.specs.Prelude.{◌&&◌, slice_get, unwrap_or, IfSome}
use Rattle.std.proofs.lemmas.Bool.{and_from, and_parts, eq-eqb, eqb-true}
use Rattle.std.proofs.lemmas.Option.{slice_get_cases}
use Rattle.sy_wire.specs.declared.class.Class.{Class}
use Rattle.sy_marks.specs.declared.marks.Flow.{Flow}
use Rattle.sy_marks.specs.declared.marks.Flow.TheVariants as flow
use Rattle.sy_rules.specs.declared.lists.occurrence.Occurrence.{Occurrence}
use Rattle.sy_rules.specs.declared.lists.occurrence.Occurrence.TheVariants as occurrence
use Rattle.sy_rules.specs.PlanValue.{Listed, Plan}
use Rattle.sy_rules.specs.Whole.{IsWhole, body_at, queue_at, queue_for, queue_in}
use Rattle.sy_board.specs.relay.Plans.{occurrence_at, occurrences_at, parameters_at, post_flow, queue_of_input}
use Rattle.sy_board.specs.relay.Spares.{Scope, more, once}
use Rattle.sy_site.specs.declared.site.SiteAction.{SiteAction}
use Rattle.sy_site.specs.declared.site.SiteInput.{SiteInput}
use Rattle.sy_site.specs.Sites.{Site, plan_at, target}
use Rattle.sy_site.specs.machine.Reach.{Follows, MayDo, PostsOn, list_of}
use Rattle.sy_site.specs.machine.Lawful.{IsInput, IsLawful}
use Rattle.sy_site.proofs.machine.Posts.{followed, own_or_led}
use Rattle.sy_site.proofs.machine.Spread.{some_same}
use Rattle.sy_flowing.specs.Flowing.{GoesOn, GoesTo, HoldsPosts, IsFlowing, IsJam, IsRound, MayFollow, SiteList, SiteQueue, WaitsFor, WaitsOn, by_forward, by_post, forwards, goes_more, goes_once, input_list, input_queue, list_queue, posts}
use Rattle.sy_flowing.specs.Flowing as flowing
use Rattle.sy_flowing.proofs.steps.Measure.{at_or_none, is_there}
use Rattle.sy_flowing.proofs.steps.PlanFacts.{get_within, input_found, input_of_target, leads_at, no_value}
use Rattle.sy_flowing.proofs.numbers.Deciding.{Decided, as_well, both, less_or_not, may_or_not, one_of, same_or_not, some_below, some_class}
use Rattle.sy_flowing.proofs.numbers.Falling.{Falls, In, Way, for_pairs, in_for_pairs, numbers, onward, step, way_or_not}
use Rattle.sy_flowing.proofs.numbers.Heights.{input_within, list_there}

-- ---- places that are compared

abbrev same_queue : SiteQueue → SiteQueue → Bool
same_queue a b = a.relay == b.relay && a.queue == b.queue

queue_is : (a b : SiteQueue) → same_queue a b ≡ true → a ≡ b
queue_is a b t =
    let parts = and_parts (a.relay == b.relay) _ t in
    let relay = eqb-true a.relay b.relay parts.0 in
    let queue = eqb-true a.queue b.queue parts.1 in
    λ i. record { relay = relay i; queue = queue i }

is_queue : (a : SiteQueue) → same_queue a a ≡ true
is_queue a = and_from (a.relay == a.relay) _ (eq-eqb a.relay a.relay refl) (eq-eqb a.queue a.queue refl)

abbrev same_list : SiteList → SiteList → Bool
same_list a b = a.relay == b.relay && a.list == b.list

list_is : (a b : SiteList) → same_list a b ≡ true → a ≡ b
list_is a b t =
    let parts = and_parts (a.relay == b.relay) _ t in
    let relay = eqb-true a.relay b.relay parts.0 in
    let list = eqb-true a.list b.list parts.1 in
    λ i. record { relay = relay i; list = list i }

is_list : (a : SiteList) → same_list a a ≡ true
is_list a = and_from (a.relay == a.relay) _ (eq-eqb a.relay a.relay refl) (eq-eqb a.list a.list refl)

queue_or_not : (a b : SiteQueue) → Decided (a ≡ b)
queue_or_not a b =
    as_well (λ (r, q) i. record { relay = r i; queue = q i }) (λ e. (ap (λ (x : SiteQueue). x.relay) e, ap (λ (x : SiteQueue). x.queue) e))
    (both (same_or_not a.relay b.relay) (same_or_not a.queue b.queue))

list_or_not : (a b : SiteList) → Decided (a ≡ b)
list_or_not a b =
    as_well (λ (r, l) i. record { relay = r i; list = l i }) (λ e. (ap (λ (x : SiteList). x.relay) e, ap (λ (x : SiteList). x.list) e))
    (both (same_or_not a.relay b.relay) (same_or_not a.list b.list))

full_or_not : (f : Flow) → Decided (f ≡ flow.Full)
full_or_not flow.Full = inl refl
full_or_not flow.Light = inr (λ e. absurd (cc))
full_or_not flow.NoWait = inr (λ e. absurd (cc))

least_or_not : (n : ℕ) → Decided (1 ≤ n)
least_or_not n = as_well (λ l. omega (arith, l)) (λ l. omega (arith, l)) (less_or_not 0 n)

holds_or_not : (plan : Plan) (queue : ℕ) → Decided (HoldsPosts plan queue)
holds_or_not plan queue =
    as_well (λ (w, m). record { waits = w; mark = m }) (λ h. (h.waits, h.mark))
    (both (full_or_not (post_flow plan queue)) (least_or_not (parameters_at plan queue).full_delay_mark))

-- ---- what messages of a class may do in a list

module _ (site : Site) (class : Class) where
  -- they may execute an occurrence of which this holds
  abbrev Does : (relay list : ℕ) → (Occurrence → Type 0) → Type 0
  Does relay list P = (number : ℕ) × (is : Occurrence) × MayDo site class Scope.Every relay list number is × P is

  does_or_not : (relay list : ℕ) (P : Occurrence → Type 0) → ((is : Occurrence) → Decided (P is)) → Decided (Does relay list P)
  does_or_not relay list P d =
      as_well (λ (number, l, (is, does, p)). (number, is, does, p))
      (λ (number, is, does, p). (number, get_within (occurrences_at (plan_at site relay) list) number is does.found, (is, does, p)))
      (some_below (length (occurrences_at (plan_at site relay) list)) DoesAt (λ number. at number (occurrence_at (plan_at site relay) list number) refl))
    where
      DoesAt : ℕ → Type 0
      DoesAt number = (is : Occurrence) × MayDo site class Scope.Every relay list number is × P is

      at : (number : ℕ) (found : Option Occurrence) → occurrence_at (plan_at site relay) list number ≡ found → Decided (DoesAt number)
      at number None e = inr (λ (is, does, p). no_value (sym e ∙ does.found))
      at number (Some o) e =
          as_well (λ (may, p). (o, record { may = may; found = e; in_scope = tt }, p))
          (λ (is, does, p). (does.may, subst P (some_same (sym does.found ∙ e)) p))
          (both (may_or_not (body_at (plan_at site relay) list) class number) (d o))

  -- ---- which lists they may follow

  abbrev Posts : (relay from to : ℕ) → Type 0
  Posts relay from to = Does relay from (λ is. occurrence.Post to ≡ is)

  posts_or_not : (relay from to : ℕ) → Decided (Posts relay from to)
  posts_or_not relay from to = does_or_not relay from (λ is. occurrence.Post to ≡ is) d
    where
      d : (is : Occurrence) → Decided (occurrence.Post to ≡ is)
      d (occurrence.Run action) = inr (λ e. absurd (cc))
      d (occurrence.Post list) = as_well (λ e. ap occurrence.Post e) (λ e. (let f : to ≡ list = cc in f)) (same_or_not to list)

  posts_are : (relay from to : ℕ) → Way (Posts relay) from to → PostsOn site class Scope.Every relay from to
  posts_are relay from to (step (number, is, does, e)) = once number (subst (MayDo site class Scope.Every relay from number) (sym e) does)
  posts_are relay from to (onward {mid = mid} (number, is, does, e) way) =
      more number (subst (MayDo site class Scope.Every relay from number) (sym e) does) (posts_are relay mid to way)

  are_posts : (relay from to : ℕ) → PostsOn site class Scope.Every relay from to → Way (Posts relay) from to
  are_posts relay from to (once number does) = step (number, occurrence.Post to, does, refl)
  are_posts relay from to (more {mid = mid} number does later) = onward (number, occurrence.Post mid, does, refl) (are_posts relay mid to later)

  led_or_not : (relay from to : ℕ) → Decided (PostsOn site class Scope.Every relay from to)
  led_or_not relay from to =
      as_well (posts_are relay from to) (are_posts relay from to)
      (way_or_not (Posts relay) (posts_or_not relay) (length (plan_at site relay).lists)
      (λ a b (number, is, does, e). list_there (plan_at site relay) a number is does.found) from to)

  follows_or_not : (input : SiteInput) (list : ℕ) → Decided (Follows site class Scope.Every input list)
  follows_or_not input list =
      as_well (followed site class input Scope.Every list) (own_or_led site class input Scope.Every list)
      (one_of (same_or_not list (list_of site input)) (led_or_not input.relay (list_of site input) list))

  may_follow_or_not : (relay list : ℕ) → Decided (MayFollow site class relay list)
  may_follow_or_not relay list =
      as_well (λ (input, l, f). (input, input_found site relay input l, f))
      (λ (input, is, f). (input, input_within site (record { relay = relay; input = input }) is, f))
      (some_below (length (plan_at site relay).inputs) (λ input. Follows site class Scope.Every (record { relay = relay; input = input }) list)
      (λ input. follows_or_not (record { relay = relay; input = input }) list))

-- ---- what an occurrence leads to

-- a forward leads to a place of the input that it leads to
abbrev LeadsAs : {A : Type 0} → Site → (SiteInput → A) → (relay action : ℕ) → A → Type 0
LeadsAs site f relay action to = (next : SiteInput) × (target site (record { relay = relay; action = action }) ≡ Some next) × (f next ≡ to)

leads_or_not : {A : Type 0} (site : Site) (f : SiteInput → A) → ((a b : A) → Decided (a ≡ b)) → (relay action : ℕ) (to : A)
    → Decided (LeadsAs site f relay action to)
leads_or_not site f d relay action to = go (target site (record { relay = relay; action = action })) refl
  where
    go : (found : Option SiteInput) → target site (record { relay = relay; action = action }) ≡ found → Decided (LeadsAs site f relay action to)
    go None e = inr (λ (next, leads, is). no_value (sym e ∙ leads))
    go (Some next) e = as_well (λ is. (next, e, is)) (λ (other, leads, is). ap f (some_same (sym e ∙ leads)) ∙ is) (d (f next) to)

module _ (site : Site) where
  abbrev Goes : (relay : ℕ) → SiteList → Occurrence → Type 0
  Goes relay to (occurrence.Run action) = LeadsAs site (input_list site) relay action to
  Goes relay to (occurrence.Post list) = record { relay = relay; list = list } ≡ to

  goes_by_or_not : (relay : ℕ) (to : SiteList) (is : Occurrence) → Decided (Goes relay to is)
  goes_by_or_not relay to (occurrence.Run action) = leads_or_not site (input_list site) list_or_not relay action to
  goes_by_or_not relay to (occurrence.Post list) = list_or_not (record { relay = relay; list = list }) to

  abbrev GoesBy : Class → SiteList → SiteList → Type 0
  GoesBy class from to = MayFollow site class from.relay from.list × Does site class from.relay from.list (Goes from.relay to)

  goes_by : (class : Class) (from to : SiteList) → GoesBy class from to → GoesTo site class from to
  goes_by class from to (follows, (number, occurrence.Run action, does, (next, leads, is))) =
      subst (GoesTo site class from) is (by_forward from.relay from.list number action next follows does leads)
  goes_by class from to (follows, (number, occurrence.Post list, does, is)) =
      subst (GoesTo site class from) is (by_post from.relay from.list number list follows does)

  by_goes : (class : Class) (from to : SiteList) → GoesTo site class from to → GoesBy class from to
  by_goes class from to (by_post relay list number next follows does) = (follows, (number, occurrence.Post next, does, refl))
  by_goes class from to (by_forward relay list number action next follows does leads) =
      (follows, (number, occurrence.Run action, does, (next, leads, refl)))

  goes_or_not : (class : Class) (from to : SiteList) → Decided (GoesTo site class from to)
  goes_or_not class from to =
      as_well (goes_by class from to) (by_goes class from to)
      (both (may_follow_or_not site class from.relay from.list)
      (does_or_not site class from.relay from.list (Goes from.relay to) (goes_by_or_not from.relay to)))

  -- ---- what a queue waits for

  abbrev Waits : (relay : ℕ) → SiteQueue → Occurrence → Type 0
  Waits relay to (occurrence.Run action) = LeadsAs site (input_queue site) relay action to
  Waits relay to (occurrence.Post list) =
      HoldsPosts (plan_at site relay) (queue_for (plan_at site relay) list) × (list_queue site relay list ≡ to)

  waits_by_or_not : (relay : ℕ) (to : SiteQueue) (is : Occurrence) → Decided (Waits relay to is)
  waits_by_or_not relay to (occurrence.Run action) = leads_or_not site (input_queue site) queue_or_not relay action to
  waits_by_or_not relay to (occurrence.Post list) =
      both (holds_or_not (plan_at site relay) (queue_for (plan_at site relay) list)) (queue_or_not (list_queue site relay list) to)

  -- in a list of the queue a class waits for the other
  abbrev WaitsIn : SiteQueue → SiteQueue → Class → ℕ → Type 0
  WaitsIn from to class list = (list_queue site from.relay list ≡ from)
      × (MayFollow site class from.relay list × Does site class from.relay list (Waits from.relay to))

  abbrev WaitsBy : SiteQueue → SiteQueue → Type 0
  WaitsBy from to = (class : Class) × ((list : ℕ) × (list < length (plan_at site from.relay).lists) × WaitsIn from to class list)

  waits_by : (from to : SiteQueue) → WaitsBy from to → WaitsFor site from to
  waits_by from to (class, (list, l, (of, (follows, (number, occurrence.Run action, does, (next, leads, is)))))) =
      subst (λ z. WaitsFor site z to) of (subst (WaitsFor site (list_queue site from.relay list)) is
      (forwards class from.relay list number action next follows does leads))
  waits_by from to (class, (list, l, (of, (follows, (number, occurrence.Post next, does, (holds, is)))))) =
      subst (λ z. WaitsFor site z to) of (subst (WaitsFor site (list_queue site from.relay list)) is
      (posts class from.relay list number next follows does holds))

  by_waits : (from to : SiteQueue) → WaitsFor site from to → WaitsBy from to
  by_waits from to (posts class relay list number next follows does holds) = (
    class,
    (
      list,
      list_there (plan_at site relay) list number (occurrence.Post next) does.found,
      (refl, (follows, (number, occurrence.Post next, does, (holds, refl)))),
    ),
  )
  by_waits from to (forwards class relay list number action next follows does leads) = (
    class,
    (
      list,
      list_there (plan_at site relay) list number (occurrence.Run action) does.found,
      (refl, (follows, (number, occurrence.Run action, does, (next, leads, refl)))),
    ),
  )

  waits_or_not : (from to : SiteQueue) → Decided (WaitsFor site from to)
  waits_or_not from to =
      as_well (waits_by from to) (by_waits from to)
      (some_class (λ class. (list : ℕ) × (list < length (plan_at site from.relay).lists) × WaitsIn from to class list)
      (λ class. some_below (length (plan_at site from.relay).lists) (WaitsIn from to class) (λ list.
      both (queue_or_not (list_queue site from.relay list) from) (both (may_follow_or_not site class from.relay list)
      (does_or_not site class from.relay list (Waits from.relay to) (waits_by_or_not from.relay to))))))

-- ---- they are between finitely many places

queue_within : (plan : Plan) (list : ℕ) → IsWhole plan → queue_for plan list < length plan.queues
queue_within plan list whole = go (slice_get plan.lists list) (at_or_none (λ (l : Listed). IfSome l.queue (λ queue. (1 ≤ queue) × (queue < length plan.queues))) plan.lists list whole.list_queues)
  where
    of : (found : Option ℕ) → IfSome found (λ queue. (1 ≤ queue) × (queue < length plan.queues)) → unwrap_or found 0 < length plan.queues
    of None t = let l = whole.queues_least in omega (arith, l)
    of (Some queue) (low, high) = high

    go : (found : Option Listed) → IfSome found (λ l. IfSome l.queue (λ queue. (1 ≤ queue) × (queue < length plan.queues)))
        → unwrap_or (queue_in found) 0 < length plan.queues
    go None t = of None tt
    go (Some l) t = of l.queue t

-- a list that has a queue is there
led_within : (plan : Plan) (list : ℕ) → is_some (queue_at plan list) ≡ true → list < length plan.lists
led_within plan list t = elim (slice_get_cases plan.lists list).1 [
  | inl h ↦ h.1
  | inr h ↦ (let e : is_some (queue_in None) ≡ true = subst (λ z. is_some (queue_in z) ≡ true) h.1 t in absurd (cc))
]

module _ (site : Site) (law : IsLawful site) where
  abbrev queues : List SiteQueue
  queues = for_pairs (λ relay queue. record { relay = relay; queue = queue }) (λ relay. length (plan_at site relay).queues) (length site.relays)

  abbrev lists : List SiteList
  lists = for_pairs (λ relay list. record { relay = relay; list = list }) (λ relay. length (plan_at site relay).lists) (length site.relays)

  in_queues : (relay queue : ℕ) → relay < length site.relays → queue < length (plan_at site relay).queues → In (record { relay = relay; queue = queue }) queues
  in_queues relay queue = in_for_pairs (λ relay queue. record { relay = relay; queue = queue }) (λ relay. length (plan_at site relay).queues) (length site.relays) relay queue

  in_lists : (relay list : ℕ) → relay < length site.relays → list < length (plan_at site relay).lists → In (record { relay = relay; list = list }) lists
  in_lists relay list = in_for_pairs (λ relay list. record { relay = relay; list = list }) (λ relay. length (plan_at site relay).lists) (length site.relays) relay list

  relay_of_list : (class : Class) (relay list number : ℕ) (is : Occurrence) → MayDo site class Scope.Every relay list number is → (relay < length site.relays) × IsWhole (plan_at site relay)
  relay_of_list class relay list number is does =
      let l = list_there (plan_at site relay) list number is does.found in
      let there = is_there site law relay (λ (p : Plan). length p.lists) refl (omega (arith, l)) in
      (there.within, there.whole)

  relay_of_input : (input : SiteInput) → IsInput site input → (input.input < length (plan_at site input.relay).inputs) × (input.relay < length site.relays) × IsWhole (plan_at site input.relay)
  relay_of_input input is =
      let l = input_within site input is in
      let there = is_there site law input.relay (λ (p : Plan). length p.inputs) refl (omega (arith, l)) in
      (l, there.within, there.whole)

  from_queue : (class : Class) (relay list number : ℕ) (is : Occurrence) → MayDo site class Scope.Every relay list number is → In (list_queue site relay list) queues
  from_queue class relay list number is does =
      let there = relay_of_list class relay list number is does in
      in_queues relay (queue_for (plan_at site relay) list) there.0 (queue_within (plan_at site relay) list there.1)

  from_list : (class : Class) (relay list number : ℕ) (is : Occurrence) → MayDo site class Scope.Every relay list number is → In (record { relay = relay; list = list }) lists
  from_list class relay list number is does =
      in_lists relay list (relay_of_list class relay list number is does).0 (list_there (plan_at site relay) list number is does.found)

  to_list : (class : Class) (relay list number next : ℕ) → MayDo site class Scope.Every relay list number (occurrence.Post next) → In (record { relay = relay; list = next }) lists
  to_list class relay list number next does =
      let there = relay_of_list class relay list number (occurrence.Post next) does in
      in_lists relay next there.0
      (led_within (plan_at site relay) next (leads_at (plan_at site relay) there.1 list number (occurrence.Post next) does.found))

  to_queue : (class : Class) (relay list number next : ℕ) → MayDo site class Scope.Every relay list number (occurrence.Post next) → In (list_queue site relay next) queues
  to_queue class relay list number next does =
      let there = relay_of_list class relay list number (occurrence.Post next) does in
      in_queues relay (queue_for (plan_at site relay) next) there.0 (queue_within (plan_at site relay) next there.1)

  to_input_queue : (link : SiteAction) (input : SiteInput) → target site link ≡ Some input → In (input_queue site input) queues
  to_input_queue link input leads =
      let there = relay_of_input input (input_of_target site _ input leads) in
      in_queues input.relay (queue_of_input (plan_at site input.relay) input.input) there.1 (there.2.input_queues input.input _ there.0)

  to_input_list : (link : SiteAction) (input : SiteInput) → target site link ≡ Some input → In (input_list site input) lists
  to_input_list link input leads =
      let there = relay_of_input input (input_of_target site _ input leads) in
      let low : list_of site input ≤ (plan_at site input.relay).rulesets = there.2.input_lists input.input _ there.0 in
      let high = there.2.rulesets_before in
      in_lists input.relay (list_of site input) there.1 (omega (arith, low, high))

  waits_between : (from to : SiteQueue) → WaitsFor site from to → In from queues × In to queues
  waits_between from to (posts class relay list number next follows does holds) =
      (from_queue class relay list number (occurrence.Post next) does, to_queue class relay list number next does)
  waits_between from to (forwards class relay list number action next follows does leads) =
      (from_queue class relay list number (occurrence.Run action) does, to_input_queue (record { relay = relay; action = action }) next leads)

  goes_between : (class : Class) (from to : SiteList) → GoesTo site class from to → In from lists × In to lists
  goes_between class from to (by_post relay list number next follows does) =
      (from_list class relay list number (occurrence.Post next) does, to_list class relay list number next does)
  goes_between class from to (by_forward relay list number action next follows does leads) =
      (from_list class relay list number (occurrence.Run action) does, to_input_list (record { relay = relay; action = action }) next leads)

  -- ---- numbers

  waits_on : (from to : SiteQueue) → Way (WaitsFor site) from to → WaitsOn site from to
  waits_on from to (step e) = flowing.once e
  waits_on from to (onward {mid = mid} e way) = flowing.more e (waits_on mid to way)

  goes_on : (class : Class) (from to : SiteList) → Way (GoesTo site class) from to → GoesOn site class from to
  goes_on class from to (step e) = goes_once e
  goes_on class from to (onward {mid = mid} e way) = goes_more e (goes_on class mid to way)

  pub flows_without_circles : ((queue : SiteQueue) → IsJam site queue → ⊥) → ((class : Class) (list : SiteList) → IsRound site class list → ⊥)
      → IsFlowing site
  flows_without_circles no_jam no_round =
      let heights = numbers same_queue queue_is is_queue queues queues (WaitsFor site) (waits_or_not site) waits_between
      (λ a way. no_jam a (record { circle = waits_on a a way })) in
      let left : (class : Class) → (h : SiteList → ℕ) × Falls (GoesTo site class) h
      = λ class. numbers same_list list_is is_list lists lists (GoesTo site class) (goes_or_not site class) (goes_between class)
      (λ a way. no_round class a (record { circle = goes_on class a a way })) in
      record { height = heights.0; falls = heights.1; left = λ class. (left class).0; ends = λ class. (left class).1 }

-- The site with a circle of waits over two classes is lawful and sound, and has that circle.
use Rattle.std.proofs.Common.{◌≡◌, ℕ, ◌<◌, ◌≤◌, ◌==◌, Bool, true, false, List, [], ◌∷◌, refl, sym, subst, ap, arith, inl, inr, Some, length}
use Rattle.std.specs.Prelude.{◌≢◌, ◌||◌, ◌⊎◌, slice_get, IfSome}
use Rattle.std.specs.List.{All, Contains}
use Rattle.std.proofs.lemmas.Bool.{eqb-true}
use Rattle.std.proofs.lemmas.List.Elements.{All-from_recursion}
use Rattle.sy_wire.specs.declared.class.Class.{Class}
use Rattle.sy_rules.specs.declared.lists.occurrence.Occurrence.TheVariants as occurrence
use Rattle.sy_select.specs.Properties.{known}
use Rattle.sy_select.specs.Selectors.{holds}
use Rattle.sy_select.specs.Truth.{Admits, Valuation}
use Rattle.sy_rules.specs.lists.Body.{count, executed, is_in, occurrences, size, tests}
use Rattle.sy_rules.specs.lists.Work.{May}
use Rattle.sy_rules.specs.parameters.Objects.{AreInRange, HasPort}
use Rattle.sy_rules.specs.Whole.{IsLed, IsWhole, Leads, body_at, queue_at, queue_for}
use Rattle.sy_board.specs.relay.Kinds.{MayLose}
use Rattle.sy_board.specs.relay.Plans.{post_flow, retry_at}
use Rattle.sy_board.specs.relay.Spares.{Scope, more, once, own, posted}
use Rattle.sy_site.specs.declared.site.SiteAction.{SiteAction}
use Rattle.sy_site.specs.declared.site.SiteInput.{SiteInput}
use Rattle.sy_site.specs.Sites.{is_spare, target}
use Rattle.sy_site.specs.machine.Examples.{edge_input, example_queue}
use Rattle.sy_site.specs.machine.Findings.{HoldsAt, Kind, IsForward}
use Rattle.sy_flowing.specs.Flowing.{IsFlowing, IsJam, SiteQueue, WaitsFor, WaitsOn}
use Rattle.sy_flowing.specs.Flowing as flowing
use Rattle.sy_flowing.specs.Jams.{IsAuth, IsOther, auth_selector, jam_archive, jam_plan, jam_site, queue_a, round_site, tiny_queue}
use Rattle.sy_site.specs.machine.Lawful.{IsAction, IsArchive, IsInput, IsLawful}
use Rattle.sy_site.specs.machine.Reach.{Follows, LeadsTo, MayDo, MustDo, PostsOn, Reach, Reaches, entry, forwards, list_of, onward, posts, posts_on, writes}
use Rattle.sy_site.specs.machine.Soundness.{IsSound, IsSoundFor}
use Rattle.sy_site.proofs.machine.ExampleWhole.{two_differ}
use Rattle.sy_flowing.proofs.numbers.Heights.{no_jam}
use Rattle.sy_site.proofs.machine.Lawful.{named_by}

-- ---- its plan is whole

led_first : (other : ℕ) → queue_at jam_plan other ≡ Some 1 → other ≡ 1
led_first ℕ.zero e = cc
led_first (ℕ.suc ℕ.zero) e = refl
led_first (ℕ.suc (ℕ.suc ℕ.zero)) e = cc
led_first (ℕ.suc (ℕ.suc (ℕ.suc k))) e = cc

led_second : (other : ℕ) → queue_at jam_plan other ≡ Some 2 → other ≡ 2
led_second ℕ.zero e = cc
led_second (ℕ.suc ℕ.zero) e = cc
led_second (ℕ.suc (ℕ.suc ℕ.zero)) e = refl
led_second (ℕ.suc (ℕ.suc (ℕ.suc k))) e = cc

led : (queue : ℕ) → 1 ≤ queue → queue < 3 → IsLed jam_plan queue
led ℕ.zero least most = absurd (omega (arith, least))
led (ℕ.suc ℕ.zero) least most = record { list = 1; leads = refl; alone = led_first }
led (ℕ.suc (ℕ.suc ℕ.zero)) least most = record { list = 2; leads = refl; alone = led_second }
led (ℕ.suc (ℕ.suc (ℕ.suc k))) least most = absurd (omega (arith, most))

main_in_range : AreInRange (example_queue 50000 48500)
main_in_range = record {
  size_least = omega arith;
  size_most = omega arith;
  batch_least = omega arith;
  batch_most = omega arith;
  full_delay_mark = omega arith;
  light_delay_mark = omega arith;
  discard_mark = omega arith;
  discard_severity = omega arith;
  timeout_enqueue = omega arith;
  workers_least = omega arith;
  workers_most = omega arith;
}

tiny_in_range : AreInRange tiny_queue
tiny_in_range = record {
  size_least = omega arith;
  size_most = omega arith;
  batch_least = omega arith;
  batch_most = omega arith;
  full_delay_mark = omega arith;
  light_delay_mark = omega arith;
  discard_mark = omega arith;
  discard_severity = omega arith;
  timeout_enqueue = omega arith;
  workers_least = omega arith;
  workers_most = omega arith;
}

other_lengths : (x y : List ℕ) → length x ≡ 1 → length y ≡ 5 → x ≢ y
other_lengths x y a b e = let same = ap length e in omega (arith, same, a, b)

other_ports : (a b : ℕ) → a ≡ 6514 → b ≡ 6515 → a ≢ b
other_ports a b f g e = omega (arith, e, f, g)

pub jam_is_whole : IsWhole jam_plan
jam_is_whole = record {
  inputs_most = omega arith;
  input_ports = All-from_recursion (λ i. 1 ≤ i.port) jam_plan.inputs (omega arith, (omega arith, tt));
  ports_differ = two_differ _ _ (other_ports _ _ refl refl);
  input_lists = All-from_recursion (λ i. i.list ≤ 2) jam_plan.inputs (omega arith, (omega arith, tt));
  input_queues_are_those_of_their_lists = All-from_recursion (λ i. i.queue ≡ queue_for jam_plan i.list) jam_plan.inputs (refl, (refl, tt));
  input_queues = All-from_recursion (λ i. i.queue < 3) jam_plan.inputs (omega arith, (omega arith, tt));
  queues_least = omega arith;
  queues_most = omega arith;
  queue_ranges = All-from_recursion AreInRange jam_plan.queues (main_in_range, (tiny_in_range, (tiny_in_range, tt)));
  workers = refl;
  workers_most = omega arith;
  worker_queues = All-from_recursion (λ queue. queue < 3) jam_plan.workers (omega arith, (omega arith, (omega arith, tt)));
  actions_most = omega arith;
  names_differ = two_differ _ _ (other_lengths _ _ refl refl);
  target_ports = All-from_recursion (λ a. HasPort a.destination) jam_plan.actions (tt, (tt, tt));
  lists_least = omega arith;
  lists_most = omega arith;
  list_names = refl;
  rulesets_before = omega arith;
  own_lists = λ list least most. absurd (omega (arith, least, most));
  main_list = refl;
  list_queues = All-from_recursion (λ l. IfSome l.queue (λ queue. (1 ≤ queue) × (queue < 3))) jam_plan.lists (tt, ((omega arith, omega arith), ((omega arith, omega arith), tt)));
  queues_are_led = led;
  statements_most = All-from_recursion (λ l. size l.body ≤ 65536) jam_plan.lists (omega arith, (omega arith, (omega arith, tt)));
  occurrences_most = All-from_recursion (λ l. count l.body ≤ 64) jam_plan.lists (omega arith, (omega arith, (omega arith, tt)));
  occurrences_lead = All-from_recursion (λ l. All (Leads jam_plan) (occurrences l.body)) jam_plan.lists (
    All-from_recursion (Leads jam_plan) [] tt,
    (
      All-from_recursion (Leads jam_plan) (occurrence.Post 2 ∷ occurrence.Run 0 ∷ []) (refl, (omega arith, tt)),
      (All-from_recursion (Leads jam_plan) (occurrence.Post 1 ∷ occurrence.Run 1 ∷ []) (refl, (omega arith, tt)), tt),
    ),
  );
}

archive_there : IsArchive jam_site jam_archive
archive_there = record { parts = _; found = refl; file = _; writes = refl }

pub jam_is_lawful : IsLawful jam_site
jam_is_lawful = record {
  policy = inl (refl, refl);
  few = omega arith;
  entries = All-from_recursion (IsInput jam_site) jam_site.entries (record { parts = _; found = refl }, tt);
  plans = All-from_recursion (λ relay. IsWhole relay.plan) jam_site.relays (jam_is_whole, tt);
  archives = All-from_recursion (λ p. IsArchive jam_site p.archive) jam_site.protections (archive_there, tt);
  spares = All-from_recursion (IsAction jam_site) jam_site.spares tt;
  spare_archives = All-from_recursion (λ p. is_spare jam_site p.archive ≡ false) jam_site.protections (refl, tt);
}

-- ---- what each class executes

first_of_one : (k n : ℕ) → is_in k (n ∷ []) ≡ true → k ≡ n
first_of_one k n e = go (n == k) refl e
  where
    go : (b : Bool) → (n == k) ≡ b → (b || false) ≡ true → k ≡ n
    go true f e = sym (eqb-true n k f)
    go false f e = cc

pub no_target : (link : SiteAction) (to : SiteInput) → target jam_site link ≡ Some to → ⊥
no_target link to e = go link.relay link.action e
  where
    go : (r a : ℕ) → target jam_site (record { relay = r; action = a }) ≡ Some to → ⊥
    go ℕ.zero ℕ.zero e = absurd (cc)
    go ℕ.zero (ℕ.suc ℕ.zero) e = absurd (cc)
    go ℕ.zero (ℕ.suc (ℕ.suc k)) e = absurd (cc)
    go (ℕ.suc r) a e = absurd (cc)

no_retry : (action retry : ℕ) → retry_at jam_plan action ≡ Some retry → ⊥
no_retry ℕ.zero retry e = absurd (cc)
no_retry (ℕ.suc ℕ.zero) retry e = absurd (cc)
no_retry (ℕ.suc (ℕ.suc k)) retry e = absurd (cc)

no_forward : (action : ℕ) → IsForward (slice_get jam_plan.actions action) → ⊥
no_forward ℕ.zero f = f
no_forward (ℕ.suc ℕ.zero) f = f
no_forward (ℕ.suc (ℕ.suc k)) f = f

reaches_nothing : (class : Class) (scope : Scope) (relay list number : ℕ) (to : SiteInput) → Reaches jam_site class scope relay list number to → ⊥
reaches_nothing class scope relay list number to (forwards at action does leads) = no_target (record { relay = relay; action = action }) to leads
reaches_nothing class scope relay list number to (posts at inner next does r) = reaches_nothing class scope relay inner next to r

the_entry : (p : SiteInput) → Contains (edge_input ∷ []) p → p ≡ edge_input
the_entry p (ℕ.zero, l, is) = sym is
the_entry p (ℕ.suc k, l, is) = absurd (omega (arith, l))

run_at : (a b : ℕ) → Some (occurrence.Run a) ≡ Some (occurrence.Run b) → b ≡ a
run_at a b e = cc

post_at : (a b : ℕ) → Some (occurrence.Post a) ≡ Some (occurrence.Post b) → b ≡ a
post_at a b e = cc

run_no_post : (a b : ℕ) → Some (occurrence.Run a) ≡ Some (occurrence.Post b) → ⊥
run_no_post a b e = absurd (cc)

post_no_run : (a b : ℕ) → Some (occurrence.Post a) ≡ Some (occurrence.Run b) → ⊥
post_no_run a b e = absurd (cc)

module _ (class : Class) (is_auth_class : IsAuth class) where
  may_a : (number : ℕ) → May (body_at jam_plan 1) class number → number ≡ 0
  may_a number m = go m.values m.admitted m.executes
    where
      go : (v : Valuation) → Admits (known class) (tests (body_at jam_plan 1)) v → is_in number (executed (body_at jam_plan 1) v) ≡ true → number ≡ 0
      go [] ad e = absurd ad
      go (true ∷ v) ad e = first_of_one number 0 e
      go (false ∷ v) ad e = let f : false ≡ holds auth_selector class.facility class.severity = ad.0 in absurd (cc)

  may_b : (number : ℕ) → May (body_at jam_plan 2) class number → number ≡ 1
  may_b number m = go m.values m.admitted m.executes
    where
      go : (v : Valuation) → Admits (known class) (tests (body_at jam_plan 2)) v → is_in number (executed (body_at jam_plan 2) v) ≡ true → number ≡ 1
      go [] ad e = absurd ad
      go (true ∷ v) ad e = first_of_one number 1 e
      go (false ∷ v) ad e = let f : false ≡ holds auth_selector class.facility class.severity = ad.0 in absurd (cc)

  module _ (scope : Scope) where
    a_posts : (number to : ℕ) → MayDo jam_site class scope 0 1 number (occurrence.Post to) → to ≡ 2
    a_posts number to does =
        post_at 2 to (subst (λ n. slice_get (occurrence.Post 2 ∷ occurrence.Run 0 ∷ []) n ≡ Some (occurrence.Post to)) (may_a number does.may) does.found)

    b_posts : (number to : ℕ) → MayDo jam_site class scope 0 2 number (occurrence.Post to) → ⊥
    b_posts number to does =
        run_no_post 1 to (subst (λ n. slice_get (occurrence.Post 1 ∷ occurrence.Run 1 ∷ []) n ≡ Some (occurrence.Post to)) (may_b number does.may) does.found)

    posts_of : (from number to : ℕ) → (from ≡ 1) ⊎ (from ≡ 2) → MayDo jam_site class scope 0 from number (occurrence.Post to) → (from ≡ 1) × (to ≡ 2)
    posts_of from number to (inl e) does = (e, a_posts number to (subst (λ z. MayDo jam_site class scope 0 z number (occurrence.Post to)) e does))
    posts_of from number to (inr e) does = absurd (b_posts number to (subst (λ z. MayDo jam_site class scope 0 z number (occurrence.Post to)) e does))

    follows_in : (l : ℕ) → Follows jam_site class scope edge_input l → (l ≡ 1) ⊎ (l ≡ 2)
    follows_in l own = inl refl
    follows_in l (posted {list = before} number follows does) = inr (posts_of before number l (follows_in before follows) does).1

    posts_on_in : (from to : ℕ) → (from ≡ 1) ⊎ (from ≡ 2) → PostsOn jam_site class scope 0 from to → (from ≡ 1) × (to ≡ 2)
    posts_on_in from to is (once number does) = posts_of from number to is does
    posts_on_in from to is (more {mid = mid} number does later) =
        let first = posts_of from number mid is does in
        let next = posts_on_in mid to (inr first.1) later in
        (first.0, next.1)

  mild : (n : ℕ) → n < 8 → 8 ≤ n → ⊥
  mild n a b = omega (arith, a, b)

  keeps_post : MayLose jam_plan class 2 (post_flow jam_plan 2) → ⊥
  keeps_post (inl e) = e refl
  keeps_post (inr (inl e)) = omega (arith, e)
  keeps_post (inr (inr (inl l))) = omega (arith, l)
  keeps_post (inr (inr (inr d))) = mild class.severity class.severity_in_range d.severe

  clean : (kind : Kind) → HoldsAt jam_site class edge_input kind → ⊥
  clean Kind.NotFull h = h refl
  clean Kind.MarkOff h = omega (arith, h)
  clean Kind.MarkAboveSize h = omega (arith, h)
  clean Kind.Discards h = mild class.severity class.severity_in_range h.severe
  clean Kind.InnerQueue h =
      let post = posts_of Scope.Firm h.list h.number h.to (follows_in Scope.Firm h.list h.follows) h.does in
      keeps_post (subst (λ l. MayLose jam_plan class (queue_for jam_plan l) (post_flow jam_plan (queue_for jam_plan l))) post.1 h.loses)
  clean Kind.GivesUp (a, may, retry, e) = no_retry a retry e
  clean Kind.NoTarget (a, may, forward, none) = no_forward a forward
  clean Kind.InnerLoop h =
      let on = posts_on_in Scope.Firm h.list h.list (follows_in Scope.Firm h.list h.follows) h.again in
      let first = on.0 in let second = on.1 in omega (arith, first, second)
  clean Kind.Loop h = h
  clean (Kind.Unmet archive) h = h

  reached : (scope : Scope) (p : SiteInput) → Reach jam_site class scope p → p ≡ edge_input
  reached scope p (entry is) = the_entry p is
  reached scope p (onward {from} number before goes) = absurd (reaches_nothing class scope from.relay (list_of jam_site from) number p goes)

  must_post : MustDo jam_site class 0 1 0 (occurrence.Post 2)
  must_post = record { must = go; found = refl; firm = refl }
    where
      go : (v : Valuation) → Admits (known class) (tests (body_at jam_plan 1)) v → is_in 0 (executed (body_at jam_plan 1) v) ≡ true
      go [] ad = absurd ad
      go (true ∷ v) ad = refl
      go (false ∷ v) ad = let f : false ≡ holds auth_selector class.facility class.severity = ad.0 in absurd (cc)

  must_write : MustDo jam_site class 0 2 1 (occurrence.Run 1)
  must_write = record { must = go; found = refl; firm = refl }
    where
      go : (v : Valuation) → Admits (known class) (tests (body_at jam_plan 2)) v → is_in 1 (executed (body_at jam_plan 2) v) ≡ true
      go [] ad = absurd ad
      go (true ∷ v) ad = refl
      go (false ∷ v) ad = let f : false ≡ holds auth_selector class.facility class.severity = ad.0 in absurd (cc)

  leads : LeadsTo jam_site class jam_archive edge_input
  leads = posts_on 0 2 must_post (writes 1 1 must_write refl)

  sound_for : IsSoundFor jam_site class
  sound_for = record {
    clean = λ p k kind h. clean kind (subst (λ z. HoldsAt jam_site class z kind) (reached Scope.Firm p k) h);
    rank = λ r. 0;
    ranks = record { falls = λ from to number k goes. absurd (reaches_nothing class Scope.Every from.relay (list_of jam_site from) number to goes) };
    leads = λ p is a named.
        subst (λ z. LeadsTo jam_site class z p)
        (sym (named_by (λ z. z ≡ jam_archive) [] jam_site.protections class
        (All-from_recursion (λ p. p.archive ≡ jam_archive) jam_site.protections (refl, tt)) a named))
        (subst (λ (z : SiteInput). LeadsTo jam_site class jam_archive z) (sym (the_entry p is)) leads);
  }

or_false : (b : Bool) → (b || false) ≡ true → b ≡ true
or_false true e = refl
or_false false e = cc

pub jam_is_sound : IsSound jam_site
jam_is_sound class is = sound_for class (or_false (holds auth_selector class.facility class.severity) is)

-- ---- the circle

abbrev queue_b : SiteQueue
queue_b = record { relay = 0; queue = 2 }

module _ (class other : Class) (is_auth_class : IsAuth class) (is_other : IsOther other) where
  a_waits : WaitsFor jam_site queue_a queue_b
  a_waits = flowing.posts class 0 1 0 2 (0, record { parts = _; found = refl }, own)
      (record { may = record { values = true ∷ []; admitted = (sym is_auth_class, tt); executes = refl }; found = refl; in_scope = tt })
      (record { waits = refl; mark = omega arith })

  b_waits : WaitsFor jam_site queue_b queue_a
  b_waits = flowing.posts other 0 2 0 1 (1, record { parts = _; found = refl }, own)
      (record { may = record { values = false ∷ []; admitted = (sym is_other, tt); executes = refl }; found = refl; in_scope = tt })
      (record { waits = refl; mark = omega arith })

  pub jam_is_jam : IsJam jam_site queue_a
  jam_is_jam = record { circle = flowing.more a_waits (flowing.once b_waits) }

  pub jam_flows_not : IsFlowing jam_site → ⊥
  jam_flows_not flow = no_jam jam_site flow queue_a jam_is_jam

-- ---- the other site, in which one class makes a circle

module _ (other : Class) (is_other : IsOther other) where
  round_a : WaitsFor round_site queue_a queue_b
  round_a = flowing.posts other 0 1 0 2 (0, record { parts = _; found = refl }, own)
      (record { may = record { values = false ∷ []; admitted = (sym is_other, tt); executes = refl }; found = refl; in_scope = tt })
      (record { waits = refl; mark = omega arith })

  round_b : WaitsFor round_site queue_b queue_a
  round_b = flowing.posts other 0 2 0 1 (
    0,
    record { parts = _; found = refl },
    posted 0 own (record { may = record { values = false ∷ []; admitted = (sym is_other, tt); executes = refl }; found = refl; in_scope = tt }),
  )
      (record { may = record { values = []; admitted = tt; executes = refl }; found = refl; in_scope = tt })
      (record { waits = refl; mark = omega arith })

  pub round_is_jam : IsJam round_site queue_a
  round_is_jam = record { circle = flowing.more round_a (flowing.once round_b) }

  pub round_flows_not : IsFlowing round_site → ⊥
  round_flows_not flow = no_jam round_site flow queue_a round_is_jam

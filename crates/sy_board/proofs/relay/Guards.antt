-- Where a plan meets the condition of a guard, nothing guarded is lost.
use Rattle.std.proofs.Common.{◌≡◌, ℕ, ◌+◌, ◌*◌, ◌<◌, ◌≤◌, ◌==◌, ◌||◌, ◌&&◌, not, Bool, true, false, if◌then◌else◌, List, [], ◌∷◌, length, All, refl, sym, subst, ap, ◌∙◌, arith, inl, inr, Some}
use Rattle.std.specs.Prelude.{◌≢◌, Contains}
use Rattle.std.specs.Int.{bit_at}
use Rattle.std.proofs.lemmas.Bool.{and_from, and_parts, eqb-true, eqb-false, false_from_ne_true}
use Rattle.std.proofs.lemmas.Bool.Decides.{nat_tests}
use Rattle.sy_wire.specs.Messages.{Said}
use Rattle.sy_wire.specs.declared.class.Class.{Class}
use Rattle.sy_chain.specs.Entries.{Entry}
use Rattle.sy_marks.specs.declared.marks.Flow.{Flow}
use Rattle.sy_marks.specs.declared.marks.Flow.TheVariants as flow
use Rattle.sy_marks.specs.declared.marks.Marks.{Marks}
use Rattle.sy_marks.specs.Marks.{discards, is_delayed}
use Rattle.sy_rules.specs.declared.lists.occurrence.Occurrence.{Occurrence}
use Rattle.sy_rules.specs.declared.lists.occurrence.Occurrence.TheVariants as occurrence
use Rattle.sy_rules.specs.lists.Sets.{IsLowest}
use Rattle.sy_rules.specs.lists.Work.{Due}
use Rattle.sy_rules.specs.PlanValue.{Plan}
use Rattle.sy_rules.specs.Whole.{body_at, queue_for}
use Rattle.sy_rules.proofs.lemmas.lists.WorkLaws.{work_may}
use Rattle.sy_board.specs.relay.Cells.{Cell, RelayState, at, hand, opening, waiting}
use Rattle.sy_board.specs.relay.Feeders.{IsFedFreely, IsWithinMarks, OnlyFullDelay, feeder_flow}
use Rattle.sy_board.specs.relay.Guards.{IsGuarding, IsGuardedQueue, IsOnItsWay, IsPairOf, IsWithinGuard, MayGuard}
use Rattle.sy_board.specs.relay.Kinds.{HoldsAt, Kind, MayLose, MayRun, queue_of}
use Rattle.sy_board.specs.relay.Plans.{flow_at, input_at, marks_at, parameters_at, post_flow, queue_of_input}
use Rattle.sy_board.specs.relay.Spares.{Follows, MayDo, Scope, is_spare_occurrence, is_spare_own, loses_spare, own, posted}
use Rattle.sy_board.specs.relay.Steps.{Cause, Event, IsHand, IsPosted, MayBeLost, Out, Step}
use Rattle.sy_board.specs.relay.Totals.{GuardState, Pairs, guarded_losses, guards, is_guarded, is_guarded_loss}
use Rattle.sy_board.proofs.relay.GuardTables.{is_pair}
use Rattle.sy_board.proofs.relay.SamePairs.{same_class}
use Rattle.sy_board.proofs.relay.Keeps.{Comes, Each, Kept, Owes, step_keeps}
use Rattle.sy_board.proofs.relay.Spares.{firm_list}
use Rattle.sy_board.proofs.relay.Marks.{InMarks, empty_everywhere, marks_start, marks_step, not_delayed}

-- ---- each element

pub each_of : {A : Type 0} (P : A → Type 0) (xs : List A) → All P xs → Each P xs
each_of P [] all = tt
each_of P (x ∷ xs) all = (all 0 x (omega arith), each_of P xs (λ k d l. all (ℕ.suc k) d (omega (arith, l))))

pub all_of : {A : Type 0} (P : A → Type 0) (xs : List A) → Each P xs → All P xs
all_of P [] each k d l = absurd (omega (arith, l))
all_of P (x ∷ xs) each ℕ.zero d l = each.0
all_of P (x ∷ xs) each (ℕ.suc k) d l = all_of P xs each.1 k d (omega (arith, l))

-- ---- pairs

-- what the guard tells is one of its pairs
pub guards_one : (pairs : Pairs) (input : ℕ) (class : Class) → guards pairs input class ≡ true → Contains pairs (input, class)
guards_one [] input class e = cc
guards_one ((j, d) ∷ pairs) input class e = go (is_pair input class (j, d)) refl (guards_one pairs input class)
  where
    go : (b : Bool) → is_pair input class (j, d) ≡ b → (guards pairs input class ≡ true → Contains pairs (input, class))
        → Contains ((j, d) ∷ pairs) (input, class)
    go true t more =
        let parts = and_parts (j == input) _ t in
        let of_class = and_parts (d.facility == class.facility) _ parts.1 in
        let class_is = same_class d class (eqb-true d.facility class.facility of_class.0) (eqb-true d.severity class.severity of_class.1) in
        let input_is = eqb-true j input parts.0 in
        (0, omega arith, λ i. (input_is i, class_is i))
    go false t more =
        let there = more (subst (λ b. (b || guards pairs input class) ≡ true) t e) in
        (ℕ.suc there.0, (let l = there.1 in omega (arith, l)), there.2)

not_true : (b : Bool) → not b ≡ true → b ≡ false
not_true true e = absurd (cc)
not_true false e = refl

not_false : (b : Bool) → b ≡ false → not b ≡ true
not_false true e = absurd (cc)
not_false false e = refl

pub discards_says : (marks : Marks) (severity n : ℕ) → discards marks severity n ≡ true
    → ((1 ≤ marks.discard_mark) × (marks.discard_mark ≤ n)) × (marks.discard_severity ≤ severity)
discards_says marks severity n t = grind (arith, nat_tests)

-- what is left is a part
pub left_in : (due number left k : ℕ) → IsLowest due number left → bit_at left k ≡ 1 → bit_at due k ≡ 1
left_in due number left k l b = go (k == number) refl
  where
    go : (t : Bool) → (k == number) ≡ t → bit_at due k ≡ 1
    go true e = (let s : bit_at left k ≡ 0 = subst (λ z. bit_at left z ≡ 0) (sym (eqb-true k number e)) l.gone in absurd (omega (arith, s, b)))
    go false e = sym (l.others k (eqb-false k number e)) ∙ b

pub full_of : (f : Flow) → (f ≢ flow.Full → ⊥) → f ≡ flow.Full
full_of flow.Full n = refl
full_of flow.Light n = absurd (n (λ e. cc))
full_of flow.NoWait n = absurd (n (λ e. cc))

-- the input of a hand
pub same_input : (plan : Plan) (i h j g : ℕ) → IsHand plan i h → g < 64 → 64 * i + h ≡ 64 * j + g → j ≡ i
same_input plan i h j g there l b = let m : h < 64 = there.1 in omega (arith, m, l, b)

pub only_full : (plan : Plan) (queue : ℕ) → (IsFedFreely plan queue → ⊥) → OnlyFullDelay plan queue
only_full plan queue none feeder feeds =
    full_of (feeder_flow plan queue feeder) (λ free. none (record { feeder = feeder; feeds = feeds; is_free = free }))

-- ---- a feeder that loses no message of the class

module _ (plan : Plan) (class : Class) (queue : ℕ) (waits : Flow) (clean : MayLose plan class queue waits → ⊥) where
  pub clean_waits : waits ≡ flow.Full
  clean_waits = full_of waits (λ free. clean (inl free))

  pub clean_mark : 1 ≤ (parameters_at plan queue).full_delay_mark
  clean_mark =
      let off : (parameters_at plan queue).full_delay_mark ≡ 0 → ⊥ = λ none. clean (inr (inl none)) in
      omega (arith, off)

  -- where its mark doesn't hold it, the queue isn't full
  pub clean_room : (n : ℕ) → is_delayed waits (marks_at plan queue) n ≡ false → (parameters_at plan queue).size ≤ n → ⊥
  clean_room n free full =
      let below = not_delayed waits (marks_at plan queue) n clean_waits clean_mark free in
      clean (inr (inr (inl (omega (arith, below, full)))))

  -- the queue never discards it, where it is within its mark
  pub clean_discards : (n : ℕ) → (OnlyFullDelay plan queue → n ≤ (parameters_at plan queue).full_delay_mark)
      → discards (marks_at plan queue) class.severity n ≡ true → ⊥
  clean_discards n within t =
      let all = discards_says (marks_at plan queue) class.severity n t in
      let w = within (only_full plan queue (λ free. clean (inr (inr (inr (record { severe = all.1; on = all.0.0; reached = inl free })))))) in
      let below : (parameters_at plan queue).discard_mark ≤ (parameters_at plan queue).full_delay_mark = (let a = all.0.1 in omega (arith, a, w)) in
      clean (inr (inr (inr (record { severe = all.1; on = all.0.0; reached = inr below }))))

-- such a post isn't lost
pub clean_post : (plan : Plan) (class : Class) (old : RelayState) (l : ℕ) (no_memory : Bool)
    → (MayLose plan class (queue_for plan l) (post_flow plan (queue_for plan l)) → ⊥) → MayBeLost plan old l no_memory → ⊥
clean_post plan class old l true clean cause = clean (inl cause)
clean_post plan class old l false clean cause =
    let q = queue_for plan l in clean_room plan class q (post_flow plan q) clean (waiting old q) cause.not_held cause.full

-- ---- what the condition says of an input

module _ (plan : Plan) (spares : List ℕ) (class : Class) (input : ℕ) (clean : (kind : Kind) → HoldsAt plan spares class input kind → ⊥) where
  -- it is such a feeder
  pub clean_input : MayLose plan class (queue_of_input plan input) (flow_at plan input) → ⊥
  clean_input (inl free) = clean Kind.NotFull free
  clean_input (inr (inl off)) = clean Kind.MarkOff off
  clean_input (inr (inr (inl above))) = clean Kind.MarkAboveSize above
  clean_input (inr (inr (inr discards))) = clean Kind.Discards discards

  pub is_full : flow_at plan input ≡ flow.Full
  is_full = clean_waits plan class (queue_of_input plan input) (flow_at plan input) clean_input

  pub has_mark : 1 ≤ (queue_of plan input).full_delay_mark
  has_mark = clean_mark plan class (queue_of_input plan input) (flow_at plan input) clean_input

  -- its queue never discards a message of the class, where it is within its mark
  pub never_discards : (n : ℕ) → (OnlyFullDelay plan (queue_of_input plan input) → n ≤ (queue_of plan input).full_delay_mark)
      → discards (marks_at plan (queue_of_input plan input)) class.severity n ≡ true → ⊥
  never_discards = clean_discards plan class (queue_of_input plan input) (flow_at plan input) clean_input

  -- and so is each post that its messages may come to and that isn't spare
  pub clean_posts : (list number to : ℕ) → Follows plan spares class Scope.Firm input list → MayDo plan spares class Scope.Firm list number (occurrence.Post to)
      → MayLose plan class (queue_for plan to) (post_flow plan (queue_for plan to)) → ⊥
  clean_posts list number to follows does loses =
      clean Kind.InnerQueue (record { list = list; follows = follows; number = number; to = to; does = does; loses = loses })

-- ---- entries of pairs

module _ (plan : Plan) (guard : GuardState) (may : MayGuard plan guard) where
  abbrev spares : List ℕ
  spares = guard.spares

  abbrev IsGuarded : Entry → Type 0
  IsGuarded e = is_guarded plan guard e ≡ true

  abbrev P : Cell → Entry → Type 0
  P p e = IsGuarded e → IsOnItsWay plan spares p e

  abbrev O : Out → Type 0
  O (Out.Passed a e) = Unit {0}
  O (Out.Lost cause e) = is_guarded_loss plan guard cause e ≡ true → ⊥

  -- of a pair, and in no spare action's own list
  parts_of : (e : Entry) → IsGuarded e → Contains guard.pairs (e.input, e.message.class) × (is_spare_own plan spares e.list ≡ false)
  parts_of e is =
      let parts = and_parts (guards guard.pairs e.input e.message.class) _ is in
      (guards_one guard.pairs e.input e.message.class parts.0, not_true (is_spare_own plan spares e.list) parts.1)

  clean_at : (p : Cell) (e : Entry) → IsGuarded e → IsOnItsWay plan spares p e → (kind : Kind) → HoldsAt plan spares e.message.class e.input kind → ⊥
  clean_at p e is good = may e.input e.message.class (record { there = good.there; pair = (parts_of e is).0 })

  owes_may : (p : Cell) (e : Entry) (o : Occurrence) → IsOnItsWay plan spares p e → (w : Owes plan e o) → is_spare_occurrence plan spares o ≡ false
      → MayDo plan spares e.message.class Scope.Firm e.list w.number o
  owes_may p e o good w firm = record { may = good.due w.number w.member; found = w.is; in_scope = firm }

  -- a post that such an entry owes, and that isn't spare, loses nothing
  post_clean : (p : Cell) (e : Entry) (l : ℕ) → IsGuarded e → IsOnItsWay plan spares p e → Owes plan e (occurrence.Post l)
      → is_spare_own plan spares l ≡ false → MayLose plan e.message.class (queue_for plan l) (post_flow plan (queue_for plan l)) → ⊥
  post_clean p e l is good w firm = clean_posts plan spares e.message.class e.input (clean_at p e is good) e.list w.number l good.follows
      (owes_may p e (occurrence.Post l) good w firm)

  -- the queue that such an entry lies in is fed by a feeder that loses nothing of its class
  abbrev IsSafe : Entry → ℕ → Type 0
  IsSafe e q = (waits : Flow) × (MayLose plan e.message.class q waits → ⊥)

  queue_safe : (q : ℕ) (e : Entry) → IsGuarded e → IsOnItsWay plan spares (Cell.Queue q) e → IsSafe e q
  queue_safe q e is good = elim good.place [
    | inl its ↦ subst (IsSafe e) its
        (flow_at plan e.input, clean_input plan spares e.message.class e.input (clean_at (Cell.Queue q) e is good))
    | inr set_cell ↦ subst (IsSafe e) set_cell.into (
      post_flow plan (queue_for plan e.list),
      clean_posts plan spares e.message.class e.input (clean_at (Cell.Queue q) e is good) set_cell.from set_cell.number e.list set_cell.follows set_cell.does,
    )
  ]

  -- an occurrence whose loss is guarded isn't spare, and its entry is guarded
  lost_parts : (cause : Cause) (e : Entry) → is_guarded_loss plan guard cause e ≡ true → (loses_spare plan spares cause ≡ false) × IsGuarded e
  lost_parts cause e is =
      let parts = and_parts (not (loses_spare plan spares cause)) _ is in (not_true (loses_spare plan spares cause) parts.0, parts.1)

  -- the entry of a post into a list that is no spare action's own is guarded where the posted one is
  posted_from : (w : ℕ) (e : Entry) (l : ℕ) (node : Entry) → Owes plan e (occurrence.Post l) → IsPosted plan e l node → IsGuarded node
      → IsGuarded e × (is_spare_own plan spares l ≡ false)
  posted_from w e l node o m is =
      let parts = and_parts (guards guard.pairs node.input node.message.class) _ is in
      let firm : is_spare_own plan spares l ≡ false =
      subst (λ z. is_spare_own plan spares z ≡ false) m.list_is (not_true (is_spare_own plan spares node.list) parts.1) in
      let pair : guards guard.pairs e.input e.message.class ≡ true = subst (λ i. guards guard.pairs i e.message.class ≡ true) m.input
      (subst (λ (z : Said). guards guard.pairs node.input z.class ≡ true) m.message parts.0) in (
        and_from (guards guard.pairs e.input e.message.class) _ pair
            (not_false (is_spare_own plan spares e.list) (firm_list plan spares e.list o.number (occurrence.Post l) o.is firm)),
        firm,
      )

  -- an entry in a hand is of the hand's input
  its_hand : (i h : ℕ) (e : Entry) → IsHand plan i h → IsOnItsWay plan spares (hand i h) e → e.input ≡ i
  its_hand i h e there good = same_input plan i h e.input good.place.0 there good.place.1 good.place.2

  -- what such a post puts into a queue is on its way too
  posted_on_its_way : (w : ℕ) (e : Entry) (l : ℕ) (node : Entry) → Owes plan e (occurrence.Post l) → IsPosted plan e l node
      → IsOnItsWay plan spares (Cell.Worker w) e → is_spare_own plan spares l ≡ false → IsOnItsWay plan spares (Cell.Queue (queue_for plan l)) node
  posted_on_its_way w e l node o m good firm =
      let does = owes_may (Cell.Worker w) e (occurrence.Post l) good o firm in
      let class : e.message.class ≡ node.message.class = ap (λ (said : Said). said.class) (sym m.message) in
      let from : Follows plan spares node.message.class Scope.Firm node.input e.list =
      subst (λ c. Follows plan spares c Scope.Firm node.input e.list) class
      (subst (λ i. Follows plan spares e.message.class Scope.Firm i e.list) (sym m.input) good.follows) in
      let post : MayDo plan spares node.message.class Scope.Firm e.list o.number (occurrence.Post node.list) =
      subst (λ c. MayDo plan spares c Scope.Firm e.list o.number (occurrence.Post node.list)) class
      (subst (λ z. MayDo plan spares e.message.class Scope.Firm e.list o.number (occurrence.Post z)) (sym m.list_is) does) in
      record {
        there = subst (λ i. i < length plan.inputs) (sym m.input) good.there;
        place = inr (record { from = e.list; follows = from; number = o.number; does = post; into = ap (queue_for plan) m.list_is });
        follows = posted o.number from post;
        due = λ k b. work_may (body_at plan node.list) node.message node.message.class k refl
            (subst (λ z. Due (body_at plan z) node.message k) (sym m.list_is)
            (subst (λ (said : Said). Due (body_at plan l) said k) (sym m.message) ((m.due k).0 b)));
      }

  guarded_kept : Kept plan P O (InMarks plan)
  guarded_kept = record {
    enters = λ i h e there p pair.
        let good = p pair in
        record { there = good.there; place = inl (ap (queue_of_input plan) (its_hand i h e there good)); follows = good.follows; due = good.due };
    grabs = λ w e p pair. let good = p pair in record { there = good.there; place = tt; follows = good.follows; due = good.due };
    advances = λ w e number left p l pair.
        let good = p pair in
        record { there = good.there; place = tt; follows = good.follows; due = λ k b. good.due k (left_in e.due number left k l b) };
    runs = λ w e a p o. tt;
    posts = λ w e l node p o m is. posted_on_its_way w e l node o m (p (posted_from w e l node o m is).0) (posted_from w e l node o m is).1;
    lost_take = λ old i h e g p there t pair.
        let good = p pair in
        let same : i ≡ e.input = sym (its_hand i h e there good) in
        let clean = clean_at (hand i h) e pair good in
        let q = queue_of_input plan e.input in
        never_discards plan spares e.message.class e.input clean (waiting old q)
        (λ only. g (Cell.Queue q) only (has_mark plan spares e.message.class e.input clean))
        (subst (λ z. discards (marks_at plan (queue_of_input plan z)) e.message.class.severity (waiting old (queue_of_input plan z)) ≡ true) same t);
    lost_expire = λ old i h e p leaves full pair.
        let good = p pair in
        let same : e.input ≡ i = its_hand i h e leaves.there good in
        let clean : (kind : Kind) → HoldsAt plan spares e.message.class i kind → ⊥ =
        subst (λ z. (kind : Kind) → HoldsAt plan spares e.message.class z kind → ⊥) same (clean_at (hand i h) e pair good) in
        let q = queue_of_input plan i in
        clean_room plan e.message.class q (flow_at plan i) (clean_input plan spares e.message.class i clean) (waiting old q) leaves.not_held full;
    lost_grab = λ old q n e g p l t pair.
        let safe = queue_safe q e pair (p pair) in
        clean_discards plan e.message.class q safe.0 safe.1 n
        (λ only.
        let m = g (Cell.Queue q) only (clean_mark plan e.message.class q safe.0 safe.1) in omega (arith, m, l))
        t;
    lost_run = λ w n e a p o t is.
        let lost = lost_parts (Cause.GiveUp a) e is in
        let good = p lost.1 in
        let runs : MayRun plan spares e.message.class e.input a = record {
          list = e.list;
          follows = good.follows;
          number = o.number;
          does = owes_may (Cell.Worker w) e (occurrence.Run a) good o lost.0;
        } in
        clean_at (Cell.Worker w) e lost.1 good Kind.GivesUp (a, runs, n, t);
    lost_post = λ old w e l no_memory p o cause is.
        let lost = lost_parts (Cause.PostLost l) e is in
        clean_post plan e.message.class old l no_memory (post_clean (Cell.Worker w) e l lost.1 (p lost.1) o lost.0) cause;
    lost_node = λ old w e l g p o t is.
        let lost = lost_parts (Cause.Post l) e is in
        let q = queue_for plan l in
        let clean = post_clean (Cell.Worker w) e l lost.1 (p lost.1) o lost.0 in
        clean_discards plan e.message.class q (post_flow plan q) clean (waiting old q)
        (λ only. g (Cell.Queue q) only (clean_mark plan e.message.class q (post_flow plan q) clean)) t;
  }

  -- an entry that comes by a take
  comes : (old : RelayState) (event : Event) (new : RelayState) (outs : List Out) → Step plan old event new outs
      → Comes plan P O (InMarks plan) guarded_kept event
  comes old (Event.Take i h node) new outs (lost, takes, is) = λ pair. record {
    there = subst (λ j. j < length plan.inputs) (sym takes.made.input_is) takes.there.0;
    place = (h, takes.there.1, ap (λ j. 64 * j + h) (sym takes.made.input_is));
    follows = subst (Follows plan spares node.message.class Scope.Firm node.input)
        (sym (takes.made.list ∙ ap (λ j. (input_at plan j).list) (sym takes.made.input_is))) own;
    due = λ k b. work_may (body_at plan node.list) node.message node.message.class k refl
        (subst (λ l. Due (body_at plan l) node.message k) (sym takes.made.list) ((takes.made.due k).0 b));
  }
  comes old (Event.Enter i h) new outs st = tt
  comes old (Event.Expire i h) new outs st = tt
  comes old (Event.Grab w) new outs st = tt
  comes old (Event.Done w) new outs st = tt
  comes old (Event.Fail w took) new outs st = tt
  comes old (Event.GiveUp w took) new outs st = tt
  comes old (Event.Post w) new outs st = tt
  comes old (Event.PostLost w no_memory) new outs st = tt

  -- ---- what is counted

  none_lost : (outs : List Out) → Each O outs → guarded_losses plan guard outs ≡ 0
  none_lost [] a = refl
  none_lost (Out.Passed x e ∷ outs) a = none_lost outs a.1
  none_lost (Out.Lost cause e ∷ outs) a =
      let none = false_from_ne_true (is_guarded_loss plan guard cause e) a.0 in
      let rest = none_lost outs a.1 in
      subst (λ b. (if b then 1 else 0) + guarded_losses plan guard outs ≡ 0) (sym none) (omega (arith, rest))

  -- ---- a step

  in_marks : (state : RelayState) → IsWithinMarks plan state → InMarks plan state
  in_marks state marks (Cell.Hand k) = tt
  in_marks state marks (Cell.Queue q) = marks q
  in_marks state marks (Cell.Worker w) = tt

  pub guarding_step : (old : RelayState) (event : Event) (new : RelayState) (outs : List Out) → IsGuarding plan guard old
      → Step plan old event new outs → IsGuarding plan guard new × (guarded_losses plan guard outs ≡ 0)
  guarding_step old event new outs is step =
      let before = in_marks old is.marks in
      let marks = marks_step plan old event new outs before step in
      let kept = step_keeps plan P O (InMarks plan) guarded_kept old event new outs before (comes old event new outs step)
      (λ c. each_of (P c) (at old c) (is.entries c)) step in (
        record { marks = λ q. marks (Cell.Queue q); entries = λ c. all_of (P c) (at new c) (kept.0 c) },
        none_lost outs kept.1,
      )

  -- the mark of each queue of a pair is there
  guarded_mark : (input : ℕ) (class : Class) → IsPairOf plan guard.pairs input class → (queue : ℕ) → IsGuardedQueue plan spares input class queue
      → 1 ≤ (parameters_at plan queue).full_delay_mark
  guarded_mark input class pair queue (inl same) =
      subst (λ q. 1 ≤ (parameters_at plan q).full_delay_mark) same (has_mark plan spares class input (may input class pair))
  guarded_mark input class pair queue (inr there) =
      let posted = there.1 in
      let into = queue_for plan there.0 in
      let clean = clean_posts plan spares class input (may input class pair) posted.from posted.number there.0 posted.follows posted.does in
      subst (λ q. 1 ≤ (parameters_at plan q).full_delay_mark) posted.into (clean_mark plan class into (post_flow plan into) clean)

  pub within_guard : (state : RelayState) → IsGuarding plan guard state → IsWithinGuard plan guard state
  within_guard state is input class pair queue guarded only = is.marks queue only (guarded_mark input class pair queue guarded)

-- ---- before the first step

pub guarding_start : (plan : Plan) (guard : GuardState) → IsGuarding plan guard (opening plan)
guarding_start plan guard = record {
  marks = λ q. marks_start plan (Cell.Queue q);
  entries = λ c. subst (All (λ (e : Entry). is_guarded plan guard e ≡ true → IsOnItsWay plan guard.spares c e)) (sym (empty_everywhere plan c))
      (λ k d l. absurd (omega (arith, l)));
}

-- a guard without pairs asks nothing
pub unasked : (plan : Plan) (spares : List ℕ) → MayGuard plan (record { pairs = []; spares = spares })
unasked plan spares input class is = let l = is.pair.1 in absurd (omega (arith, l))

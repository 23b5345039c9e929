-- From one state an event has one outcome.
use Rattle.std.proofs.Common.{◌≡◌, ℕ, ◌<◌, inl, inr, Bool, if◌then◌else◌, List, [], ◌∷◌, ◌++◌, map, sym, subst, ap, ◌∙◌, arith}
use Rattle.std.specs.Int.{bit_at}
use Rattle.std.proofs.lemmas.Bool.{cases_eq}
use Rattle.std.proofs.lemmas.Nat.Bits.{same_from_bits}
use Rattle.sy_wire.specs.Messages.{Said}
use Rattle.sy_chain.specs.Entries.{Entry}
use Rattle.sy_marks.specs.Marks.{discards}
use Rattle.sy_rules.specs.declared.lists.occurrence.Occurrence.{Occurrence}
use Rattle.sy_rules.specs.declared.lists.occurrence.Occurrence.TheVariants as occurrence
use Rattle.sy_rules.specs.lists.Sets.{Bits, IsLowest}
use Rattle.sy_rules.specs.PlanValue.{Plan}
use Rattle.sy_rules.specs.Whole.{queue_for}
use Rattle.sy_rules.proofs.lemmas.lists.Lowest.{one_left}
use Rattle.sy_board.specs.relay.Cells.{Cell, RelayState, at, failures_at, hand, set_cell, set_failures, waiting}
use Rattle.sy_board.specs.relay.Plans.{IsDue, input_at, marks_at, queue_of_input, retry_at}
use Rattle.sy_board.specs.relay.Steps.{Cause, Event, IsOfInput, IsPosted, Job, Out, Step, advanced, if_so, one_more, still}
use Rattle.sy_board.proofs.relay.Patience.{one_job}

-- ---- sets and jobs

small : (a k : ℕ) → bit_at a k < 2
small a k = omega arith

one_set : (P : ℕ → Type 0) (a b : ℕ) → Bits P a → Bits P b → a ≡ b
one_set P a b p q = same_from_bits a b same
  where
    same : (k : ℕ) → bit_at a k ≡ bit_at b k
    same k = elim (cases_eq (bit_at a k) 1) [
      | inl e ↦ e ∙ sym ((q k).1 ((p k).0 e))
      | inr n ↦ elim (cases_eq (bit_at b k) 1) [
        | inl e ↦ absurd (n ((p k).1 ((q k).0 e)))
        | inr m ↦ let x = small a k in let y = small b k in omega (arith, x, y, n, m)
      ]
    ]

first_same : (e f : Entry) (es fs : List Entry) → e ∷ es ≡ f ∷ fs → e ≡ f
first_same e f es fs h = cc

others_same : (e f : Entry) (es fs : List Entry) → e ∷ es ≡ f ∷ fs → es ≡ fs
others_same e f es fs h = cc

one_entry : (plan : Plan) (state : RelayState) (w : ℕ) (a b : Occurrence) (j : Job plan state w a) (k : Job plan state w b) → j.entry ≡ k.entry
one_entry plan state w a b j k = first_same j.entry k.entry j.others k.others (sym j.held ∙ k.held)

abbrev moved_on : RelayState → ℕ → Entry → ℕ → List Entry → RelayState
moved_on state w e left others = set_failures (set_cell state (Cell.Worker w) (still e left others)) w 0

one_advance : (plan : Plan) (state : RelayState) (w : ℕ) (a b : Occurrence) (j : Job plan state w a) (k : Job plan state w b) → advanced plan state w a j ≡ advanced plan state w b k
one_advance plan state w a b j k =
    let e : j.entry ≡ k.entry = one_entry plan state w a b j k in
    let o : j.others ≡ k.others = others_same j.entry k.entry j.others k.others (sym j.held ∙ k.held) in
    let l : j.left ≡ k.left = one_left j.entry.due j.number k.number j.left k.left j.first (subst (λ (x : Entry). IsLowest x.due k.number k.left) (sym e) k.first) in
    ap (λ (x : Entry). moved_on state w x j.left j.others) e ∙ ap (λ (x : ℕ). moved_on state w k.entry x j.others) l ∙ ap (moved_on state w k.entry k.left) o

same_run : (a b : ℕ) → occurrence.Run a ≡ occurrence.Run b → a ≡ b
same_run a b h = cc

same_post : (a b : ℕ) → occurrence.Post a ≡ occurrence.Post b → a ≡ b
same_post a b h = cc

-- ---- outcomes

abbrev Both : RelayState → RelayState → List Out → List Out → Type 0
Both a b outs others = (a ≡ b) × (outs ≡ others)

one_held : (es : List Entry) (n m : Entry) → es ≡ n ∷ [] → es ≡ m ∷ [] → n ≡ m
one_held es n m a b = first_same n m [] [] (sym a ∙ b)

-- an entry that a post makes of one is the only one
same_entry : (n m : Entry) → n.message ≡ m.message → n.list ≡ m.list → n.input ≡ m.input → n.due ≡ m.due → n.tag ≡ m.tag → n ≡ m
same_entry n m a b c d e =
    ap (λ x. record n { message = x }) a ∙ ap (λ x. record n { message = m.message; list = x }) b ∙ ap (λ x. record n { message = m.message; list = m.list; input = x }) c
    ∙ ap (λ x. record n { message = m.message; list = m.list; input = m.input; due = x }) d ∙ ap (λ x. record m { tag = x }) e

pub one_posted : (plan : Plan) (e : Entry) (l : ℕ) (n m : Entry) → IsPosted plan e l n → IsPosted plan e l m → n ≡ m
one_posted plan e l n m a b =
    same_entry n m (a.message ∙ sym b.message) (a.list_is ∙ sym b.list_is) (a.input ∙ sym b.input) (one_set _ n.due m.due a.due b.due) (a.tag ∙ sym b.tag)

-- and so is one that an input makes
pub one_taken : (plan : Plan) (input : ℕ) (n m : Entry) → IsOfInput plan input n → IsOfInput plan input m → n.message ≡ m.message → n.tag ≡ m.tag → n ≡ m
one_taken plan input n m a b message tag =
    same_entry n m message (a.list ∙ sym b.list) (a.input_is ∙ sym b.input_is)
    (one_set _ n.due m.due a.due (subst (λ (x : Said). IsDue plan (input_at plan input).list x m.due) (sym message) b.due)) tag

pub jobs_same : (plan : Plan) (state : RelayState) (w : ℕ) (a b : Occurrence) (j : Job plan state w a) (k : Job plan state w b) → (a ≡ b) × (j.entry ≡ k.entry) × (j.left ≡ k.left)
jobs_same plan state w a b j k =
    let e : j.entry ≡ k.entry = one_entry plan state w a b j k in
    (one_job plan state w a b j k, e, one_left j.entry.due j.number k.number j.left k.left j.first (subst (λ (x : Entry). IsLowest x.due k.number k.left) (sym e) k.first))

abbrev posted_state : Plan → RelayState → RelayState → ℕ → Entry → Bool → RelayState
posted_state plan old moved l node lost =
    if lost then moved else set_cell moved (Cell.Queue (queue_for plan l)) (at old (Cell.Queue (queue_for plan l)) ++ node ∷ [])

pub one_step : (plan : Plan) (old : RelayState) (event : Event) (a b : RelayState) (outs others : List Out) → Step plan old event a outs → Step plan old event b others → Both a b outs others
one_step plan old (Event.Take i h node) a b outs others (x, s, o) (y, t, p) =
    let same : x ≡ y = sym s.discarded ∙ t.discarded in (
      s.after ∙ ap (λ (z : Bool). if z then old else set_cell old (hand i h) (node ∷ [])) same ∙ sym t.after,
      o ∙ ap (λ (z : Bool). if_so z (Out.Lost Cause.Take node)) same ∙ sym p,
    )
one_step plan old (Event.Enter i h) a b outs others (x, s, o) (y, t, p) =
    let same : x ≡ y = one_held (at old (hand i h)) x y s.leaves.held t.leaves.held in (
      s.after ∙ ap (λ (z : Entry). set_cell (set_cell old (hand i h) []) (Cell.Queue (queue_of_input plan i)) (at old (Cell.Queue (queue_of_input plan i)) ++ z ∷ [])) same ∙ sym t.after,
      o ∙ sym p,
    )
one_step plan old (Event.Expire i h) a b outs others (x, s, o) (y, t, p) =
    let same : x ≡ y = one_held (at old (hand i h)) x y s.leaves.held t.leaves.held in
    (s.after ∙ sym t.after, o ∙ ap (λ (z : Entry). Out.Lost Cause.Expire z ∷ []) same ∙ sym p)
one_step plan old (Event.Grab w) a b outs others (x, s, o) (y, t, p) =
    (s.after ∙ sym t.after, o ∙ ap (map (Out.Lost Cause.Grab)) (s.lost_are ∙ sym t.lost_are) ∙ sym p)
one_step plan old (Event.Done w) a b outs others (x, e, s, o) (y, f, t, p) =
    let run : x ≡ y = same_run x y (one_job plan old w _ _ s.job t.job) in
    let entry : e ≡ f = sym s.its ∙ one_entry plan old w _ _ s.job t.job ∙ t.its in (
      s.after ∙ one_advance plan old w _ _ s.job t.job ∙ sym t.after,
      o ∙ ap (λ (z : ℕ). Out.Passed z e ∷ []) run ∙ ap (λ (z : Entry). Out.Passed y z ∷ []) entry ∙ sym p,
    )
one_step plan old (Event.Fail w took) a b outs others (x, e, s, o) (y, f, t, p) =
    let run : x ≡ y = same_run x y (one_job plan old w _ _ s.job t.job) in
    let entry : e ≡ f = sym s.its ∙ one_entry plan old w _ _ s.job t.job ∙ t.its in (
      s.after ∙ ap (λ (z : ℕ). set_failures old w (one_more (retry_at plan z) (failures_at old w))) run ∙ sym t.after,
      o ∙ ap (λ (z : ℕ). if_so took (Out.Passed z e)) run ∙ ap (λ (z : Entry). if_so took (Out.Passed y z)) entry ∙ sym p,
    )
one_step plan old (Event.GiveUp w took) a b outs others (x, e, s, o) (y, f, t, p) =
    let run : x ≡ y = same_run x y (one_job plan old w _ _ s.job t.job) in
    let entry : e ≡ f = sym s.its ∙ one_entry plan old w _ _ s.job t.job ∙ t.its in (
      s.after ∙ one_advance plan old w _ _ s.job t.job ∙ sym t.after,
      o ∙ ap (λ (z : ℕ). Out.Lost (Cause.GiveUp z) e ∷ if_so took (Out.Passed z e)) run ∙ ap (λ (z : Entry). Out.Lost (Cause.GiveUp y) z ∷ if_so took (Out.Passed y z)) entry ∙ sym p,
    )
one_step plan old (Event.Post w) a b outs others (x, n, l, s, o) (y, m, k, t, p) =
    let post : x ≡ y = same_post x y (one_job plan old w _ _ s.job t.job) in
    let entry = one_entry plan old w _ _ s.job t.job in
    let made : IsPosted plan t.job.entry y n = subst (λ (z : Entry). IsPosted plan z y n) entry (subst (λ (z : ℕ). IsPosted plan s.job.entry z n) post s.made) in
    let node : n ≡ m = one_posted plan t.job.entry y n m made t.made in
    let lost : l ≡ k = sym s.discarded
    ∙ ap (λ (z : ℕ). discards (marks_at plan (queue_for plan z)) n.message.class.severity (waiting old (queue_for plan z))) post
    ∙ ap (λ (z : Entry). discards (marks_at plan (queue_for plan y)) z.message.class.severity (waiting old (queue_for plan y))) node
    ∙ t.discarded in
    let moved = one_advance plan old w _ _ s.job t.job in (
      s.after
          ∙ ap (λ (z : RelayState). posted_state plan old z x n l) moved
          ∙ ap (λ (z : ℕ). posted_state plan old (advanced plan old w (occurrence.Post y) t.job) z n l) post
          ∙ ap (λ (z : Entry). posted_state plan old (advanced plan old w (occurrence.Post y) t.job) y z l) node
          ∙ ap (λ (z : Bool). posted_state plan old (advanced plan old w (occurrence.Post y) t.job) y m z) lost
          ∙ sym t.after,
      o
          ∙ ap (λ (z : ℕ). if_so l (Out.Lost (Cause.Post z) s.job.entry)) post
          ∙ ap (λ (z : Entry). if_so l (Out.Lost (Cause.Post y) z)) entry
          ∙ ap (λ (z : Bool). if_so z (Out.Lost (Cause.Post y) t.job.entry)) lost
          ∙ sym p,
    )
one_step plan old (Event.PostLost w no_memory) a b outs others (x, e, s, o) (y, f, t, p) =
    let post : x ≡ y = same_post x y (one_job plan old w _ _ s.job t.job) in
    let entry : e ≡ f = sym s.its ∙ one_entry plan old w _ _ s.job t.job ∙ t.its in (
      s.after ∙ one_advance plan old w _ _ s.job t.job ∙ sym t.after,
      o ∙ ap (λ (z : ℕ). Out.Lost (Cause.PostLost z) e ∷ []) post ∙ ap (λ (z : Entry). Out.Lost (Cause.PostLost y) z ∷ []) entry ∙ sym p,
    )

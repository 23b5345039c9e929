-- A queue that only full-delay feeders feed stays within its mark.
use Rattle.std.proofs.Common.{◌≡◌, ℕ, ◌*◌, ◌<◌, ◌≤◌, ◌⊎◌, inl, inr, Bool, List, [], ◌∷◌, ◌++◌, length, drop, refl, sym, subst, arith, true, false, get_or, length-append, length-drop, replicate}
use Rattle.std.proofs.lemmas.Bool.Decides.{nat_tests}
use Rattle.sy_chain.specs.Entries.{Entry}
use Rattle.sy_marks.specs.declared.marks.Flow.{Flow}
use Rattle.sy_marks.specs.declared.marks.Flow.TheVariants as flow
use Rattle.sy_marks.specs.declared.marks.Marks.{Marks}
use Rattle.sy_marks.specs.Marks.{is_delayed}
use Rattle.sy_rules.specs.declared.lists.occurrence.Occurrence.{Occurrence}
use Rattle.sy_rules.specs.declared.lists.occurrence.Occurrence.TheVariants as occurrence
use Rattle.sy_rules.specs.PlanValue.{Plan}
use Rattle.sy_rules.specs.Whole.{queue_for}
use Rattle.sy_board.specs.relay.Cells as cells
use Rattle.sy_board.specs.relay.Cells.{Cell, RelayState, at, set_cell, hand, waiting}
use Rattle.sy_board.specs.relay.Feeders.{Feeder, OnlyFullDelay}
use Rattle.sy_board.specs.relay.Plans.{flow_at, marks_at, parameters_at, post_flow, queue_of_input, queue_of_worker}
use Rattle.sy_board.specs.relay.Steps.{Event, HasRoom, Job, Out, Step, advanced, still}
use Rattle.sy_board.proofs.relay.SetCells.{set_cell_elim, if_elim}

-- what the mark doesn't hold
pub not_delayed : (f : Flow) (marks : Marks) (n : ℕ) → f ≡ flow.Full → 1 ≤ marks.full_delay_mark → is_delayed f marks n ≡ false
    → n < marks.full_delay_mark
not_delayed flow.Full marks n f m e = grind (arith, nat_tests)
not_delayed flow.Light marks n f m e = cc
not_delayed flow.NoWait marks n f m e = cc

-- a post that isn't lost has room
pub has_room : (plan : Plan) (old : RelayState) (list : ℕ) (lost : Bool) → (lost ≡ true) ⊎ HasRoom plan old list → lost ≡ false → HasRoom plan old list
has_room plan old list lost (inl e) is = absurd (cc)
has_room plan old list lost (inr room) is = room

module _ (plan : Plan) where
  abbrev pub mark_of : ℕ → ℕ
  mark_of queue = (parameters_at plan queue).full_delay_mark

  abbrev pub MarkAt : Cell → List Entry → Type 0
  MarkAt (Cell.Hand k) es = Unit {0}
  MarkAt (Cell.Queue q) es = OnlyFullDelay plan q → 1 ≤ mark_of q → length es ≤ mark_of q
  MarkAt (Cell.Worker w) es = Unit {0}

  abbrev pub InMarks : RelayState → Type 0
  InMarks state = (c : Cell) → MarkAt c (at state c)

  advanced_marks : (old : RelayState) (w : ℕ) (o : Occurrence) → InMarks old → (job : Job plan old w o) → InMarks (advanced plan old w o job)
  advanced_marks old w o a job c = set_cell_elim MarkAt old (Cell.Worker w) (still job.entry job.left job.others) tt a c

  pub marks_step : (old : RelayState) (e : Event) (new : RelayState) (outs : List Out) → InMarks old → Step plan old e new outs → InMarks new
  marks_step old (Event.Take i h node) new outs a (lost, takes, is) =
      subst InMarks (sym takes.after)
      (if_elim InMarks lost old (set_cell old (hand i h) (node ∷ [])) (λ t. a) (λ t. set_cell_elim MarkAt old (hand i h) (node ∷ []) tt a))
  marks_step old (Event.Enter i h) new outs a (node, enters, is) =
      let q = queue_of_input plan i in
      subst InMarks (sym enters.after)
      (set_cell_elim MarkAt (set_cell old (hand i h) []) (Cell.Queue q) (at old (Cell.Queue q) ++ node ∷ [])
      (λ only mark.
      let below = not_delayed (flow_at plan i) (marks_at plan q) (waiting old q)
      (only (Feeder.Input i) (enters.leaves.there.0, refl)) mark enters.leaves.not_held in
      omega (arith, length-append (at old (Cell.Queue q)) (node ∷ [])))
      (set_cell_elim MarkAt old (hand i h) [] tt a))
  marks_step old (Event.Expire i h) new outs a (node, expires, is) = subst InMarks (sym expires.after) (set_cell_elim MarkAt old (hand i h) [] tt a)
  marks_step old (Event.Grab w) new outs a (lost, grabs, is) =
      let q = queue_of_worker plan w in
      let n = (parameters_at plan q).batch in
      subst InMarks (sym grabs.after)
      (set_cell_elim MarkAt (set_cell old (Cell.Queue q) (drop n (at old (Cell.Queue q)))) (Cell.Worker w) _ tt
      (set_cell_elim MarkAt old (Cell.Queue q) (drop n (at old (Cell.Queue q)))
      (λ only mark. let m = a (Cell.Queue q) only mark in omega (arith, length-drop n (at old (Cell.Queue q)))) a))
  marks_step old (Event.Done w) new outs a (x, e, does, is) = subst InMarks (sym does.after) (advanced_marks old w _ a does.job)
  marks_step old (Event.Fail w took) new outs a (x, e, fails, is) = subst InMarks (sym fails.after) a
  marks_step old (Event.GiveUp w took) new outs a (x, e, gives, is) = subst InMarks (sym gives.after) (advanced_marks old w _ a gives.job)
  marks_step old (Event.Post w) new outs a (l, node, lost, posts, is) =
      let b = advanced_marks old w (occurrence.Post l) a posts.job in
      subst InMarks (sym posts.after)
      (if_elim InMarks lost (advanced plan old w (occurrence.Post l) posts.job) _ (λ t. b)
      (λ t. set_cell_elim MarkAt (advanced plan old w (occurrence.Post l) posts.job) (Cell.Queue (queue_for plan l)) _
      (λ only mark.
      let q = queue_for plan l in
      let room = has_room plan old l lost posts.room t in
      let below = not_delayed (post_flow plan q) (marks_at plan q) (waiting old q)
      (only (Feeder.Post posts.job.entry.list posts.job.number) (l, posts.job.found, refl)) mark room.not_held in
      omega (arith, below, length-append (at old (Cell.Queue q)) (node ∷ []))) b))
  marks_step old (Event.PostLost w no_memory) new outs a (l, e, loses, is) = subst InMarks (sym loses.after) (advanced_marks old w _ a loses.job)

  get_replicate : {A : Type 0} (n k : ℕ) (x : A) → get_or (replicate n x) k x ≡ x
  get_replicate ℕ.zero k x = refl
  get_replicate (ℕ.suc n) ℕ.zero x = refl
  get_replicate (ℕ.suc n) (ℕ.suc k) x = get_replicate n k x

  pub empty_everywhere : (c : Cell) → at (cells.opening plan) c ≡ []
  empty_everywhere (Cell.Hand k) = get_replicate (64 * length plan.inputs) k []
  empty_everywhere (Cell.Queue k) = get_replicate (length plan.queues) k []
  empty_everywhere (Cell.Worker k) = get_replicate (length plan.workers) k []

  nothing_in_marks : (c : Cell) → MarkAt c []
  nothing_in_marks (Cell.Hand k) = tt
  nothing_in_marks (Cell.Queue q) = λ only mark. omega arith
  nothing_in_marks (Cell.Worker w) = tt

  pub marks_start : InMarks (cells.opening plan)
  marks_start c = subst (MarkAt c) (sym (empty_everywhere c)) (nothing_in_marks c)

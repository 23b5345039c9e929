-- No queue is longer than its size.
use Rattle.std.proofs.Common.{◌≡◌, ℕ, ◌≤◌, true, false, List, [], ◌∷◌, ◌++◌, length, drop, sym, subst, arith, inl, inr, length-append, length-drop}
use Rattle.std.specs.Prelude.{◌⊎◌}
use Rattle.sy_chain.specs.Entries.{Entry}
use Rattle.sy_rules.specs.declared.lists.occurrence.Occurrence.{Occurrence}
use Rattle.sy_rules.specs.declared.lists.occurrence.Occurrence.TheVariants as occurrence
use Rattle.sy_rules.specs.PlanValue.{Plan}
use Rattle.sy_rules.specs.Whole.{queue_for}
use Rattle.sy_board.specs.relay.Cells as cells
use Rattle.sy_board.specs.relay.Cells.{Cell, RelayState, at, set_cell, hand}
use Rattle.sy_board.specs.relay.Plans.{parameters_at, queue_of_input, queue_of_worker}
use Rattle.sy_board.specs.relay.Steps.{Event, HasRoom, Job, Out, Step, advanced, still}
use Rattle.sy_board.proofs.relay.SetCells.{set_cell_elim, if_elim}
use Rattle.sy_site.specs.Sites.{Site, plan_at}
use Rattle.sy_site.specs.machine.States.{SiteState, opening, with_relay}
use Rattle.sy_site.specs.machine.Steps.{RelaySteps, Runs, SiteEvent, SiteStep, SiteSteps}
use Rattle.sy_site.specs.machine.Lengths.{IsWithinSizes}
use Rattle.sy_board.proofs.relay.Marks.{empty_everywhere}
use Rattle.sy_site.proofs.machine.Marks.{push_outs_relays, relay_elim}

has_room : (plan : Plan) (old : RelayState) (list : ℕ) → (false ≡ true) ⊎ HasRoom plan old list → HasRoom plan old list
has_room plan old list (inl e) = absurd (cc)
has_room plan old list (inr room) = room

module _ (plan : Plan) where
  abbrev SizeAt : Cell → List Entry → Type 0
  SizeAt (Cell.Hand k) es = Unit {0}
  SizeAt (Cell.Queue q) es = length es ≤ (parameters_at plan q).size
  SizeAt (Cell.Worker w) es = Unit {0}

  abbrev InSizes : RelayState → Type 0
  InSizes state = (c : Cell) → SizeAt c (at state c)

  advanced_sizes : (old : RelayState) (w : ℕ) (o : Occurrence) → InSizes old → (job : Job plan old w o) → InSizes (advanced plan old w o job)
  advanced_sizes old w o a job c = set_cell_elim SizeAt old (Cell.Worker w) (still job.entry job.left job.others) tt a c

  sizes_step : (old : RelayState) (e : Event) (new : RelayState) (outs : List Out) → InSizes old → Step plan old e new outs → InSizes new
  sizes_step old (Event.Take i h node) new outs a (lost, takes, is) =
      subst InSizes (sym takes.after)
      (if_elim InSizes lost old (set_cell old (hand i h) (node ∷ [])) (λ t. a) (λ t. set_cell_elim SizeAt old (hand i h) (node ∷ []) tt a))
  sizes_step old (Event.Enter i h) new outs a (node, enters, is) =
      let q = queue_of_input plan i in
      let room = enters.room in
      subst InSizes (sym enters.after)
      (set_cell_elim SizeAt (set_cell old (hand i h) []) (Cell.Queue q) (at old (Cell.Queue q) ++ node ∷ [])
      (omega (arith, room, length-append (at old (Cell.Queue q)) (node ∷ [])))
      (set_cell_elim SizeAt old (hand i h) [] tt a))
  sizes_step old (Event.Expire i h) new outs a (node, expires, is) = subst InSizes (sym expires.after) (set_cell_elim SizeAt old (hand i h) [] tt a)
  sizes_step old (Event.Grab w) new outs a (lost, grabs, is) =
      let q = queue_of_worker plan w in
      let n = (parameters_at plan q).batch in
      let m = a (Cell.Queue q) in
      subst InSizes (sym grabs.after)
      (set_cell_elim SizeAt (set_cell old (Cell.Queue q) (drop n (at old (Cell.Queue q)))) (Cell.Worker w) _ tt
      (set_cell_elim SizeAt old (Cell.Queue q) (drop n (at old (Cell.Queue q))) (omega (arith, m, length-drop n (at old (Cell.Queue q)))) a))
  sizes_step old (Event.Done w) new outs a (x, e, does, is) = subst InSizes (sym does.after) (advanced_sizes old w _ a does.job)
  sizes_step old (Event.Fail w took) new outs a (x, e, fails, is) = subst InSizes (sym fails.after) a
  sizes_step old (Event.GiveUp w took) new outs a (x, e, gives, is) = subst InSizes (sym gives.after) (advanced_sizes old w _ a gives.job)
  sizes_step old (Event.Post w) new outs a (l, node, true, posts, is) = subst InSizes (sym posts.after) (advanced_sizes old w _ a posts.job)
  sizes_step old (Event.Post w) new outs a (l, node, false, posts, is) =
      let q = queue_for plan l in
      let room = (has_room plan old l posts.room).not_full in
      subst InSizes (sym posts.after)
      (set_cell_elim SizeAt (advanced plan old w (occurrence.Post l) posts.job) (Cell.Queue q) (at old (Cell.Queue q) ++ node ∷ [])
      (omega (arith, room, length-append (at old (Cell.Queue q)) (node ∷ []))) (advanced_sizes old w _ a posts.job))
  sizes_step old (Event.PostLost w no_memory) new outs a (l, e, loses, is) = subst InSizes (sym loses.after) (advanced_sizes old w _ a loses.job)

  nothing_in_sizes : (c : Cell) → SizeAt c []
  nothing_in_sizes (Cell.Hand k) = tt
  nothing_in_sizes (Cell.Queue q) = omega arith
  nothing_in_sizes (Cell.Worker w) = tt

  sizes_start : InSizes (cells.opening plan)
  sizes_start c = subst (SizeAt c) (sym (empty_everywhere plan c)) (nothing_in_sizes c)

module _ (site : Site) where
  abbrev AllSizes : (ℕ → RelayState) → Type 0
  AllSizes relays = (r : ℕ) → InSizes (plan_at site r) (relays r)

  relay_sizes : (old : SiteState) (r : ℕ) (e : Event) (new : SiteState) → AllSizes old.relays → RelaySteps site old r e new → AllSizes new.relays
  relay_sizes old r e new a st =
      subst (λ (s : SiteState). AllSizes s.relays) (sym st.after)
      (subst AllSizes (sym (push_outs_relays (record old { relays = with_relay old.relays r st.state }) r st.outs))
      (relay_elim (λ x. InSizes (plan_at site x)) old.relays r st.state
      (sizes_step (plan_at site r) (old.relays r) e st.state st.outs (a r) st.step) a))

  site_sizes : (old : SiteState) (e : SiteEvent) (new : SiteState) → AllSizes old.relays → SiteStep site old e new → AllSizes new.relays
  site_sizes old (SiteEvent.TakeNew input h m) new a st = relay_sizes _ input.relay _ new a st.step
  site_sizes old (SiteEvent.TakeFrom input h link place) new a st = relay_sizes _ input.relay _ new a st.takes.step
  site_sizes old (SiteEvent.Inside r event) new a st = relay_sizes old r event new a st.1

  sizes_lead : (old : SiteState) (es : List SiteEvent) (new : SiteState) → AllSizes old.relays → SiteSteps site old es new → AllSizes new.relays
  sizes_lead old [] new a is = subst (λ (s : SiteState). AllSizes s.relays) (sym is) a
  sizes_lead old (e ∷ es) new a (mid, st, more) = sizes_lead mid es new (site_sizes old e mid a st) more

  pub sizes_run : (es : List SiteEvent) (new : SiteState) → Runs site es new → IsWithinSizes site new
  sizes_run es new run r q = sizes_lead (opening site) es new (λ x. sizes_start (plan_at site x)) run r (Cell.Queue q)

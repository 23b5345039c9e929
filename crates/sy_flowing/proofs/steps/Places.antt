-- Where entries are, and what is due of them, in every state that a run leads to.
use Rattle.std.proofs.Common.{◌≡◌, ℕ, ◌+◌, ◌*◌, ◌<◌, ◌≤◌, ◌==◌, Bool, true, false, List, [], ◌∷◌, ◌++◌, length, drop, refl, sym, subst, ap, arith, ◌∙◌}
use Rattle.std.specs.Prelude.{◌≢◌, ◌&&◌, not}
use Rattle.std.specs.Int.{bit_at}
use Rattle.std.specs.List.{Contains}
use Rattle.std.proofs.lemmas.Bool.{eqb-false}
use Rattle.sy_chain.specs.Entries.{Entry}
use Rattle.sy_marks.specs.declared.marks.Marks.{Marks}
use Rattle.sy_marks.specs.Marks.{is_kept, is_lost, kept_of}
use Rattle.sy_rules.specs.declared.lists.occurrence.Occurrence.{Occurrence}
use Rattle.sy_rules.specs.declared.lists.occurrence.Occurrence.TheVariants as occurrence
use Rattle.sy_rules.specs.lists.Work.{Due}
use Rattle.sy_rules.specs.PlanValue.{Plan}
use Rattle.sy_rules.specs.Whole.{body_at, queue_for}
use Rattle.sy_rules.proofs.lemmas.lists.WorkLaws.{work_may}
use Rattle.sy_board.specs.relay.Cells as cells
use Rattle.sy_board.specs.relay.Cells.{Cell, RelayState, at, set_cell, hand}
use Rattle.sy_board.specs.relay.Plans.{input_at, queue_of_input, queue_of_worker, marks_at, parameters_at}
use Rattle.sy_board.specs.relay.Spares.{MayDo, Scope, own, posted}
use Rattle.sy_board.specs.relay.Steps.{Cause, Event, IsHand, IsOfInput, Job, Out, Step, advanced, still}
use Rattle.sy_board.proofs.relay.SetCells.{set_cell_elim, if_elim}
use Rattle.sy_site.specs.declared.site.SiteAction.{SiteAction}
use Rattle.sy_site.specs.declared.site.SiteInput.{SiteInput}
use Rattle.sy_site.specs.Sites.{Site, plan_at, spares_at}
use Rattle.sy_site.specs.machine.States.{Copy, SiteState, opening, with_relay}
use Rattle.sy_site.specs.machine.Steps.{RelaySteps, Runs, SiteEvent, SiteStep, SiteSteps}
use Rattle.sy_site.specs.machine.Reach.{Follows}
use Rattle.sy_board.proofs.relay.Guards.{left_in}
use Rattle.sy_board.proofs.relay.Keeps.{Each, Kept, Owes}
use Rattle.sy_board.proofs.relay.Marks.{empty_everywhere}
use Rattle.sy_site.proofs.machine.Marks.{push_outs_relays, relay_elim}
use Rattle.sy_site.proofs.machine.Naming.{each_in}
use Rattle.sy_site.proofs.machine.Spread.{Grows, Moves, OutOf, run_keeps, start_keeps}

-- ---- at most one entry in a hand, and something due of each that a worker has

abbrev pub Owing : Entry → Type 0
Owing e = 0 < e.due

abbrev pub TidyAt : Cell → List Entry → Type 0
TidyAt (Cell.Hand k) es = length es ≤ 1
TidyAt (Cell.Queue q) es = Unit {0}
TidyAt (Cell.Worker w) es = Each Owing es

abbrev pub IsTidy : RelayState → Type 0
IsTidy state = (c : Cell) → TidyAt c (at state c)

not_zero : (n : ℕ) → (n == 0) ≡ false → 0 < n
not_zero n e = let z : n ≢ 0 = eqb-false n 0 e in omega (arith, z)

kept_owes : (m : Marks) (e : Entry) (k : ℕ) → is_kept m e k ≡ true → Owing e
kept_owes m e k t = go (is_lost m e k) (e.due == 0) refl t
  where
    go : (a b : Bool) → (e.due == 0) ≡ b → not a && not b ≡ true → Owing e
    go a true f t = absurd (no a t)
      where
        no : (a : Bool) → not a && false ≡ true → ⊥
        no true t = cc
        no false t = cc
    go a false f t = not_zero e.due f

pub kept_owing : (m : Marks) (n : ℕ) (es : List Entry) → Each Owing (kept_of m n es)
kept_owing m ℕ.zero es = tt
kept_owing m (ℕ.suc n) [] = tt
kept_owing m (ℕ.suc n) (e ∷ es) =
    if_elim (Each Owing) (is_kept m e (length es)) (e ∷ kept_of m n es) (kept_of m n es)
    (λ t. (kept_owes m e (length es) t, kept_owing m n es)) (λ t. kept_owing m n es)

-- the input of a hand
same_input : (plan : Plan) (i h j g : ℕ) → IsHand plan i h → g < 64 → 64 * i + h ≡ 64 * j + g → j ≡ i
same_input plan i h j g there l b = let m : h < 64 = there.1 in omega (arith, m, l, b)

module _ (plan : Plan) where
  advanced_tidy : (old : RelayState) (w : ℕ) (o : Occurrence) → IsTidy old → (job : Job plan old w o) → IsTidy (advanced plan old w o job)
  advanced_tidy old w o a job c =
      let f : Owing job.entry × Each Owing job.others = subst (Each Owing) job.held (a (Cell.Worker w)) in
      set_cell_elim TidyAt old (Cell.Worker w) (still job.entry job.left job.others)
      (if_elim (Each Owing) (job.left == 0) job.others (record job.entry { due = job.left } ∷ job.others)
      (λ t. f.1) (λ t. (not_zero job.left t, f.1)))
      a c

  pub tidy_step : (old : RelayState) (e : Event) (new : RelayState) (outs : List Out) → IsTidy old → Step plan old e new outs → IsTidy new
  tidy_step old (Event.Take i h node) new outs a (lost, takes, is) =
      subst IsTidy (sym takes.after)
      (if_elim IsTidy lost old (set_cell old (hand i h) (node ∷ [])) (λ t. a) (λ t. set_cell_elim TidyAt old (hand i h) (node ∷ []) (omega arith) a))
  tidy_step old (Event.Enter i h) new outs a (node, enters, is) =
      let q = queue_of_input plan i in
      subst IsTidy (sym enters.after)
      (set_cell_elim TidyAt (set_cell old (hand i h) []) (Cell.Queue q) (at old (Cell.Queue q) ++ node ∷ []) tt
      (set_cell_elim TidyAt old (hand i h) [] (omega arith) a))
  tidy_step old (Event.Expire i h) new outs a (node, expires, is) =
      subst IsTidy (sym expires.after) (set_cell_elim TidyAt old (hand i h) [] (omega arith) a)
  tidy_step old (Event.Grab w) new outs a (lost, grabs, is) =
      let q = queue_of_worker plan w in
      let n = (parameters_at plan q).batch in
      subst IsTidy (sym grabs.after)
      (set_cell_elim TidyAt (set_cell old (Cell.Queue q) (drop n (at old (Cell.Queue q)))) (Cell.Worker w) _ (kept_owing (marks_at plan q) n (at old (Cell.Queue q)))
      (set_cell_elim TidyAt old (Cell.Queue q) (drop n (at old (Cell.Queue q))) tt a))
  tidy_step old (Event.Done w) new outs a (x, e, does, is) = subst IsTidy (sym does.after) (advanced_tidy old w _ a does.job)
  tidy_step old (Event.Fail w took) new outs a (x, e, fails, is) = subst IsTidy (sym fails.after) a
  tidy_step old (Event.GiveUp w took) new outs a (x, e, gives, is) = subst IsTidy (sym gives.after) (advanced_tidy old w _ a gives.job)
  tidy_step old (Event.Post w) new outs a (l, node, lost, posts, is) =
      let b = advanced_tidy old w (occurrence.Post l) a posts.job in
      subst IsTidy (sym posts.after)
      (if_elim IsTidy lost (advanced plan old w (occurrence.Post l) posts.job) _ (λ t. b)
      (λ t. set_cell_elim TidyAt (advanced plan old w (occurrence.Post l) posts.job) (Cell.Queue (queue_for plan l)) _ tt b))
  tidy_step old (Event.PostLost w no_memory) new outs a (l, e, loses, is) = subst IsTidy (sym loses.after) (advanced_tidy old w _ a loses.job)

  tidy_nothing : (c : Cell) → TidyAt c []
  tidy_nothing (Cell.Hand k) = omega arith
  tidy_nothing (Cell.Queue q) = tt
  tidy_nothing (Cell.Worker w) = tt

  pub tidy_start : IsTidy (cells.opening plan)
  tidy_start c = subst (TidyAt c) (sym (empty_everywhere plan c)) (tidy_nothing c)

module _ (site : Site) where
  abbrev pub AllTidy : (ℕ → RelayState) → Type 0
  AllTidy relays = (r : ℕ) → IsTidy (relays r)

  relay_tidy : (old : SiteState) (r : ℕ) (e : Event) (new : SiteState) → AllTidy old.relays → RelaySteps site old r e new → AllTidy new.relays
  relay_tidy old r e new a st =
      subst (λ (s : SiteState). AllTidy s.relays) (sym st.after)
      (subst AllTidy (sym (push_outs_relays (record old { relays = with_relay old.relays r st.state }) r st.outs))
      (relay_elim (λ x. IsTidy) old.relays r st.state
      (tidy_step (plan_at site r) (old.relays r) e st.state st.outs (a r) st.step) a))

  site_tidy : (old : SiteState) (e : SiteEvent) (new : SiteState) → AllTidy old.relays → SiteStep site old e new → AllTidy new.relays
  site_tidy old (SiteEvent.TakeNew input h m) new a st = relay_tidy _ input.relay _ new a st.step
  site_tidy old (SiteEvent.TakeFrom input h link place) new a st = relay_tidy _ input.relay _ new a st.takes.step
  site_tidy old (SiteEvent.Inside r event) new a st = relay_tidy old r event new a st.1

  tidy_lead : (old : SiteState) (es : List SiteEvent) (new : SiteState) → AllTidy old.relays → SiteSteps site old es new → AllTidy new.relays
  tidy_lead old [] new a is = subst (λ (s : SiteState). AllTidy s.relays) (sym is) a
  tidy_lead old (e ∷ es) new a (mid, st, more) = tidy_lead mid es new (site_tidy old e mid a st) more

  pub tidy_run : (es : List SiteEvent) (new : SiteState) → Runs site es new → AllTidy new.relays
  tidy_run es new run = tidy_lead (opening site) es new (λ x. tidy_start (plan_at site x)) run

  -- ---- each entry at a place of its input, or of its list

  -- what a place says of the input and the list of an entry there
  abbrev pub IsAt : Plan → Cell → Entry → Type 0
  IsAt plan (Cell.Hand k) e = (h : ℕ) × (h < 64) × (k ≡ 64 * e.input + h) × (e.list ≡ (input_at plan e.input).list)
  IsAt plan (Cell.Queue q) e = queue_for plan e.list ≡ q
  IsAt plan (Cell.Worker w) e = queue_for plan e.list ≡ queue_of_worker plan w

  abbrev pub input_on : ℕ → ℕ → SiteInput
  input_on r i = record { relay = r; input = i }

  -- an input's queue is its list's
  abbrev pub QueuesAreLists : ℕ → Type 0
  QueuesAreLists r = (i : ℕ) → i < length (plan_at site r).inputs
      → queue_of_input (plan_at site r) i ≡ queue_for (plan_at site r) (input_at (plan_at site r) i).list

  pub record Placed (r : ℕ) (c : Cell) (e : Entry) : Type 0 where
    pub there : e.input < length (plan_at site r).inputs
    pub place : QueuesAreLists r → IsAt (plan_at site r) c e
    pub follows : Follows site e.message.class Scope.Every (input_on r e.input) e.list
    pub due : (k : ℕ) → bit_at e.due k ≡ 1 → Due (body_at (plan_at site r) e.list) e.message k

  abbrev P : ℕ → Copy → Cell → Entry → Type 0
  P r x c e = Placed r c e

  abbrev D : SiteAction → Copy → Type 0
  D d x = Unit {0}

  abbrev L : ℕ → ℕ → Cause → Copy → Type 0
  L r l cause x = Unit {0}

  abbrev G : ℕ → RelayState → Type 0
  G r state = Unit {0}

  -- what is owed may be done
  pub owes_may : (r : ℕ) (c : Cell) (e : Entry) (o : Occurrence) → Placed r c e → (w : Owes (plan_at site r) e o)
      → MayDo (plan_at site r) (spares_at site r) e.message.class Scope.Every e.list w.number o
  owes_may r c e o g w = record {
    may = work_may (body_at (plan_at site r) e.list) e.message e.message.class w.number refl (g.due w.number w.member);
    found = w.is;
    in_scope = tt;
  }

  fresh : (to : SiteInput) (h : ℕ) (node : Entry) → IsHand (plan_at site to.relay) to.input h
      → IsOfInput (plan_at site to.relay) to.input node → Placed to.relay (hand to.input h) node
  fresh to h node there made = record {
    there = subst (λ i. i < length (plan_at site to.relay).inputs) (sym made.input_is) there.0;
    place = λ queues. (h, there.1, ap (λ j. 64 * j + h) (sym made.input_is), made.list ∙ ap (λ j. (input_at (plan_at site to.relay) j).list) (sym made.input_is));
    follows = subst (λ j. Follows site node.message.class Scope.Every (input_on to.relay j) node.list) (sym made.input_is)
        (subst (Follows site node.message.class Scope.Every to) (sym made.list) own);
    due = λ k b. subst (λ l. Due (body_at (plan_at site to.relay) l) node.message k) (sym made.list) ((made.due k).0 b);
  }

  placed_kept : (r : ℕ) (x : Copy) → Kept (plan_at site r) (P r x) (OutOf D L r x) (G r)
  placed_kept r x = record {
    enters = λ i h e there p. record {
      there = p.there;
      place = λ queues.
          let a = p.place queues in
          let same : i ≡ e.input = sym (same_input (plan_at site r) i h e.input a.0 there a.1 a.2) in
          ap (queue_for (plan_at site r)) a.3 ∙ sym (queues e.input p.there) ∙ ap (queue_of_input (plan_at site r)) (sym same);
      follows = p.follows;
      due = p.due;
    };
    grabs = λ w e p. record { there = p.there; place = p.place; follows = p.follows; due = p.due };
    advances = λ w e number left p l. record {
      there = p.there;
      place = p.place;
      follows = p.follows;
      due = λ k b. p.due k (left_in e.due number left k l b);
    };
    runs = λ w e a p o. tt;
    posts = λ w e l node p o m.
        let does = owes_may r (Cell.Worker w) e (occurrence.Post l) p o in
        let after : Follows site e.message.class Scope.Every (input_on r e.input) l = posted o.number p.follows does in
        record {
          there = subst (λ i. i < length (plan_at site r).inputs) (sym m.input) p.there;
          place = λ queues. ap (queue_for (plan_at site r)) m.list_is;
          follows = subst (λ y. Follows site y.class Scope.Every (input_on r node.input) node.list) (sym m.message)
              (subst (λ j. Follows site e.message.class Scope.Every (input_on r j) node.list) (sym m.input)
              (subst (Follows site e.message.class Scope.Every (input_on r e.input)) (sym m.list_is) after));
          due = λ k b. subst (λ z. Due (body_at (plan_at site r) z) node.message k) (sym m.list_is)
              (subst (λ z. Due (body_at (plan_at site r) l) z k) (sym m.message) ((m.due k).0 b));
        };
    lost_take = λ old i h e g p there t. tt;
    lost_expire = λ old i h e p leaves full. tt;
    lost_grab = λ old q n e g p l t. tt;
    lost_run = λ w n e a p o t. tt;
    lost_post = λ old w e l no_memory p o cause. tt;
    lost_node = λ old w e l g p o d. tt;
  }

  placed_moves : Moves site P D L G
  placed_moves = record { inside = placed_kept; over = λ d to h x node p t there made m. fresh to h node there made }

  placed_grow : Grows site (λ t. P) (λ t. D) (λ t. L)
  placed_grow = record {
    of_entry = λ t a r x c e p. p;
    of_copy = λ t a d x p. tt;
    of_loss = λ t a r l cause x p. tt;
    comes = λ t to h m node there made is. fresh to h node there made;
  }

  pub placed_run : (es : List SiteEvent) (new : SiteState) → Runs site es new
      → (r : ℕ) (c : Cell) (e : Entry) → Contains (at (new.relays r) c) e → Placed r c e
  placed_run es new run r c e h =
      let all = run_keeps site (λ t. P) (λ t. D) (λ t. L) G (λ t. placed_moves) placed_grow (λ s. Unit {0}) (λ s e mid i st. tt) (λ s i r. tt)
      (opening site) es new tt (start_keeps site (λ t. P) (λ t. D) (λ t. L) G (λ t. placed_moves) placed_grow) run in
      (each_in _ _ (all.held r c) e h).holds

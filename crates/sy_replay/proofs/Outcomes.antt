-- From one state an event of a site has one outcome.
use Rattle.std.proofs.Common.{◌≡◌, ℕ, List, [], ◌∷◌, ◌++◌, length, Some, sym, ap, subst, ◌∙◌, arith}
use Rattle.std.specs.Prelude.{slice_get}
use Rattle.sy_board.specs.relay.Cells.{RelayState}
use Rattle.sy_board.specs.relay.Steps.{Event}
use Rattle.sy_board.proofs.relay.Outcomes.{one_step, one_taken}
use Rattle.sy_chain.specs.Entries.{Entry}
use Rattle.sy_site.specs.declared.site.SiteInput.{SiteInput}
use Rattle.sy_site.specs.Sites.{Site, plan_at}
use Rattle.sy_site.specs.machine.States.{Copy, SiteState, copy_of_new, off_link, push_outs, taken_by, with_passed, with_relay}
use Rattle.sy_site.specs.machine.Steps.{RelaySteps, SiteEvent, SiteStep, TakesCopy}

one_relay : (site : Site) (old : SiteState) (r : ℕ) (e : Event) (a b : SiteState) → RelaySteps site old r e a → RelaySteps site old r e b → a ≡ b
one_relay site old r e a b s t =
    let same = one_step (plan_at site r) (old.relays r) e s.state t.state s.outs t.outs s.step t.step in
    s.after ∙ ap (λ (x : RelayState). push_outs (record old { relays = with_relay old.relays r x }) r s.outs) same.0
    ∙ ap (push_outs (record old { relays = with_relay old.relays r t.state }) r) same.1 ∙ sym t.after

one_take : (site : Site) (old : SiteState) (to : SiteInput) (hand : ℕ) (copy : Copy) (a b : SiteState) → TakesCopy site old to hand copy a
    → TakesCopy site old to hand copy b → a ≡ b
one_take site old to hand copy a b s t =
    let taken : SiteState = record old { copies = old.copies ++ taken_by to.relay copy ∷ [] } in
    let node : s.node ≡ t.node = one_taken (plan_at site to.relay) to.input s.node t.node s.step.step.1.made t.step.step.1.made (s.message ∙ sym t.message) (s.tag ∙ sym t.tag) in
    one_relay site taken to.relay (Event.Take to.input hand t.node) a b
    (subst (λ (n : Entry). RelaySteps site taken to.relay (Event.Take to.input hand n) a) node s.step) t.step

head_same : {x y : ℕ} {xs ys : List ℕ} → x ∷ xs ≡ y ∷ ys → x ≡ y
head_same e = cc

tail_same : {x y : ℕ} {xs ys : List ℕ} → x ∷ xs ≡ y ∷ ys → xs ≡ ys
tail_same e = cc

-- a list has one cut at a place
one_cut : (before other : List ℕ) (x y : ℕ) (behind rest : List ℕ) → length before ≡ length other → before ++ x ∷ behind ≡ other ++ y ∷ rest
    → (x ≡ y) × (before ++ behind ≡ other ++ rest)
one_cut [] [] x y behind rest l e = (head_same e, tail_same e)
one_cut [] (b ∷ other) x y behind rest l e = absurd (omega (arith, l))
one_cut (a ∷ before) [] x y behind rest l e = absurd (omega (arith, l))
one_cut (a ∷ before) (b ∷ other) x y behind rest l e =
    let later = one_cut before other x y behind rest (omega (arith, l)) (tail_same e) in
    (later.0, ap (λ (h : ℕ). h ∷ before ++ behind) (head_same e) ∙ ap (λ (t : List ℕ). b ∷ t) later.1)

some_one : {A : Type 0} {a b : A} → Some a ≡ Some b → a ≡ b
some_one e = cc

pub one_outcome : (site : Site) (old : SiteState) (event : SiteEvent) (one other : SiteState) → SiteStep site old event one → SiteStep site old event other
    → one ≡ other
one_outcome site old (SiteEvent.TakeNew to hand message) one other s t = one_take site _ to hand (copy_of_new old to message) one other s t
one_outcome site old (SiteEvent.TakeFrom to hand link place) one other s t =
    let cut = one_cut s.before t.before s.tag t.tag s.behind t.behind (s.stands ∙ sym t.stands) (sym s.on_link ∙ t.on_link) in
    let copy : s.copy ≡ t.copy = some_one (sym s.is ∙ ap (slice_get old.copies) cut.0 ∙ t.is) in
    one_take site (record old { passed = with_passed old.passed link (t.before ++ t.behind) }) to hand (off_link site link t.copy) one other
    (subst (λ (c : Copy). TakesCopy site (record old { passed = with_passed old.passed link (t.before ++ t.behind) }) to hand (off_link site link c) one) copy
    (subst (λ (tags : List ℕ). TakesCopy site (record old { passed = with_passed old.passed link tags }) to hand (off_link site link s.copy) one) cut.1 s.takes)) t.takes
one_outcome site old (SiteEvent.Inside r event) one other s t = one_relay site old r event one other s.1 t.1

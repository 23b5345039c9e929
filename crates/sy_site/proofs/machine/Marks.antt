-- On each relay of a site a queue that only full-delay feeders feed stays within its mark.
use Rattle.std.proofs.Common.{◌≡◌, ℕ, ◌==◌, List, [], ◌∷◌, ◌++◌, refl, sym, subst}
use Rattle.std.proofs.lemmas.Bool.{eqb-true}
use Rattle.sy_board.specs.relay.Cells.{Cell, RelayState}
use Rattle.sy_board.specs.relay.Steps.{Event, Out}
use Rattle.sy_board.proofs.relay.Marks.{InMarks, marks_start, marks_step}
use Rattle.sy_board.proofs.relay.SetCells.{if_elim}
use Rattle.sy_site.specs.Sites.{Site, SiteAction, plan_at}
use Rattle.sy_site.specs.machine.States.{SiteState, opening, push_outs, with_passed, with_relay}
use Rattle.sy_site.specs.machine.Steps.{SiteSteps, RelaySteps, Runs, SiteEvent, SiteStep}
use Rattle.sy_site.specs.machine.Lengths.{IsWithinMarks}

pub relay_elim : (P : ℕ → RelayState → Type 0) (f : ℕ → RelayState) (r : ℕ) (state : RelayState) → P r state → ((x : ℕ) → P x (f x))
    → (x : ℕ) → P x (with_relay f r state x)
relay_elim P f r state p all x = if_elim (P x) (r == x) state (f x) (λ e. subst (λ z. P z state) (eqb-true r x e) p) (λ e. all x)

-- what leaves a relay changes no relay
pub push_outs_relays : (s : SiteState) (r : ℕ) (outs : List Out) → (push_outs s r outs).relays ≡ s.relays
push_outs_relays s r [] = refl
push_outs_relays s r (Out.Passed a e ∷ outs) =
    let d : SiteAction = record { relay = r; action = a } in
    push_outs_relays (record s { passed = with_passed s.passed d (s.passed d ++ e.tag ∷ []) }) r outs
push_outs_relays s r (Out.Lost cause e ∷ outs) =
    push_outs_relays (record s { losses = s.losses ++ record { copy = e.tag; relay = r; list = e.list; cause = cause } ∷ [] }) r outs

module _ (site : Site) where
  abbrev pub AllMarks : (ℕ → RelayState) → Type 0
  AllMarks relays = (r : ℕ) → InMarks (plan_at site r) (relays r)

  relay_marks : (old : SiteState) (r : ℕ) (e : Event) (new : SiteState) → AllMarks old.relays → RelaySteps site old r e new → AllMarks new.relays
  relay_marks old r e new a st =
      subst (λ (s : SiteState). AllMarks s.relays) (sym st.after)
      (subst AllMarks (sym (push_outs_relays (record old { relays = with_relay old.relays r st.state }) r st.outs))
      (relay_elim (λ x. InMarks (plan_at site x)) old.relays r st.state
      (marks_step (plan_at site r) (old.relays r) e st.state st.outs (a r) st.step) a))

  pub site_marks : (old : SiteState) (e : SiteEvent) (new : SiteState) → AllMarks old.relays → SiteStep site old e new → AllMarks new.relays
  site_marks old (SiteEvent.TakeNew input h m) new a st = relay_marks _ input.relay _ new a st.step
  site_marks old (SiteEvent.TakeFrom input h link place) new a st = relay_marks _ input.relay _ new a st.takes.step
  site_marks old (SiteEvent.Inside r event) new a st = relay_marks old r event new a st.1

  marks_lead : (old : SiteState) (es : List SiteEvent) (new : SiteState) → AllMarks old.relays → SiteSteps site old es new → AllMarks new.relays
  marks_lead old [] new a is = subst (λ (s : SiteState). AllMarks s.relays) (sym is) a
  marks_lead old (e ∷ es) new a (mid, st, more) = marks_lead mid es new (site_marks old e mid a st) more

  pub marks_run : (es : List SiteEvent) (new : SiteState) → Runs site es new → IsWithinMarks site new
  marks_run es new run r q only mark = marks_lead (opening site) es new (λ x. marks_start (plan_at site x)) run r (Cell.Queue q) only mark

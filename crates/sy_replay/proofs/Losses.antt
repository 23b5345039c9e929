-- After every run each loss is of a copy that was made, in a relay that is there.
use Rattle.std.proofs.Common.{◌≡◌, ℕ, ◌<◌, List, [], ◌∷◌, ◌++◌, length, refl, sym, subst, arith, get_or}
use Rattle.std.specs.Prelude.{All, slice_get}
use Rattle.std.specs.List.{Contains}
use Rattle.sy_board.specs.relay.Cells.{RelayState}
use Rattle.sy_board.specs.relay.Steps.{Event, Out, Step}
use Rattle.sy_site.specs.declared.site.SiteAction.{SiteAction}
use Rattle.sy_site.specs.Sites.{Relay, Site, plan_in}
use Rattle.sy_site.specs.machine.States as states
use Rattle.sy_site.specs.machine.States.{SiteState, opening, push_outs, with_passed, with_relay}
use Rattle.sy_site.specs.machine.Steps.{RelaySteps, SiteEvent, SiteStep, SiteSteps}
use Rattle.sy_site.specs.machine.Naming.{IsTag}
use Rattle.sy_board.proofs.relay.Keeps.{Each, each_append}
use Rattle.sy_site.proofs.machine.Naming.{tags_run}
use Rattle.sy_replay.specs.declared.event.Loss.{Loss}
use Rattle.sy_replay.specs.Events.{loss_of, losses_of}
use Rattle.sy_replay.specs.States.{IsReached}
use Rattle.sy_replay.proofs.Sites.{no_step}

-- a relay that makes a step is there
step_there : (relays : List Relay) (r : ℕ) (old : RelayState) (e : Event) (new : RelayState) (outs : List Out) → Step (plan_in (slice_get relays r)) old e new outs
    → r < length relays
step_there [] r old e new outs step = absurd (no_step old e new outs step)
step_there (x ∷ xs) ℕ.zero old e new outs step = omega (arith)
step_there (x ∷ xs) (ℕ.suc r) old e new outs step = let m = step_there xs r old e new outs step in omega (arith, m)

abbrev AreThere : ℕ → List states.Loss → Type 0
AreThere n losses = Each (λ (l : states.Loss). l.relay < n) losses

push_there : (n : ℕ) (s : SiteState) (r : ℕ) (outs : List Out) → r < n → AreThere n s.losses → AreThere n (push_outs s r outs).losses
push_there n s r [] there all = all
push_there n s r (Out.Passed x e ∷ outs) there all =
    let d : SiteAction = record { relay = r; action = x } in
    push_there n (record s { passed = with_passed s.passed d (s.passed d ++ e.tag ∷ []) }) r outs there all
push_there n s r (Out.Lost cause e ∷ outs) there all =
    push_there n (record s { losses = s.losses ++ record { copy = e.tag; relay = r; list = e.list; cause = cause } ∷ [] }) r outs there
    (each_append (λ (l : states.Loss). l.relay < n) s.losses _ all (there, tt))

relay_there : (site : Site) (s : SiteState) (r : ℕ) (e : Event) (new : SiteState) → AreThere (length site.relays) s.losses → RelaySteps site s r e new
    → AreThere (length site.relays) new.losses
relay_there site s r e new all st =
    subst (λ (x : SiteState). AreThere (length site.relays) x.losses) (sym st.after)
    (push_there (length site.relays) (record s { relays = with_relay s.relays r st.state }) r st.outs
    (step_there site.relays r (s.relays r) e st.state st.outs st.step) all)

site_there : (site : Site) (s : SiteState) (e : SiteEvent) (new : SiteState) → AreThere (length site.relays) s.losses → SiteStep site s e new
    → AreThere (length site.relays) new.losses
site_there site s (SiteEvent.TakeNew to h m) new all st = relay_there site _ to.relay _ new all st.step
site_there site s (SiteEvent.TakeFrom to h link place) new all st = relay_there site _ to.relay _ new all st.takes.step
site_there site s (SiteEvent.Inside r event) new all st = relay_there site s r event new all st.1

run_there : (site : Site) (s : SiteState) (es : List SiteEvent) (new : SiteState) → AreThere (length site.relays) s.losses → SiteSteps site s es new
    → AreThere (length site.relays) new.losses
run_there site s [] new all is = subst (λ (x : SiteState). AreThere (length site.relays) x.losses) (sym is) all
run_there site s (e ∷ es) new all (mid, st, more) = run_there site mid es new (site_there site s e mid all st) more

-- ---- of the code's losses

each_relay : (n : ℕ) (losses : List Loss) → AreThere n (losses_of losses) → All (λ (l : Loss). l.relay < n) losses
each_relay n [] all k d l = absurd (omega (arith, l))
each_relay n (x ∷ xs) all ℕ.zero d l = all.0
each_relay n (x ∷ xs) all (ℕ.suc k) d l = each_relay n xs all.1 k d (omega (arith, l))

among : (losses : List Loss) (k : ℕ) (d : Loss) → k < length losses → Contains (losses_of losses) (loss_of (get_or losses k d))
among [] k d l = absurd (omega (arith, l))
among (x ∷ xs) ℕ.zero d l = (0, omega (arith), refl)
among (x ∷ xs) (ℕ.suc k) d l = let later = among xs k d (omega (arith, l)) in (ℕ.suc later.0, omega (arith, later.1), later.2)

pub relays_there : (site : Site) (state : SiteState) (losses : List Loss) → IsReached site state → losses_of losses ≡ state.losses
    → All (λ (l : Loss). l.relay < length site.relays) losses
relays_there site state losses (events, runs) are =
    each_relay (length site.relays) losses (subst (AreThere (length site.relays)) (sym are) (run_there site (opening site) events state tt runs))

pub copies_there : (site : Site) (state : SiteState) (losses : List Loss) → IsReached site state → losses_of losses ≡ state.losses
    → All (λ (l : Loss). IsTag state.copies l.copy) losses
copies_there site state losses (events, runs) are k d l =
    (tags_run site events state runs).losses (loss_of (get_or losses k d))
    (subst (λ (ls : List states.Loss). Contains ls (loss_of (get_or losses k d))) are (among losses k d l))

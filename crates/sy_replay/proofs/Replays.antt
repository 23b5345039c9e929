-- What a replay keeps: its relays are those of its site, and some run ends in its state.
use Rattle.std.proofs.Common.{◌≡◌, ℕ, ◌+◌, ◌<◌, List, [], ◌∷◌, ◌++◌, length, map, replicate, take, Option, Some, None, refl, sym, ap, subst, arith, ◌∙◌}
use Rattle.std.specs.Prelude.{slice_get, OnErr, OnOk, Result, Ok, Err, option_map}
use Rattle.std.proofs.Math.Path.{fun_ext}
use Rattle.std.proofs.lemmas.Option.{slice_get-map}
use Rattle.sy_board.specs.relay.Cells as cells
use Rattle.sy_site.specs.Sites.{Relay, Site, plan_at, plan_in}
use Rattle.sy_site.specs.declared.site.SiteAction.{SiteAction}
use Rattle.sy_site.specs.machine.States.{SiteState, opening}
use Rattle.sy_site.specs.machine.Steps.{SiteEvent, SiteStep, SiteSteps}
use Rattle.sy_replay.specs.Held.{opened_part, opened_parts}
use Rattle.sy_replay.specs.Parts.{PartState, tags_at}
use Rattle.sy_replay.specs.States.{IsReached, passed_in, passed_of, site_state, state_of}
use Rattle.sy_replay.specs.internal.States.{AreOf, HaveSamePlans, plan_of}

steps_on : (site : Site) (s : SiteState) (es : List SiteEvent) (mid : SiteState) (e : SiteEvent) (new : SiteState) → SiteSteps site s es mid
    → SiteStep site mid e new → SiteSteps site s (es ++ e ∷ []) new
steps_on site s [] mid e new same step = (new, subst (λ x. SiteStep site x e new) same step, refl)
steps_on site s (x ∷ es) mid e new (between, one, others) step = (between, one, steps_on site between es mid e new others step)

pub reached_on : (site : Site) (old : SiteState) (e : SiteEvent) (new : SiteState) → IsReached site old → SiteStep site old e new → IsReached site new
reached_on site old e new (es, runs) step = (es ++ e ∷ [], steps_on site (opening site) es old e new runs step)

pub reached_after : {T E : Type 0} (r : Result T E) (site : Site) (old : SiteState) (e : SiteEvent) (new : SiteState)
    → IsReached site old → OnOk r (SiteStep site old e new) → OnErr r (new ≡ old) → IsReached site new
reached_after (Ok x) site old e new reached step same = reached_on site old e new reached step
reached_after (Err x) site old e new reached step same = subst (IsReached site) (sym same) reached

pub are_of_after : (site : Site) (old new : List PartState) → AreOf site old → HaveSamePlans old new → AreOf site new
are_of_after site old new of same = λ r. of r ∙ sym (same r)

-- ---- the beginning

plan_opened : (o : Option Relay) → plan_in o ≡ plan_of (option_map (λ (r : Relay). opened_part r.plan) o)
plan_opened None = refl
plan_opened (Some relay) = refl

pub opened_of : (site : Site) → AreOf site (opened_parts site)
opened_of site = λ r. plan_opened (slice_get site.relays r)
    ∙ ap plan_of (sym (slice_get-map (λ (x : Relay). opened_part x.plan) site.relays r))

state_opened : (o : Option Relay) → state_of (option_map (λ (r : Relay). opened_part r.plan) o) ≡ cells.opening (plan_in o)
state_opened None = refl
state_opened (Some relay) = refl

no_tags : (n k : ℕ) → tags_at (replicate n []) k ≡ []
no_tags ℕ.zero k = refl
no_tags (ℕ.suc n) ℕ.zero = refl
no_tags (ℕ.suc n) (ℕ.suc k) = no_tags n k

none_passed : (o : Option Relay) (k : ℕ) → passed_in (option_map (λ (r : Relay). opened_part r.plan) o) k ≡ []
none_passed None k = refl
none_passed (Some relay) k = no_tags (length relay.plan.actions) k

pub opened_state : (site : Site) → site_state (opened_parts site) [] [] [] ≡ opening site
opened_state site =
    ap (λ relays. state relays (passed_of (opened_parts site))) (fun_ext (λ r. ap state_of (get r) ∙ state_opened (slice_get site.relays r)))
    ∙ ap (state (λ r. cells.opening (plan_at site r))) (fun_ext (λ a. ap (λ o. passed_in o a.action) (get a.relay) ∙ none_passed (slice_get site.relays a.relay) a.action))
  where
    state : (ℕ → cells.RelayState) → (SiteAction → List ℕ) → SiteState
    state relays passed = record { relays = relays; copies = []; passed = passed; losses = []; arrivals = [] }

    get : (r : ℕ) → slice_get (opened_parts site) r ≡ option_map (λ (x : Relay). opened_part x.plan) (slice_get site.relays r)
    get r = slice_get-map (λ (x : Relay). opened_part x.plan) site.relays r

pub opened_reached : (site : Site) → IsReached site (site_state (opened_parts site) [] [] [])
opened_reached site = ([], opened_state site)

pub one_more_part : (relays : List Relay) (k : ℕ) → k < length relays
    → map (λ (r : Relay). opened_part r.plan) (take k relays) ++ opened_part (plan_in (slice_get relays k)) ∷ []
    ≡ map (λ (r : Relay). opened_part r.plan) (take (k + 1) relays)
one_more_part [] k l = absurd (omega (arith, l))
one_more_part (r ∷ rs) ℕ.zero l = refl
one_more_part (r ∷ rs) (ℕ.suc k) l =
    let on : ℕ.suc k + 1 ≡ ℕ.suc (k + 1) = omega arith in
    ap (λ ps. opened_part r.plan ∷ ps) (one_more_part rs k (omega (arith, l)))
    ∙ ap (λ n. map (λ (x : Relay). opened_part x.plan) (take n (r ∷ rs))) (sym on)

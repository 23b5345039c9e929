-- What lawful sites have: whole plans where something happens, and archives that lead nowhere.
use Rattle.std.proofs.Common.{◌≡◌, ℕ, Bool, true, false, if◌then◌else◌, List, [], ◌∷◌, refl, sym, subst, arith, Some, None, Option, All}
use Rattle.std.specs.Prelude.{slice_get, IfSome, ◌&&◌, not}
use Rattle.std.specs.List.{Contains, list_any}
use Rattle.sy_wire.specs.declared.class.Class.{Class}
use Rattle.sy_rules.specs.declared.parameters.objects.Destination.{Destination}
use Rattle.sy_rules.specs.declared.parameters.objects.Destination.TheVariants as destination
use Rattle.sy_rules.specs.declared.parts.Action.{Action}
use Rattle.sy_rules.specs.Whole.{IsWhole}
use Rattle.sy_board.specs.relay.Cells.{RelayState}
use Rattle.sy_board.specs.relay.Steps.{Event, Out, Step}
use Rattle.sy_board.proofs.relay.Bounds.{all_first, all_later}
use Rattle.sy_site.specs.Sites.{Protection, Relay, Site, SiteAction, archives, archives_from, asks_for, no_plan, plan_at, plan_in, same_action, target, target_of}
use Rattle.sy_site.specs.machine.Lawful.{IsArchive, IsLawful}

-- ---- plans

-- a relay that isn't there makes no step
no_step : (old : RelayState) (e : Event) (new : RelayState) (outs : List Out) → Step no_plan old e new outs → ⊥
no_step old (Event.Take i h node) new outs (lost, takes, is) = let l = takes.there.0 in omega (arith, l)
no_step old (Event.Enter i h) new outs (node, enters, is) = let l = enters.leaves.there.0 in omega (arith, l)
no_step old (Event.Expire i h) new outs (node, expires, is) = let l = expires.leaves.there.0 in omega (arith, l)
no_step old (Event.Grab w) new outs (lost, grabs, is) = let l = grabs.there in omega (arith, l)
no_step old (Event.Done w) new outs (a, e, does, is) = let l = does.job.there in omega (arith, l)
no_step old (Event.Fail w took) new outs (a, e, fails, is) = let l = fails.job.there in omega (arith, l)
no_step old (Event.GiveUp w took) new outs (a, e, gives, is) = let l = gives.job.there in omega (arith, l)
no_step old (Event.Post w) new outs (l, node, lost, posts, is) = let m = posts.job.there in omega (arith, m)
no_step old (Event.PostLost w no_memory) new outs (l, e, loses, is) = let m = loses.job.there in omega (arith, m)

whole_in : (relays : List Relay) (r : ℕ) → All (λ relay. IsWhole relay.plan) relays → IfSome (slice_get relays r) (λ relay. IsWhole relay.plan)
whole_in [] r all = tt
whole_in (x ∷ relays) ℕ.zero all = all_first (λ (relay : Relay). IsWhole relay.plan) x relays all
whole_in (x ∷ relays) (ℕ.suc r) all = whole_in relays r (all_later (λ (relay : Relay). IsWhole relay.plan) x relays all)

whole_found : (found : Option Relay) → IfSome found (λ relay. IsWhole relay.plan)
    → (old : RelayState) (e : Event) (new : RelayState) (outs : List Out)
    → Step (plan_in found) old e new outs → IsWhole (plan_in found)
whole_found None w old e new outs st = absurd (no_step old e new outs st)
whole_found (Some relay) w old e new outs st = w

pub whole_at : (site : Site) → IsLawful site → (r : ℕ) (old : RelayState) (e : Event) (new : RelayState) (outs : List Out)
    → Step (plan_at site r) old e new outs → IsWhole (plan_at site r)
whole_at site law r old e new outs st = whole_found (slice_get site.relays r) (whole_in site.relays r law.plans) old e new outs st

-- ---- archives

leads_nowhere : (site : Site) (found : Action) (file : List ℕ) → found.destination ≡ destination.Archive file → target_of site (Some found) ≡ None
leads_nowhere site found file e = go found.destination e
  where
    go : (d : Destination) → d ≡ destination.Archive file
        → target_of site (Some (record { name = found.name; destination = d; retry = found.retry; resume_interval = found.resume_interval })) ≡ None
    go (destination.Archive f) e = refl
    go (destination.Forward name port) e = cc

archive_leads : (site : Site) (action : SiteAction) → IsArchive site action → target site action ≡ None
archive_leads site action a = subst (λ f. target_of site f ≡ None) (sym a.found) (leads_nowhere site a.parts a.file a.writes)

-- what is named for a class, is named by a protect line
pub named_by : (P : SiteAction → Type 0) (before : List SiteAction) (ps : List Protection) (class : Class) → All (λ p. P p.archive) ps
    → (a : SiteAction) → Contains (archives_from before ps class) a → P a
named_by P before [] class all a (k, l, is) = absurd (omega arith)
named_by P before (p ∷ ps) class all a c =
    go (asks_for p class && not (list_any (same_action p.archive) before)) c
    (named_by P (p.archive ∷ before) ps class (all_later (λ (p : Protection). P p.archive) p ps all) a)
    (named_by P before ps class (all_later (λ (p : Protection). P p.archive) p ps all) a)
  where
    go : (b : Bool) → Contains (if b then p.archive ∷ archives_from (p.archive ∷ before) ps class else archives_from before ps class) a
        → (Contains (archives_from (p.archive ∷ before) ps class) a → P a) → (Contains (archives_from before ps class) a → P a) → P a
    go true (ℕ.zero, l, is) f g = subst P is (all_first (λ (p : Protection). P p.archive) p ps all)
    go true (ℕ.suc k, l, is) f g = f (k, omega (arith, l), is)
    go false c f g = g c

pub archives_lead_nowhere : (site : Site) → IsLawful site → (class : Class) (a : SiteAction) → Contains (archives site class) a → target site a ≡ None
archives_lead_nowhere site law class a c = archive_leads site a (named_by (IsArchive site) [] site.protections class law.archives a c)

-- What relays that are there have, and what isn't touched where entries leave one.
use Rattle.std.proofs.Common.{◌≡◌, ℕ, List, [], ◌∷◌, ◌++◌, refl, arith, All}
use Rattle.std.specs.Prelude.{slice_get, IfSome}
use Rattle.sy_rules.specs.Whole.{IsWhole}
use Rattle.sy_board.specs.relay.Cells.{RelayState}
use Rattle.sy_board.specs.relay.Steps.{Event, Out, Step}
use Rattle.sy_board.proofs.relay.Bounds.{all_first, all_later}
use Rattle.sy_site.specs.declared.site.SiteAction.{SiteAction}
use Rattle.sy_site.specs.Sites.{Relay, no_plan}
use Rattle.sy_site.specs.machine.States.{SiteState, push_outs, with_passed}

-- a relay that isn't there makes no step
pub no_step : (old : RelayState) (e : Event) (new : RelayState) (outs : List Out) → Step no_plan old e new outs → ⊥
no_step old (Event.Take i h node) new outs (lost, takes, is) = let l = takes.there.0 in omega (arith, l)
no_step old (Event.Enter i h) new outs (node, enters, is) = let l = enters.leaves.there.0 in omega (arith, l)
no_step old (Event.Expire i h) new outs (node, expires, is) = let l = expires.leaves.there.0 in omega (arith, l)
no_step old (Event.Grab w) new outs (lost, grabs, is) = let l = grabs.there in omega (arith, l)
no_step old (Event.Done w) new outs (a, e, does, is) = let l = does.job.there in omega (arith, l)
no_step old (Event.Fail w took) new outs (a, e, fails, is) = let l = fails.job.there in omega (arith, l)
no_step old (Event.GiveUp w took) new outs (a, e, gives, is) = let l = gives.job.there in omega (arith, l)
no_step old (Event.Post w) new outs (l, node, lost, posts, is) = let m = posts.job.there in omega (arith, m)
no_step old (Event.PostLost w no_memory) new outs (l, e, loses, is) = let m = loses.job.there in omega (arith, m)

pub whole_in : (relays : List Relay) (r : ℕ) → All (λ relay. IsWhole relay.plan) relays
    → IfSome (slice_get relays r) (λ relay. IsWhole relay.plan)
whole_in [] r all = tt
whole_in (x ∷ relays) ℕ.zero all = all_first (λ (relay : Relay). IsWhole relay.plan) x relays all
whole_in (x ∷ relays) (ℕ.suc r) all = whole_in relays r (all_later (λ (relay : Relay). IsWhole relay.plan) x relays all)

-- what leaves a relay makes no copy
pub push_outs_copies : (s : SiteState) (r : ℕ) (outs : List Out) → (push_outs s r outs).copies ≡ s.copies
push_outs_copies s r [] = refl
push_outs_copies s r (Out.Passed a e ∷ outs) =
    let d : SiteAction = record { relay = r; action = a } in
    push_outs_copies (record s { passed = with_passed s.passed d (s.passed d ++ e.tag ∷ []) }) r outs
push_outs_copies s r (Out.Lost cause e ∷ outs) =
    push_outs_copies (record s { losses = s.losses ++ record { copy = e.tag; relay = r; list = e.list; cause = cause } ∷ [] }) r outs

-- The example's site is sound.
use Rattle.std.proofs.Common.{◌≡◌, ℕ, ◌<◌, true, false, [], ◌∷◌, refl, sym, subst, ap, arith, inl, inr, Some}
use Rattle.std.specs.Prelude.{◌⊎◌, slice_get}
use Rattle.std.specs.List.{Contains}
use Rattle.std.proofs.lemmas.List.Elements.{All-from_recursion}
use Rattle.sy_wire.specs.declared.class.Class.{Class}
use Rattle.sy_rules.specs.declared.lists.occurrence.Occurrence.TheVariants as occurrence
use Rattle.sy_board.specs.relay.Plans.{retry_at}
use Rattle.sy_board.specs.relay.Spares.{Scope}
use Rattle.sy_site.specs.Sites.{SiteAction, SiteInput, archives, is_protected, target}
use Rattle.sy_site.specs.machine.Examples.{audit, copying, copying_plan, edge_input, example_site, hub_input, mirror_input, up, waiting_plan}
use Rattle.sy_site.specs.machine.Findings.{HoldsAt, Kind}
use Rattle.sy_site.specs.machine.Reach.{LeadsTo, MayDo, MustDo, Reach, Reaches, entry, forwards, leads_on, list_of, onward, posts, posts_on, writes}
use Rattle.sy_site.specs.machine.Soundness.{IsSoundFor}
use Rattle.sy_site.proofs.machine.Lawful.{named_by}
use Rattle.sy_site.proofs.machine.Spread.{some_same}

run_same : (a b : ℕ) → Some (occurrence.Run a) ≡ Some (occurrence.Run b) → b ≡ a
run_same a b e = cc

post_same : (a b : ℕ) → Some (occurrence.Post a) ≡ Some (occurrence.Post b) → b ≡ a
post_same a b e = cc

-- a list of one post, and of one run
pub only_post : (l number list : ℕ) → slice_get (occurrence.Post l ∷ []) number ≡ Some (occurrence.Post list) → list ≡ l
only_post l ℕ.zero list e = post_same l list e
only_post l (ℕ.suc k) list e = absurd (cc)

pub post_runs_not : (l number action : ℕ) → slice_get (occurrence.Post l ∷ []) number ≡ Some (occurrence.Run action) → ⊥
post_runs_not l ℕ.zero action e = absurd (cc)
post_runs_not l (ℕ.suc k) action e = absurd (cc)

pub only_run : (number action : ℕ) → slice_get (occurrence.Run 0 ∷ []) number ≡ Some (occurrence.Run action) → action ≡ 0
only_run ℕ.zero action e = run_same 0 action e
only_run (ℕ.suc k) action e = cc

pub run_posts_not : (number list : ℕ) → slice_get (occurrence.Run 0 ∷ []) number ≡ Some (occurrence.Post list) → ⊥
run_posts_not ℕ.zero list e = absurd (cc)
run_posts_not (ℕ.suc k) list e = absurd (cc)

pub mixed_runs : (number action : ℕ) → slice_get (occurrence.Run 0 ∷ occurrence.Post 1 ∷ []) number ≡ Some (occurrence.Run action) → action ≡ 0
mixed_runs ℕ.zero action e = run_same 0 action e
mixed_runs (ℕ.suc ℕ.zero) action e = absurd (cc)
mixed_runs (ℕ.suc (ℕ.suc k)) action e = absurd (cc)

mixed_posts : (number list : ℕ) → slice_get (occurrence.Run 0 ∷ occurrence.Post 1 ∷ []) number ≡ Some (occurrence.Post list) → list ≡ 1
mixed_posts ℕ.zero list e = absurd (cc)
mixed_posts (ℕ.suc ℕ.zero) list e = post_same 1 list e
mixed_posts (ℕ.suc (ℕ.suc k)) list e = absurd (cc)

copy_runs : (number action : ℕ) → slice_get (occurrence.Run 1 ∷ []) number ≡ Some (occurrence.Run action) → action ≡ 1
copy_runs ℕ.zero action e = run_same 1 action e
copy_runs (ℕ.suc k) action e = absurd (cc)

copy_posts_not : (number list : ℕ) → slice_get (occurrence.Run 1 ∷ []) number ≡ Some (occurrence.Post list) → ⊥
copy_posts_not ℕ.zero list e = absurd (cc)
copy_posts_not (ℕ.suc k) list e = absurd (cc)

pub only_audit_is_named : (class : Class) (archive : SiteAction) → Contains (archives example_site class) archive → archive ≡ audit
only_audit_is_named class archive named =
    named_by (λ z. z ≡ audit) [] example_site.protections class
    (All-from_recursion (λ p. p.archive ≡ audit) example_site.protections (refl, tt)) archive named

pub the_entry : (p : SiteInput) → Contains (edge_input ∷ []) p → p ≡ edge_input
the_entry p (ℕ.zero, l, is) = sym is
the_entry p (ℕ.suc k, l, is) = absurd (omega (arith, l))

pub no_retry : (action retry : ℕ) → retry_at waiting_plan action ≡ Some retry → ⊥
no_retry ℕ.zero retry e = absurd (cc)
no_retry (ℕ.suc k) retry e = absurd (cc)

module _ (class : Class) (scope : Scope) where
  from_own : (number : ℕ) (to : SiteInput) → Reaches example_site class scope 0 2 number to → to ≡ hub_input
  from_own number to (forwards at action does leads) =
      let here : target example_site up ≡ Some to = subst (λ a. target example_site (record { relay = 0; action = a }) ≡ Some to)
      (only_run at action does.found) leads in
      sym (some_same here)
  from_own number to (posts at inner next does r) = absurd (run_posts_not at inner does.found)

  from_edge : (number : ℕ) (to : SiteInput) → Reaches example_site class scope 0 1 number to → to ≡ hub_input
  from_edge number to (forwards at action does leads) = absurd (post_runs_not 2 at action does.found)
  from_edge number to (posts at inner next does r) =
      from_own next to (subst (λ l. Reaches example_site class scope 0 l next to) (only_post 2 at inner does.found) r)

  from_copy : (number : ℕ) (to : SiteInput) → Reaches example_site class scope 1 1 number to → to ≡ mirror_input
  from_copy number to (forwards at action does leads) =
      let here : target example_site copying ≡ Some to = subst (λ a. target example_site (record { relay = 1; action = a }) ≡ Some to)
      (copy_runs at action does.found) leads in
      sym (some_same here)
  from_copy number to (posts at inner next does r) = absurd (copy_posts_not at inner does.found)

  from_hub : (number : ℕ) (to : SiteInput) → Reaches example_site class scope 1 0 number to
      → (to ≡ mirror_input) × ((at : ℕ) × MayDo example_site class scope 1 0 at (occurrence.Post 1))
  from_hub number to (forwards at action does leads) =
      let here : target example_site audit ≡ Some to = subst (λ a. target example_site (record { relay = 1; action = a }) ≡ Some to)
      (mixed_runs at action does.found) leads in
      absurd (cc)
  from_hub number to (posts at inner next does r) =
      let e = mixed_posts at inner does.found in (
        from_copy next to (subst (λ l. Reaches example_site class scope 1 l next to) e r),
        (at, subst (λ l. MayDo example_site class scope 1 0 at (occurrence.Post l)) e does),
      )

  from_mirror : (number : ℕ) (to : SiteInput) → Reaches example_site class scope 2 0 number to → ⊥
  from_mirror number to (forwards at action does leads) =
      let here : target example_site (record { relay = 2; action = 0 }) ≡ Some to
      = subst (λ a. target example_site (record { relay = 2; action = a }) ≡ Some to) (only_run at action does.found) leads in
      absurd (cc)
  from_mirror number to (posts at inner next does r) = absurd (run_posts_not at inner does.found)

module _ (class : Class) where
  -- what an input reaches, where it is that one
  moved : (scope : Scope) (from other : SiteInput) (number : ℕ) (to : SiteInput) → from ≡ other
      → Reaches example_site class scope from.relay (list_of example_site from) number to
      → Reaches example_site class scope other.relay (list_of example_site other) number to
  moved scope from other number to e r =
      subst (λ (z : SiteInput). Reaches example_site class scope z.relay (list_of example_site z) number to) e r

  onward_from : (from to : SiteInput) (number : ℕ) → (from ≡ edge_input) ⊎ ((from ≡ hub_input) ⊎ (from ≡ mirror_input))
      → Reaches example_site class Scope.Every from.relay (list_of example_site from) number to
      → ((from ≡ edge_input) × (to ≡ hub_input)) ⊎ ((from ≡ hub_input) × (to ≡ mirror_input))
  onward_from from to number (inl e) r =
      inl (e, from_edge class Scope.Every number to (moved Scope.Every from _ number to e r))
  onward_from from to number (inr (inl e)) r =
      inr (e, (from_hub class Scope.Every number to (moved Scope.Every from _ number to e r)).0)
  onward_from from to number (inr (inr e)) r =
      absurd (from_mirror class Scope.Every number to (moved Scope.Every from _ number to e r))

  reached : (p : SiteInput) → Reach example_site class Scope.Every p → (p ≡ edge_input) ⊎ ((p ≡ hub_input) ⊎ (p ≡ mirror_input))
  reached p (entry is) = inl (the_entry p is)
  reached p (onward {from} number before goes) = elim (onward_from from p number (reached from before) goes) [
    | inl h ↦ inr (inl h.1)
    | inr h ↦ inr (inr h.1)
  ]

  -- the post to the spare action's own list is spare
  pub hub_post : (number to : ℕ) → MayDo example_site class Scope.Firm 1 0 number (occurrence.Post to) → ⊥
  hub_post number to does =
      let here = subst (λ l. MayDo example_site class Scope.Firm 1 0 number (occurrence.Post l)) (mixed_posts number to does.found) does in
      let f : true ≡ false = here.in_scope in absurd (cc)

  firm_from : (from to : SiteInput) (number : ℕ) → (from ≡ edge_input) ⊎ (from ≡ hub_input)
      → Reaches example_site class Scope.Firm from.relay (list_of example_site from) number to → to ≡ hub_input
  firm_from from to number (inl e) r =
      from_edge class Scope.Firm number to (moved Scope.Firm from _ number to e r)
  firm_from from to number (inr e) r =
      let h = from_hub class Scope.Firm number to (moved Scope.Firm from _ number to e r) in
      absurd (hub_post h.1.0 1 h.1.1)

  firm : (p : SiteInput) → Reach example_site class Scope.Firm p → (p ≡ edge_input) ⊎ (p ≡ hub_input)
  firm p (entry is) = inl (the_entry p is)
  firm p (onward {from} number before goes) = inr (firm_from from p number (firm from before) goes)

  pub keeps_trying : (action retry : ℕ) → action ≡ 0 → retry_at copying_plan action ≡ Some retry → ⊥
  keeps_trying action retry e r = let f : retry_at copying_plan 0 ≡ Some retry = subst (λ a. retry_at copying_plan a ≡ Some retry) e r in absurd (cc)

  abbrev rank : ℕ → ℕ
  rank ℕ.zero = 2
  rank (ℕ.suc ℕ.zero) = 1
  rank (ℕ.suc (ℕ.suc k)) = 0

  falls : (from to : SiteInput) → ((from ≡ edge_input) × (to ≡ hub_input)) ⊎ ((from ≡ hub_input) × (to ≡ mirror_input))
      → rank to.relay < rank from.relay
  falls from to (inl h) =
      let low : rank to.relay ≡ 1 = ap (λ (z : SiteInput). rank z.relay) h.1 in
      let high : rank from.relay ≡ 2 = ap (λ (z : SiteInput). rank z.relay) h.0 in
      omega (arith, low, high)
  falls from to (inr h) =
      let low : rank to.relay ≡ 0 = ap (λ (z : SiteInput). rank z.relay) h.1 in
      let high : rank from.relay ≡ 1 = ap (λ (z : SiteInput). rank z.relay) h.0 in
      omega (arith, low, high)

  must_out : MustDo example_site class 0 1 0 (occurrence.Post 2)
  must_out = record { must = λ v admitted. refl; found = refl; firm = refl }

  must_up : MustDo example_site class 0 2 0 (occurrence.Run 0)
  must_up = record { must = λ v admitted. refl; found = refl; firm = refl }

  must_hub : MustDo example_site class 1 0 0 (occurrence.Run 0)
  must_hub = record { must = λ v admitted. refl; found = refl; firm = refl }

  edge_leads : LeadsTo example_site class audit edge_input
  edge_leads = posts_on 0 2 must_out (leads_on 0 0 hub_input must_up refl (writes 0 0 must_hub refl))

  pub sound_for : ((kind : Kind) → HoldsAt example_site class edge_input kind → ⊥)
      → ((kind : Kind) → HoldsAt example_site class hub_input kind → ⊥) → IsSoundFor example_site class
  sound_for edge_clean hub_clean = record {
    clean = λ p k kind. elim (firm p k) [
      | inl e ↦ λ h. edge_clean kind (subst (λ z. HoldsAt example_site class z kind) e h)
      | inr e ↦ λ h. hub_clean kind (subst (λ z. HoldsAt example_site class z kind) e h)
    ];
    rank = rank;
    ranks = record { falls = λ from to number k goes. falls from to (onward_from from to number (reached from k) goes) };
    leads = λ p is a named.
        subst (λ z. LeadsTo example_site class z p)
        (sym (only_audit_is_named class a named))
        (subst (LeadsTo example_site class audit) (sym (the_entry p is)) edge_leads);
  }

-- it protects auth.crit
pub auth_is_protected : (class : Class) → class.facility ≡ 4 → class.severity ≡ 2 → is_protected example_site class ≡ true
auth_is_protected class f s = rw (f, s) refl

pub audit_is_named : (class : Class) → class.facility ≡ 4 → class.severity ≡ 2 → Contains (archives example_site class) audit
audit_is_named class f s = rw (f, s) (0, omega arith, refl)

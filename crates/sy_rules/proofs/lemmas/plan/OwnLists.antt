-- The own lists of actions.
use Rattle.std.proofs.Common.{◌≡◌, ℕ, zero, suc, ◌<◌, ◌≤◌, Bool, true, false, if◌then◌else◌, List, [], ◌∷◌, Option, Some, None, length, map, get_or, refl, sym, subst, ap, ◌∙◌, leb-true, leb-false, arith}
use Rattle.std.specs.Prelude.{IfNone, IfSome, nat_le, slice_get}
use Rattle.std.proofs.lemmas.Bool.Decides.{nat_tests}
use Rattle.std.proofs.lemmas.List.{length-map}
use Rattle.sy_rules.specs.declared.lists.occurrence.Occurrence.{Occurrence}
use Rattle.sy_rules.specs.declared.lists.occurrence.Occurrence.TheVariants as occurrence
use Rattle.sy_rules.specs.declared.plan.Plan.TheInside.{Inside}
use Rattle.sy_rules.specs.internal.PlanInside.{IsKept, plan_of}
use Rattle.sy_rules.specs.lists.Body.{Body, occurrences}
use Rattle.sy_rules.specs.PlanValue.{Listed, Plan}
use Rattle.sy_rules.specs.Whole.{body_at, body_in, owner_at, runs_alone}

one_run : (body : Body) (action : ℕ) → runs_alone body ≡ Some action → body ≡ Body.Run action Body.End
one_run Body.End action e = absurd (cc)
one_run (Body.Run a Body.End) action e = cc
one_run (Body.Run a (Body.Run b rest)) action e = absurd (cc)
one_run (Body.Run a (Body.Post l rest)) action e = absurd (cc)
one_run (Body.Run a (Body.Stop rest)) action e = absurd (cc)
one_run (Body.Run a (Body.If x done otherwise rest)) action e = absurd (cc)
one_run (Body.Post l rest) action e = absurd (cc)
one_run (Body.Stop rest) action e = absurd (cc)
one_run (Body.If x done otherwise rest) action e = absurd (cc)

chosen : (b : Bool) (found : Option ℕ) (action : ℕ) → (if b then None else found) ≡ Some action → found ≡ Some action
chosen true found action e = absurd (cc)
chosen false found action e = e

-- a text that runs an action alone has no other occurrence
pub occurs_alone : (body : Body) (action : ℕ) → runs_alone body ≡ Some action → occurrences body ≡ occurrence.Run action ∷ []
occurs_alone body action e = ap occurrences (one_run body action e)

-- an action's own list runs it alone
pub owner_runs : (plan : Plan) (list action : ℕ) → owner_at plan list ≡ Some action → runs_alone (body_at plan list) ≡ Some action
owner_runs plan list action e = chosen (nat_le list plan.rulesets) (runs_alone (body_at plan list)) action e

-- ---- what the code looks up

above : (a b : ℕ) → b < a → nat_le a b ≡ false
above a b l = grind (arith, nat_tests)

pub owned : (plan : Plan) (list : ℕ) → plan.rulesets < list → owner_at plan list ≡ runs_alone (body_at plan list)
owned plan list l =
    subst (λ b. (if b then None else runs_alone (body_at plan list)) ≡ runs_alone (body_at plan list)) (sym (above list plan.rulesets l)) refl

past : (lists : List Listed) (list : ℕ) → length lists ≤ list → runs_alone (body_in (slice_get lists list)) ≡ None
past [] list l = refl
past (x ∷ lists) zero l = absurd (omega (arith, l))
past (x ∷ lists) (suc list) l = past lists list (omega (arith, l))

no_value : (n : ℕ) → None ≡ Some n → ⊥
no_value n e = cc

-- a list with an owner is there, and behind those of the rulesets
pub owned_within : (plan : Plan) (list action : ℕ) → owner_at plan list ≡ Some action → (plan.rulesets < list) × (list < length plan.lists)
owned_within plan list action e = (
  behind (nat_le list plan.rulesets) refl e,
  before (nat_le (suc list) (length plan.lists)) refl (owner_runs plan list action e),
)
  where
    behind : (b : Bool) → nat_le list plan.rulesets ≡ b → (if b then None else runs_alone (body_at plan list)) ≡ Some action → plan.rulesets < list
    behind true t h = absurd (cc)
    behind false t h = omega (arith, leb-false list plan.rulesets t)

    before : (b : Bool) → nat_le (suc list) (length plan.lists) ≡ b → runs_alone (body_at plan list) ≡ Some action → list < length plan.lists
    before true t h = omega (arith, leb-true (suc list) (length plan.lists) t)
    before false t h =
        let none = past plan.lists list (omega (arith, leb-false (suc list) (length plan.lists) t)) in
        absurd (no_value action (sym none ∙ h))

there : (lists : List Listed) (list : ℕ) (d : List Occurrence) → list < length lists
    → get_or (map (λ l. occurrences l.body) lists) list d ≡ occurrences (body_in (slice_get lists list))
there [] list d l = absurd (omega (arith, l))
there (x ∷ lists) zero d l = refl
there (x ∷ lists) (suc list) d l = there lists list d (omega (arith, l))

one_action : (a b : ℕ) → occurrence.Run a ∷ [] ≡ occurrence.Run b ∷ [] → a ≡ b
one_action a b e = cc

module _ (p : Inside) (kept : IsKept p) (list : ℕ) (above : p.rulesets < list) where
  abbrev lists : List Listed
  lists = (plan_of p).lists

  as_many : length p.occurrences.items ≡ length lists
  as_many = ap length kept.occurrences ∙ length-map lists (λ l. occurrences l.body)

  -- a list that isn't there has no owner
  pub no_owner : length p.occurrences.items ≤ list → owner_at (plan_of p) list ≡ None
  no_owner l = owned (plan_of p) list above ∙ past lists list (omega (arith, l, as_many))

  -- the owner of a list with these occurrences is the action that they run alone
  pub owner_found : (os : List Occurrence) → list < length p.occurrences.items → os ≡ get_or p.occurrences.items list os → (found : Option ℕ)
      → IfSome found (λ action. os ≡ occurrence.Run action ∷ []) → IfNone found ((action : ℕ) → os ≡ occurrence.Run action ∷ [] → ⊥)
      → found ≡ owner_at (plan_of p) list
  owner_found os l is found some none =
      let within : list < length lists = omega (arith, l, as_many) in
      let own = kept.whole.own_lists list above within in
      let occur : os ≡ occurrence.Run own.0 ∷ [] = is ∙ (ap (λ xs. get_or xs list os) kept.occurrences ∙ (there lists list os within
      ∙ occurs_alone (body_at (plan_of p) list) own.0 own.1)) in
      go found some none occur ∙ sym (owned (plan_of p) list above ∙ own.1)
    where
      go : (found : Option ℕ) → IfSome found (λ action. os ≡ occurrence.Run action ∷ []) → IfNone found ((action : ℕ) → os ≡ occurrence.Run action ∷ [] → ⊥)
          → {a : ℕ} → os ≡ occurrence.Run a ∷ [] → found ≡ Some a
      go None some none e = absurd (none _ e)
      go (Some b) some none {a} e = ap (λ n. Some n) (one_action b a (sym some ∙ e))

-- Which queue, action and list an object gives, by the functions that pick them out of the items.
use Rattle.std.proofs.Common.{◌≡◌, ℕ, ◌+◌, Bool, true, false, if◌then◌else◌, List, [], ◌∷◌, ◌++◌, length, Option, Some, None, is_some, refl, sym, ap, ◌∙◌, arith}
use Rattle.std.specs.List.{filter_map}
use Rattle.sy_script.specs.declared.tree.Param.{Param}
use Rattle.sy_rules.specs.declared.parameters.kind.Kind.TheVariants as kind
use Rattle.sy_rules.specs.declared.parameters.objects.ActionParameters.{ActionParameters}
use Rattle.sy_rules.specs.declared.parameters.objects.RulesetParameters.{RulesetParameters}
use Rattle.sy_rules.specs.declared.parameters.settings.QueueParameters.{QueueParameters}
use Rattle.sy_rules.specs.parts.Given.{GivesQueue, HasQueue, IsOwnQueue}
use Rattle.sy_rules.specs.parameters.Objects.{action_of, has_queue, kind_of_action, queue_parameters, ruleset_of}
use Rattle.sy_rules.specs.items.Outline.{Item}
use Rattle.sy_rules.specs.parts.Plans.{action_at, own_queue, queue_after, queue_here, queue_number, ruleset_at}
use Rattle.sy_rules.proofs.lemmas.parts.GivenParts.{counted_none, counted_one}

pub not_both : {A : Type 0} (o : Option A) (a : A) → o ≡ None → o ≡ Some a → ⊥
not_both None a e f = cc
not_both (Some b) a e f = cc

pub same_some : {A : Type 0} (o : Option A) (a b : A) → o ≡ Some a → o ≡ Some b → a ≡ b
same_some o a b e f = some_is (sym e ∙ f)
  where
    some_is : {A : Type 0} {a b : A} → Some a ≡ Some b → a ≡ b
    some_is h = cc

-- ---- queues

if_there : (b : Bool) (p q : QueueParameters) → (if b then Some p else None) ≡ Some q → (b ≡ true) × (q ≡ p)
if_there true p q h = (refl, same_some (Some q) q p refl (sym h))
if_there false p q h = absurd (not_both None q refl h)

then_there : (b : Bool) (p q : QueueParameters) → b ≡ true → q ≡ p → (if b then Some p else None) ≡ Some q
then_there true p q e f = ap (λ r. Some r) (sym f)
then_there false p q e f = cc

pub has_from : (x : Item) (q : QueueParameters) → own_queue x ≡ Some q → HasQueue x q
unfolding ruleset_of action_of
has_from (Item.Ruleset ps) q h = if_there (has_queue kind.Ruleset ps) (queue_parameters kind.Ruleset ps) q h
has_from (Item.Action ps) q h = if_there (has_queue (kind_of_action ps) ps) (queue_parameters (kind_of_action ps) ps) q h
has_from (Item.Object found ps) q h = not_both None q refl h
has_from (Item.Call name) q h = not_both None q refl h
has_from (Item.Test test) q h = not_both None q refl h

pub has_to : (x : Item) (q : QueueParameters) → HasQueue x q → own_queue x ≡ Some q
unfolding ruleset_of action_of
has_to (Item.Ruleset ps) q h = then_there (has_queue kind.Ruleset ps) (queue_parameters kind.Ruleset ps) q h.0 h.1
has_to (Item.Action ps) q h = then_there (has_queue (kind_of_action ps) ps) (queue_parameters (kind_of_action ps) ps) q h.0 h.1
has_to (Item.Object found ps) q h = absurd h
has_to (Item.Call name) q h = absurd h
has_to (Item.Test test) q h = absurd h

pub gives_queue : (before : List Item) (x : Item) (number : ℕ) (q : QueueParameters) → own_queue x ≡ Some q → number ≡ 1 + length (filter_map own_queue before) → GivesQueue before x number q
gives_queue before x number q h e = record { has = has_from x q h; numbered = omega (arith, e) }

pub gives_no_queue : (before : List Item) (x : Item) (n : ℕ) (q : QueueParameters) → own_queue x ≡ None → GivesQueue before x n q → ⊥
gives_no_queue before x n q h g = not_both (own_queue x) q h (has_to x q g.has)

pub same_queue : (before : List Item) (x : Item) (n : ℕ) (p q : QueueParameters) → GivesQueue before x n p → GivesQueue before x n q → p ≡ q
same_queue before x n p q g h = same_some (own_queue x) p q (has_to x p g.has) (has_to x q h.has)

-- the number of the next queue
pub next_number : (before : List Item) (x : Item) → queue_number (before ++ x ∷ []) ≡ queue_after (queue_number before) x
next_number before x = by_case (own_queue x) refl
  where
    by_case : (o : Option QueueParameters) → own_queue x ≡ o → queue_number (before ++ x ∷ []) ≡ (if is_some o then queue_number before + 1 else queue_number before)
    by_case None h = omega (arith, counted_none own_queue before x h)
    by_case (Some q) h = omega (arith, counted_one own_queue before x q h)

-- ---- an object's own queue

pub own_is : (before : List Item) (x : Item) → IsOwnQueue before x (queue_here (queue_number before) x)
own_is before x = by_case (own_queue x) refl
  where
    by_case : (o : Option QueueParameters) → own_queue x ≡ o → IsOwnQueue before x (if is_some o then Some (queue_number before) else None)
    by_case None h = λ n q g. gives_no_queue before x n q h g
    by_case (Some q) h = (q, record { has = has_from x q h; numbered = refl })

pub one_own : (before : List Item) (x : Item) (o : Option ℕ) → IsOwnQueue before x o → o ≡ queue_here (queue_number before) x
one_own before x None h = by_case (own_queue x) refl
  where
    by_case : (o : Option QueueParameters) → own_queue x ≡ o → None ≡ (if is_some o then Some (queue_number before) else None)
    by_case None e = refl
    by_case (Some q) e = absurd (h (queue_number before) q (record { has = has_from x q e; numbered = refl }))
one_own before x (Some n) h =
    ap (λ m. Some m) h.1.numbered ∙ sym (ap (λ o. if is_some o then Some (queue_number before) else None) (has_to x h.0 h.1.has))

-- ---- which object it is

pub ruleset_item : (x : Item) (r : RulesetParameters) → ruleset_at x ≡ Some r → (params : List Param) × (x ≡ Item.Ruleset params) × (r ≡ ruleset_of params)
ruleset_item (Item.Ruleset ps) r h = (ps, refl, same_some (Some r) r (ruleset_of ps) refl (sym h))
ruleset_item (Item.Action ps) r h = absurd (not_both None r refl h)
ruleset_item (Item.Object found ps) r h = absurd (not_both None r refl h)
ruleset_item (Item.Call name) r h = absurd (not_both None r refl h)
ruleset_item (Item.Test test) r h = absurd (not_both None r refl h)

pub action_item : (x : Item) (a : ActionParameters) → action_at x ≡ Some a → (params : List Param) × (x ≡ Item.Action params) × (a ≡ action_of (kind_of_action params) params)
action_item (Item.Action ps) a h = (ps, refl, same_some (Some a) a (action_of (kind_of_action ps) ps) refl (sym h))
action_item (Item.Ruleset ps) a h = absurd (not_both None a refl h)
action_item (Item.Object found ps) a h = absurd (not_both None a refl h)
action_item (Item.Call name) a h = absurd (not_both None a refl h)
action_item (Item.Test test) a h = absurd (not_both None a refl h)

-- the queue of an action, where it has one
abbrev pub queued_at : Item → Option QueueParameters
queued_at (Item.Action ps) = own_queue (Item.Action ps)
queued_at _ = None

pub queued_item : (x : Item) (q : QueueParameters) → queued_at x ≡ Some q → (params : List Param) × (x ≡ Item.Action params) × (own_queue x ≡ Some q)
queued_item (Item.Action ps) q h = (ps, refl, h)
queued_item (Item.Ruleset ps) q h = absurd (not_both None q refl h)
queued_item (Item.Object found ps) q h = absurd (not_both None q refl h)
queued_item (Item.Call name) q h = absurd (not_both None q refl h)
queued_item (Item.Test test) q h = absurd (not_both None q refl h)

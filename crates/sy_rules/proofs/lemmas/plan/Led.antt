-- Each queue of a ruleset or an action is that of exactly one list.
use Rattle.std.proofs.Common.{◌≡◌, inl, inr, ℕ, zero, suc, ◌+◌, ◌≤◌, ◌<◌, ◌==◌, Bool, true, false, if◌then◌else◌, List, [], ◌∷◌, ◌++◌, length, filter_map, slice_get, Option, Some, None, is_some, refl, ap, ◌∙◌, arith, eq-eqb, eqb-true}
use Rattle.std.proofs.lemmas.Bool.{cases_lt, ne_eqb}
use Rattle.std.specs.List.{AllByRecursion, cons_option}
use Rattle.std.specs.Option.{IfSome}
use Rattle.sy_script.specs.declared.tree.ObjectKind.TheVariants as object
use Rattle.sy_rules.specs.declared.parameters.settings.QueueParameters.{QueueParameters}
use Rattle.sy_rules.specs.items.Outline.{Item}
use Rattle.sy_rules.specs.parts.Plans.{own_queue, ruleset_queues, action_queues, list_queues, queues_of}

-- ---- how many lists a queue is that of

abbrev is_of : ℕ → Option ℕ → Bool
is_of queue None = false
is_of queue (Some q) = q == queue

abbrev more_if : Bool → ℕ → ℕ
more_if b n = if b then n + 1 else n

abbrev times : ℕ → List (Option ℕ) → ℕ
times queue [] = 0
times queue (o ∷ os) = more_if (is_of queue o) (times queue os)

more_behind : (b : Bool) (n m k : ℕ) → n ≡ m + k → more_if b n ≡ more_if b m + k
more_behind true n m k e = omega (arith, e)
more_behind false n m k e = e

times-append : (queue : ℕ) (xs ys : List (Option ℕ)) → times queue (xs ++ ys) ≡ times queue xs + times queue ys
times-append queue [] ys = omega arith
times-append queue (x ∷ xs) ys = more_behind (is_of queue x) (times queue (xs ++ ys)) (times queue xs) (times queue ys) (times-append queue xs ys)

-- ---- once: of one list and no other

abbrev pub own : Option (Option ℕ) → Option ℕ
own None = None
own (Some queue) = queue

at_least_one : (queue : ℕ) (o : Option ℕ) (n : ℕ) → o ≡ Some queue → 1 ≤ more_if (is_of queue o) n
at_least_one queue o n e = rw (e, eq-eqb queue queue refl) (omega arith)

no_less : (b : Bool) (n : ℕ) → 1 ≤ n → 1 ≤ more_if b n
no_less true n le = omega (arith, le)
no_less false n le = le

there : (queue : ℕ) (xs : List (Option ℕ)) (l : ℕ) → own (slice_get xs l) ≡ Some queue → 1 ≤ times queue xs
there queue [] l e = cc
there queue (x ∷ xs) zero e = at_least_one queue x (times queue xs) e
there queue (x ∷ xs) (suc l) e = no_less (is_of queue x) (times queue xs) (there queue xs l e)

-- the first of two is one more
both : (queue : ℕ) (o : Option ℕ) (n : ℕ) → o ≡ Some queue → 1 ≤ n → 2 ≤ more_if (is_of queue o) n
both queue o n e le = rw (e, eq-eqb queue queue refl) (omega (arith, le))

rest_at_most : (b : Bool) (n : ℕ) → more_if b n ≤ 1 → n ≤ 1
rest_at_most true n le = omega (arith, le)
rest_at_most false n le = le

pub alone : (queue : ℕ) (xs : List (Option ℕ)) (l m : ℕ) → times queue xs ≤ 1 → own (slice_get xs l) ≡ Some queue → own (slice_get xs m) ≡ Some queue → m ≡ l
alone queue [] l m le e f = cc
alone queue (x ∷ xs) zero zero le e f = refl
alone queue (x ∷ xs) zero (suc m) le e f = absurd (omega (arith, le, both queue x (times queue xs) e (there queue xs m f)))
alone queue (x ∷ xs) (suc l) zero le e f = absurd (omega (arith, le, both queue x (times queue xs) f (there queue xs l e)))
alone queue (x ∷ xs) (suc l) (suc m) le e f = ap suc (alone queue xs l m (rest_at_most (is_of queue x) (times queue xs) le) e f)

abbrev pub Found : ℕ → List (Option ℕ) → Type 0
Found queue xs = (l : ℕ) × (own (slice_get xs l) ≡ Some queue)

found_later : (queue : ℕ) (x : Option ℕ) (xs : List (Option ℕ)) → Found queue xs → Found queue (x ∷ xs)
found_later queue x xs f = (suc f.0, f.1)

pub found : (queue : ℕ) (xs : List (Option ℕ)) → 1 ≤ times queue xs → Found queue xs
found queue [] le = absurd (omega (arith, le))
found queue (None ∷ xs) le = found_later queue None xs (found queue xs le)
found queue (Some q ∷ xs) le = by_case (q == queue) refl (found queue xs) le
  where
    by_case : (b : Bool) → (q == queue) ≡ b → (1 ≤ times queue xs → Found queue xs) → 1 ≤ more_if b (times queue xs) → Found queue (Some q ∷ xs)
    by_case true e later le = (0, ap Some (eqb-true q queue e))
    by_case false e later le = found_later queue (Some q) xs (later le)

-- ---- the lists of rulesets and actions

abbrev next : ℕ → Option QueueParameters → ℕ
next number o = if is_some o then number + 1 else number

module _ (queue : ℕ) (rs acts : ℕ → List (Option ℕ)) (low : (n : ℕ) → queue < n → times queue (rs n) + times queue (acts n) ≡ 0) where
  ruleset_low : (number : ℕ) (o : Option QueueParameters) → queue < number
      → times queue ((if is_some o then Some number else None) ∷ rs (next number o)) + times queue (acts (next number o)) ≡ 0
  ruleset_low number None lt = low number lt
  ruleset_low number (Some q) lt = rw (ne_eqb number queue (λ e. absurd (omega (arith, e, lt)))) (low (number + 1) (omega (arith, lt)))

  action_low : (number : ℕ) (o : Option QueueParameters) → queue < number
      → times queue (rs (next number o)) + times queue (if is_some o then Some number ∷ acts (next number o) else acts (next number o)) ≡ 0
  action_low number None lt = low number lt
  action_low number (Some q) lt = rw (ne_eqb number queue (λ e. absurd (omega (arith, e, lt)))) (low (number + 1) (omega (arith, lt)))

  module _ (rest : List QueueParameters) (once : (n : ℕ) → n ≤ queue → queue < n + length rest → times queue (rs n) + times queue (acts n) ≡ 1) where
    ruleset_once : (number : ℕ) (o : Option QueueParameters) → number ≤ queue → queue < number + length (cons_option o rest)
        → times queue ((if is_some o then Some number else None) ∷ rs (next number o)) + times queue (acts (next number o)) ≡ 1
    ruleset_once number None le lt = once number le lt
    ruleset_once number (Some q) le lt =
        elim (cases_lt number queue) [
          | inl above ↦ rw (ne_eqb number queue (λ e. absurd (omega (arith, e, above)))) (once (number + 1) (omega (arith, above)) (omega (arith, lt)))
          | inr same ↦ rw (eq-eqb number queue (omega (arith, le, same))) (omega (arith, low (number + 1) (omega (arith, same))))
        ]

    action_once : (number : ℕ) (o : Option QueueParameters) → number ≤ queue → queue < number + length (cons_option o rest)
        → times queue (rs (next number o)) + times queue (if is_some o then Some number ∷ acts (next number o) else acts (next number o)) ≡ 1
    action_once number None le lt = once number le lt
    action_once number (Some q) le lt =
        elim (cases_lt number queue) [
          | inl above ↦ rw (ne_eqb number queue (λ e. absurd (omega (arith, e, above)))) (once (number + 1) (omega (arith, above)) (omega (arith, lt)))
          | inr same ↦ rw (eq-eqb number queue (omega (arith, le, same))) (omega (arith, low (number + 1) (omega (arith, same))))
        ]

-- queues before these items' are of none of their lists
low : (queue : ℕ) (items : List Item) (number : ℕ) → queue < number → times queue (ruleset_queues number items) + times queue (action_queues number items) ≡ 0
low queue [] number lt = omega arith
low queue (Item.Ruleset ps ∷ items) number lt = ruleset_low queue (λ n. ruleset_queues n items) (λ n. action_queues n items) (low queue items) number (own_queue (Item.Ruleset ps)) lt
low queue (Item.Action ps ∷ items) number lt = action_low queue (λ n. ruleset_queues n items) (λ n. action_queues n items) (low queue items) number (own_queue (Item.Action ps)) lt
low queue (Item.Object object.Input ps ∷ items) number lt = low queue items number lt
low queue (Item.Object object.MainQueue ps ∷ items) number lt = low queue items number lt
low queue (Item.Object object.Module ps ∷ items) number lt = low queue items number lt
low queue (Item.Object object.Global ps ∷ items) number lt = low queue items number lt
low queue (Item.Call name ∷ items) number lt = low queue items number lt
low queue (Item.Test test ∷ items) number lt = low queue items number lt

-- each of theirs is of one
once : (queue : ℕ) (items : List Item) (number : ℕ) → number ≤ queue → queue < number + length (filter_map own_queue items) → times queue (ruleset_queues number items) + times queue (action_queues number items) ≡ 1
once queue [] number le lt = absurd (omega (arith, le, lt))
once queue (Item.Ruleset ps ∷ items) number le lt =
    ruleset_once queue (λ n. ruleset_queues n items) (λ n. action_queues n items) (low queue items) (filter_map own_queue items) (once queue items) number (own_queue (Item.Ruleset ps)) le lt
once queue (Item.Action ps ∷ items) number le lt =
    action_once queue (λ n. ruleset_queues n items) (λ n. action_queues n items) (low queue items) (filter_map own_queue items) (once queue items) number (own_queue (Item.Action ps)) le lt
once queue (Item.Object object.Input ps ∷ items) number le lt = once queue items number le lt
once queue (Item.Object object.MainQueue ps ∷ items) number le lt = once queue items number le lt
once queue (Item.Object object.Module ps ∷ items) number le lt = once queue items number le lt
once queue (Item.Object object.Global ps ∷ items) number le lt = once queue items number le lt
once queue (Item.Call name ∷ items) number le lt = once queue items number le lt
once queue (Item.Test test ∷ items) number le lt = once queue items number le lt

-- ---- all lists

pub once_listed : (all : List Item) (queue : ℕ) → 1 ≤ queue → queue < length (queues_of all) → times queue (list_queues all) ≡ 1
once_listed all queue le lt = times-append queue (ruleset_queues 1 all) (action_queues 1 all) ∙ once queue all 1 le (omega (arith, lt))

main_never : (all : List Item) → times 0 (list_queues all) ≡ 0
main_never all = times-append 0 (ruleset_queues 1 all) (action_queues 1 all) ∙ low 0 all 1 (omega arith)

abbrev pub IsInner : Option ℕ → Type 0
IsInner o = IfSome o (λ queue. 1 ≤ queue)

inner_by_count : (xs : List (Option ℕ)) → times 0 xs ≡ 0 → AllByRecursion IsInner xs
inner_by_count [] e = tt
inner_by_count (None ∷ xs) e = (tt, inner_by_count xs e)
inner_by_count (Some q ∷ xs) e = by_case (q == 0) refl (inner_by_count xs) e
  where
    above : (q : ℕ) → (q == 0) ≡ false → 1 ≤ q
    above zero is = cc
    above (suc q) is = omega arith

    by_case : (b : Bool) → (q == 0) ≡ b → (times 0 xs ≡ 0 → AllByRecursion IsInner xs) → more_if b (times 0 xs) ≡ 0 → IsInner (Some q) × AllByRecursion IsInner xs
    by_case true is later e = absurd (omega (arith, e))
    by_case false is later e = (above q is, later e)

-- no list has the main queue for its own
pub lists_are_inner : (all : List Item) → AllByRecursion IsInner (list_queues all)
lists_are_inner all = inner_by_count (list_queues all) (main_never all)

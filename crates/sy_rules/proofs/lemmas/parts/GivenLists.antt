-- The lists that rulesets and actions give are those of the plan's definitions.
use Rattle.std.proofs.Common.{◌≡◌, ℕ, zero, suc, ◌+◌, ◌-◌, ◌<◌, Bool, true, false, if◌then◌else◌, List, [], ◌∷◌, ◌++◌, length, take, slice_get, Option, Some, None, is_some, refl, sym, ap, ◌∙◌, subst, append_assoc, arith}
use Rattle.std.proofs.Math.Seq.{take-append_seam}
use Rattle.std.proofs.lemmas.List.Elements.{filter_map-append}
use Rattle.std.specs.List.{cons_option, filter_map}
use Rattle.sy_script.specs.declared.tree.Param.{Param}
use Rattle.sy_script.specs.declared.tree.Script.{Script}
use Rattle.sy_select.specs.declared.condition.Test.{Test}
use Rattle.sy_select.specs.Truth.{Formula}
use Rattle.sy_rules.specs.Limits.{CALL_DEPTH}
use Rattle.sy_rules.specs.declared.parameters.objects.ActionParameters.{ActionParameters}
use Rattle.sy_rules.specs.declared.parameters.objects.RulesetParameters.{RulesetParameters}
use Rattle.sy_rules.specs.declared.parameters.settings.QueueParameters.{QueueParameters}
use Rattle.sy_rules.specs.parts.Given.{Given, GivesActionList, GivesRulesetList, Listed}
use Rattle.sy_rules.specs.lists.Lines.{Lines, expanded, action_has_queue, inside, list_at, list_of_action, queued, singles, body_of}
use Rattle.sy_rules.specs.parameters.Objects.{action_of, kind_of_action, ruleset_of}
use Rattle.sy_rules.specs.items.Outline.{Item, items}
use Rattle.sy_rules.specs.parts.Plans.{action_at, action_queues, actions_of, is_queued_action, is_ruleset, own_queue, queue_after, queue_here, queue_number, ruleset_at, ruleset_queues, rulesets_of}
use Rattle.sy_rules.specs.PlanValue.{file_of, lines_of, listed_from}
use Rattle.sy_rules.specs.lists.Body.{Body}
use Rattle.sy_rules.specs.lists.Texts.{parts}
use Rattle.sy_rules.proofs.lemmas.parts.GivenItems.{has_from, has_to, next_number, not_both, one_own, own_is, queued_at, queued_item, ruleset_item}
use Rattle.sy_rules.proofs.lemmas.parts.GivenParts.{all_given, collected, counted_none, counted_one, pushed}
use Rattle.sy_rules.proofs.lemmas.items.RulesetItems.{as_many_rulesets}

abbrev listed : Body → Option ℕ → Listed
listed body queue = record { body = body; queue = queue }

same_listed : (p q : Listed) → p.body ≡ q.body → p.queue ≡ q.queue → p ≡ q
same_listed p q e f = ap (λ s. record p { body = s }) e ∙ ap (λ o. record q { queue = o }) f

-- ---- those of rulesets

abbrev ruleset_part : List Lines → List Item → Item → ℕ → RulesetParameters → Listed
ruleset_part lines before x number r = listed (body_of lines number) (queue_here (queue_number before) x)

gives_ruleset : (lines : List Lines) (before : List Item) (x : Item) (number : ℕ) (r : RulesetParameters) → ruleset_at x ≡ Some r → number ≡ 1 + length (rulesets_of before) → GivesRulesetList lines before x number (ruleset_part lines before x number r)
gives_ruleset lines before x number r h e =
    let i = ruleset_item x r h in
    record { params = i.0; found = i.1; numbered = e; body = refl; queue = own_is before x }

gives_no_ruleset : (lines : List Lines) (before : List Item) (x : Item) (n : ℕ) (l : Listed) → ruleset_at x ≡ None → GivesRulesetList lines before x n l → ⊥
gives_no_ruleset lines before x n l h g = not_both (ruleset_at x) (ruleset_of g.params) h (ap ruleset_at g.found)

pub same_ruleset_list : (lines : List Lines) (before : List Item) (x : Item) (n : ℕ) (p q : Listed) → GivesRulesetList lines before x n p → GivesRulesetList lines before x n q → p ≡ q
same_ruleset_list lines before x n p q g h =
    same_listed p q (g.body ∙ sym h.body) (one_own before x p.queue g.queue ∙ sym (one_own before x q.queue h.queue))

as_ruleset : (x : Item) → is_some (ruleset_at x) ≡ is_ruleset x
as_ruleset (Item.Ruleset ps) = refl
as_ruleset (Item.Action ps) = refl
as_ruleset (Item.Object found ps) = refl
as_ruleset (Item.Call name) = refl
as_ruleset (Item.Test test) = refl

push_listed : (lines : List Lines) (number : ℕ) (own : Option ℕ) (rest : List (Option ℕ)) {A : Type 0} (o : Option A) (same next : List Listed) → same ≡ listed_from lines number rest → next ≡ listed_from lines (number + 1) rest → pushed o (λ a. listed (body_of lines number) own) same next ≡ listed_from lines number (if is_some o then own ∷ rest else rest)
push_listed lines number own rest None same next e f = e
push_listed lines number own rest (Some a) same next e f = ap (λ ls. listed (body_of lines number) own ∷ ls) f

rulesets_listed : (lines : List Lines) (number : ℕ) (before later : List Item) → collected ruleset_at (ruleset_part lines) number before later ≡ listed_from lines number (ruleset_queues (queue_number before) later)
rulesets_listed lines number before [] = refl
rulesets_listed lines number before (x ∷ later) =
    let rest = ruleset_queues (queue_after (queue_number before) x) later in
    let own = queue_here (queue_number before) x in
    push_listed lines number own rest (ruleset_at x) _ _
    (rulesets_listed lines number (before ++ x ∷ []) later ∙ ap (λ n. listed_from lines number (ruleset_queues n later)) (next_number before x))
    (rulesets_listed lines (number + 1) (before ++ x ∷ []) later ∙ ap (λ n. listed_from lines (number + 1) (ruleset_queues n later)) (next_number before x))
    ∙ ap (λ b. listed_from lines number (if b then own ∷ rest else rest)) (as_ruleset x)

pub rulesets_given : (lines : List Lines) (all : List Item) → Given (GivesRulesetList lines) 1 [] all (listed_from lines 1 (ruleset_queues 1 all))
rulesets_given lines all =
    subst (Given (GivesRulesetList lines) 1 [] all) (rulesets_listed lines 1 [] all)
    (all_given (GivesRulesetList lines) ruleset_at (ruleset_part lines) 1 all (λ before x number r _. gives_ruleset lines before x number r) (gives_no_ruleset lines) 1 [] all refl (omega arith))

-- ---- the run of an action with a queue

run_expanded : (lists : List Lines) (depth l a : ℕ) → list_at lists l ≡ Lines.Run a Lines.End → expanded lists depth l ≡ Body.Run a Body.End
run_expanded lists zero l a e = rw e refl
run_expanded lists (suc depth) l a e = rw e refl

list_behind : (x : Lines) (xs ys : List Lines) (l k : ℕ) → l ≡ 1 + length xs + k → list_at (x ∷ (xs ++ ys)) l ≡ list_at ys k
list_behind x xs ys zero k e = absurd (omega (arith, e))
list_behind x xs ys (suc l) k e = within xs l (omega (arith, e))
  where
    within : (xs : List Lines) (l : ℕ) → l ≡ length xs + k → list_at (xs ++ ys) l ≡ list_at ys k
    within [] l e =
        let same : l ≡ k = omega (arith, e) in
        rw same refl
    within (y ∷ xs) zero e = absurd (omega (arith, e))
    within (y ∷ xs) (suc l) e = within xs l (omega (arith, e))

single_at : (number : ℕ) (actions : List ActionParameters) (a m : ℕ) → m ≡ number + a → action_has_queue (slice_get actions a) ≡ true → list_at (singles number actions) (queued (take a actions)) ≡ Lines.Run m Lines.End
single_at number [] a m e h = cc
single_at number (x ∷ later) zero m e h = first (is_some x.queue) h
  where
    first : (b : Bool) → b ≡ true → list_at (if b then Lines.Run number Lines.End ∷ singles (number + 1) later else singles (number + 1) later) 0 ≡ Lines.Run m Lines.End
    first true f =
        let same : m ≡ number = omega (arith, e) in
        rw same refl
    first false f = cc
single_at number (x ∷ later) (suc a) m e h = next (is_some x.queue) (single_at (number + 1) later a m (omega (arith, e)) h)
  where
    next : (b : Bool) → list_at (singles (number + 1) later) (queued (take a later)) ≡ Lines.Run m Lines.End → list_at (if b then Lines.Run number Lines.End ∷ singles (number + 1) later else singles (number + 1) later) (if b then queued (take a later) + 1 else queued (take a later)) ≡ Lines.Run m Lines.End
    next true f =
        let more : queued (take a later) + 1 ≡ suc (queued (take a later)) = omega arith in
        rw more f
    next false f = f

-- the run at a place among those of queued actions
record Single (number : ℕ) (actions : List ActionParameters) (runs : List Lines) (k : ℕ) : Type 0 where
  pub action : ℕ
  pub is : list_at runs k ≡ Lines.Run (number + action) Lines.End
  pub has : action_has_queue (slice_get actions action) ≡ true
  pub before : queued (take action actions) ≡ k

-- one stands for each
single_there : (number : ℕ) (actions : List ActionParameters) (k : ℕ) → k < queued actions → Single number actions (singles number actions) k
single_there number [] k le = absurd (omega (arith, le))
single_there number (x ∷ later) k le = by_case (is_some x.queue) refl k (single_there (number + 1) later) le
  where
    by_case : (b : Bool) → is_some x.queue ≡ b → (k : ℕ) → ((j : ℕ) → j < queued later → Single (number + 1) later (singles (number + 1) later) j)
        → k < (if b then queued later + 1 else queued later)
        → Single number (x ∷ later) (if b then Lines.Run number Lines.End ∷ singles (number + 1) later else singles (number + 1) later) k
    by_case true e zero rest le = record {
      action = 0;
      is = ap (λ n. Lines.Run n Lines.End) (omega arith);
      has = e;
      before = refl;
    }
    by_case true e (suc k) rest le =
        let s = rest k (omega (arith, le)) in
        record {
          action = suc s.action;
          is = s.is ∙ ap (λ n. Lines.Run n Lines.End) (omega arith);
          has = s.has;
          before = ap (λ b. if b then queued (take s.action later) + 1 else queued (take s.action later)) e ∙ omega (arith, s.before);
        }
    by_case false e k rest le =
        let s = rest k le in
        record {
          action = suc s.action;
          is = s.is ∙ ap (λ n. Lines.Run n Lines.End) (omega arith);
          has = s.has;
          before = ap (λ b. if b then queued (take s.action later) + 1 else queued (take s.action later)) e ∙ s.before;
        }

-- Each list behind those of the rulesets is one that a queued action posts to, and runs that action alone.
pub record IsOwnList (script : Script) (tests : List (Formula Test)) (list : ℕ) : Type 0 where
  pub action : ℕ
  pub body : body_of (lines_of script tests) list ≡ Body.Run action Body.End
  pub has : action_has_queue (slice_get (actions_of (items script)) action) ≡ true
  pub is : list ≡ list_of_action (file_of (items script) tests) action

pub own_list : (script : Script) (tests : List (Formula Test)) (list : ℕ) → length (rulesets_of (items script)) < list
    → list < 1 + length (rulesets_of (items script)) + queued (actions_of (items script)) → IsOwnList script tests list
own_list script tests list le most =
    let all = items script in
    let file = file_of all tests in
    let many = as_many_rulesets file 0 0 script.tops in
    let k = list - (1 + length (rulesets_of all)) in
    let single = single_there 0 (actions_of all) k (omega (arith, le, most)) in
    record {
      action = single.action;
      body = run_expanded (lines_of script tests) CALL_DEPTH list single.action
          (list_behind _ (inside file 0 0 (parts script.tops)) (singles 0 (actions_of all)) list k (omega (arith, le, many))
          ∙ (single.is ∙ ap (λ n. Lines.Run n Lines.End) (omega arith)));
      has = single.has;
      is = omega (arith, single.before, le);
    }

-- The list that a queued action posts to runs that action alone.
pub post_runs : (script : Script) (tests : List (Formula Test)) (number : ℕ) → action_has_queue (slice_get (actions_of (items script)) number) ≡ true → body_of (lines_of script tests) (list_of_action (file_of (items script) tests) number) ≡ Body.Run number Body.End
post_runs script tests number h =
    let all = items script in
    let file = file_of all tests in
    let many = as_many_rulesets file 0 0 script.tops in
    run_expanded (lines_of script tests) CALL_DEPTH (list_of_action file number) number
    (list_behind _ (inside file 0 0 (parts script.tops)) (singles 0 (actions_of all)) (list_of_action file number) (queued (take number (actions_of all))) (omega (arith, many))
    ∙ single_at 0 (actions_of all) number number (omega arith) h)

-- ---- those of actions

abbrev action_list_part : List Item → Item → ℕ → QueueParameters → Listed
action_list_part before x number q = listed (Body.Run (length (actions_of before)) Body.End) (Some (queue_number before))

-- the queued actions among items
pub count_queued : (before : List Item) → length (filter_map queued_at before) ≡ queued (actions_of before)
count_queued [] = refl
count_queued (Item.Action ps ∷ before) = by_case (own_queue (Item.Action ps)) (filter_map queued_at before) (queued (actions_of before)) (count_queued before)
  where
    by_case : (o : Option QueueParameters) (xs : List QueueParameters) (n : ℕ) → length xs ≡ n → length (cons_option o xs) ≡ (if is_some o then n + 1 else n)
    by_case None xs n e = e
    by_case (Some q) xs n e = omega (arith, e)
count_queued (Item.Ruleset ps ∷ before) = count_queued before
count_queued (Item.Object found ps ∷ before) = count_queued before
count_queued (Item.Call name ∷ before) = count_queued before
count_queued (Item.Test test ∷ before) = count_queued before

gives_action_list : (all before : List Item) (x : Item) (number : ℕ) (q : QueueParameters) → queued_at x ≡ Some q → number ≡ (1 + length (rulesets_of all)) + length (filter_map queued_at before) → GivesActionList all before x number (action_list_part before x number q)
gives_action_list all before x number q h e =
    let i = queued_item x q h in
    record {
      params = i.0;
      found = i.1;
      numbered = omega (arith, e, count_queued before);
      body = refl;
      of_queue = queue_number before;
      parameters = q;
      given = record { has = has_from x q i.2; numbered = refl };
      queue = refl;
    }

gives_no_action_list : (all before : List Item) (x : Item) (n : ℕ) (l : Listed) → queued_at x ≡ None → GivesActionList all before x n l → ⊥
gives_no_action_list all before x n l h g =
    not_both (queued_at x) g.parameters h (ap queued_at g.found ∙ (sym (ap own_queue g.found) ∙ has_to x g.parameters g.given.has))

pub same_action_list : (all before : List Item) (x : Item) (n : ℕ) (p q : Listed) → GivesActionList all before x n p → GivesActionList all before x n q → p ≡ q
same_action_list all before x n p q g h =
    same_listed p q (g.body ∙ sym h.body) (g.queue ∙ (ap (λ m. Some m) (g.given.numbered ∙ sym h.given.numbered) ∙ sym h.queue))

as_queued_action : (x : Item) → is_some (queued_at x) ≡ is_queued_action x
as_queued_action (Item.Action ps) = refl
as_queued_action (Item.Ruleset ps) = refl
as_queued_action (Item.Object found ps) = refl
as_queued_action (Item.Call name) = refl
as_queued_action (Item.Test test) = refl

pub item_at : {A : Type 0} (xs : List A) (x : A) (ys : List A) → slice_get (xs ++ x ∷ ys) (length xs) ≡ Some x
item_at [] x ys = refl
item_at (y ∷ xs) x ys = item_at xs x ys

-- the run of a queued action after these items
run_behind : (script : Script) (tests : List (Formula Test)) (before : List Item) (x : Item) (later : List Item) (q : QueueParameters) (number : ℕ) → items script ≡ before ++ x ∷ later → queued_at x ≡ Some q → number ≡ 1 + length (rulesets_of (items script)) + length (filter_map queued_at before) → body_of (lines_of script tests) number ≡ Body.Run (length (actions_of before)) Body.End
run_behind script tests before x later q number e h n = by_item (queued_item x q h)
  where
    by_item : (params : List Param) × (x ≡ Item.Action params) × (own_queue x ≡ Some q) → body_of (lines_of script tests) number ≡ Body.Run (length (actions_of before)) Body.End
    by_item i =
        let all = items script in
        let a = length (actions_of before) in
        let there : (o : ActionParameters) × (actions_of all ≡ actions_of before ++ o ∷ actions_of later) × (o.queue ≡ Some q) = (
          action_of (kind_of_action i.0) i.0,
          ap actions_of e ∙ (filter_map-append action_at before (x ∷ later) ∙ ap (λ y. actions_of before ++ actions_of (y ∷ later)) i.1),
          sym (ap own_queue i.1) ∙ i.2,
        ) in
        let has : action_has_queue (slice_get (actions_of all) a) ≡ true = ap (λ xs. action_has_queue (slice_get xs a)) there.1 ∙ (ap action_has_queue (item_at (actions_of before) there.0 (actions_of later)) ∙ ap is_some there.2) in
        let before_it : take a (actions_of all) ≡ actions_of before = ap (take a) there.1 ∙ take-append_seam (actions_of before) (there.0 ∷ actions_of later) in
        let same : number ≡ list_of_action (file_of all tests) a = omega (arith, n, count_queued before, ap queued before_it) in
        ap (body_of (lines_of script tests)) same ∙ post_runs script tests a has

push_run : (lines : List Lines) (number a own : ℕ) (rest : List (Option ℕ)) (o : Option QueueParameters) (same next : List Listed) → ((q : QueueParameters) → o ≡ Some q → body_of lines number ≡ Body.Run a Body.End) → (o ≡ None → same ≡ listed_from lines number rest) → ((q : QueueParameters) → o ≡ Some q → next ≡ listed_from lines (number + 1) rest) → pushed o (λ q. listed (Body.Run a Body.End) (Some own)) same next ≡ listed_from lines number (if is_some o then Some own ∷ rest else rest)
push_run lines number a own rest None same next run e f = e refl
push_run lines number a own rest (Some q) same next run e f =
    ap (λ s. listed s (Some own) ∷ next) (sym (run q refl)) ∙ ap (λ ls. listed (body_of lines number) (Some own) ∷ ls) (f q refl)

module _ (script : Script) (tests : List (Formula Test)) where
  actions_listed : (number : ℕ) (before later : List Item) → items script ≡ before ++ later → number ≡ 1 + length (rulesets_of (items script)) + length (filter_map queued_at before) → collected queued_at action_list_part number before later ≡ listed_from (lines_of script tests) number (action_queues (queue_number before) later)
  actions_listed number before [] e n = refl
  actions_listed number before (x ∷ later) e n =
      let lines = lines_of script tests in
      let own = queue_number before in
      let rest = action_queues (queue_after own x) later in
      let whole = e ∙ sym (append_assoc before (x ∷ []) later) in
      push_run lines number (length (actions_of before)) own rest (queued_at x) _ _
      (λ q h. run_behind script tests before x later q number e h n)
      (λ h. actions_listed number (before ++ x ∷ []) later whole (omega (arith, n, counted_none queued_at before x h)) ∙ ap (λ m. listed_from lines number (action_queues m later)) (next_number before x))
      (λ q h. actions_listed (number + 1) (before ++ x ∷ []) later whole (omega (arith, n, counted_one queued_at before x q h)) ∙ ap (λ m. listed_from lines (number + 1) (action_queues m later)) (next_number before x))
      ∙ ap (λ b. listed_from lines number (if b then Some own ∷ rest else rest)) (as_queued_action x)

  pub actions_given : Given (GivesActionList (items script)) (1 + length (rulesets_of (items script))) [] (items script) (listed_from (lines_of script tests) (1 + length (rulesets_of (items script))) (action_queues 1 (items script)))
  actions_given =
      let all = items script in
      let first = 1 + length (rulesets_of all) in
      subst (Given (GivesActionList all) first [] all) (actions_listed first [] all refl (omega arith))
      (all_given (GivesActionList all) queued_at action_list_part first all (λ before x number a _. gives_action_list all before x number a) (gives_no_action_list all) first [] all refl (omega arith))

-- The next item of a script: its faults and those of the items after it, and what is kept of it.
use Rattle.std.proofs.Common.{◌≡◌, inl, inr, ℕ, suc, ◌+◌, ◌<◌, Bool, true, false, ◌||◌, not, List, [], ◌∷◌, ◌++◌, length, get_or, take, drop, map, sum, Option, Some, None, refl, sym, ap, subst, ◌∙◌, arith}
use Rattle.std.specs.List.{cons_option, list_any}
use Rattle.std.specs.Str.{bytes_eq}
use Rattle.std.proofs.lemmas.List.{drop_more, get_or-map, length-map, map-append, take_more}
use Rattle.std.proofs.lemmas.List.Elements.{filter_map-append}
use Rattle.std.proofs.lemmas.List.Sums.{sum_by-cons}
use Rattle.std.proofs.lemmas.List.Folds.{list_any-append}
use Rattle.sy_script.specs.declared.tree.ObjectKind.TheVariants as object
use Rattle.sy_rules.specs.declared.fault.FaultCode.TheVariants as code
use Rattle.sy_rules.specs.declared.fault.PlanFault.{PlanFault}
use Rattle.sy_rules.specs.declared.parameters.objects.ActionParameters.{ActionParameters}
use Rattle.sy_rules.specs.declared.items.outline.Item.{Item as CodeItem}
use Rattle.sy_rules.specs.declared.parameters.settings.QueueParameters.{QueueParameters}
use Rattle.sy_rules.specs.declared.check.script.Seen.{Seen}
use Rattle.sy_rules.specs.declared.check.script.Whole.{Whole}
use Rattle.sy_rules.specs.Faults.{IsAnswered, fault, in_text, when}
use Rattle.sy_rules.specs.items.ItemFaults.{object_faults}
use Rattle.sy_rules.specs.parameters.Objects.{input_of, ruleset_of, kind_of_action, action_of}
use Rattle.sy_rules.specs.items.Outline.{Item, Placed}
use Rattle.sy_rules.specs.parts.Plans.{action_name, action_names, actions_of, default_ruleset, input_at, inputs_of, names_from, ruleset_at, rulesets_of, action_at}
use Rattle.sy_rules.specs.check.ScriptFaults.{action_faults, faults_among, faults_in_text, input_faults, is_main_queue, loads_imtcp, ports_of, ruleset_faults, ruleset_names_of, second_main_queue, unknown_ruleset}
use Rattle.sy_rules.specs.internal.Seen.{Adds, HasNames, Knows, Shows, faults_by, workers_in}

-- ---- where an item stands

pub record StandsAt {A : Type 0} (all : List A) (k : ℕ) (x : A) : Type 0 where
  pub taken : take (k + 1) all ≡ take k all ++ x ∷ []
  pub dropped : drop k all ≡ x ∷ drop (k + 1) all

-- of what the code's items are seen as
pub stands : {A : Type 0} (view : CodeItem → A) (items : List CodeItem) (k : ℕ) (x : CodeItem) → k < length items → x ≡ get_or items k x → StandsAt (map view items) k (view x)
stands view items k x within is =
    let at : get_or (map view items) k (view x) ≡ view x = get_or-map view items k x (view x) within ∙ ap view (sym is) in
    let small : k < length (map view items) = simp length-map (omega arith) in
    record {
      taken = take_more (map view items) k (view x) small ∙ ap (λ y. take k (map view items) ++ y ∷ []) at;
      dropped = drop_more (map view items) k (view x) small ∙ ap (λ y. y ∷ drop (k + 1) (map view items)) at;
    }

-- ---- what is answered

front : (xs ys : List PlanFault) (f : PlanFault) → IsAnswered xs f → IsAnswered (xs ++ ys) f
front xs ys f (inl e) = inl e
front [] ys f (inr e) = absurd cc
front (x ∷ xs) ys f (inr e) = inr e

-- what is wrong with an item after others, in the text
abbrev here_in_text : List Item → List Item → Placed → List PlanFault
here_in_text all before x = map (in_text x.span) (object_faults x.item ++ faults_among all before x.item)

-- the faults of the next item and of those after it are those of all
next_is : (all before : List Item) (ps : List Placed) (k : ℕ) (x : Placed) (total : List PlanFault) → StandsAt ps k x → faults_in_text all before (drop k ps) ≡ total
    → here_in_text all before x ++ faults_in_text all (before ++ x.item ∷ []) (drop (k + 1) ps) ≡ total
next_is all before ps k x total here left = sym (ap (faults_in_text all before) here.dropped) ∙ left

pub next_answered : (all before : List Item) (ps : List Placed) (k : ℕ) (x : Placed) (total : List PlanFault) (f : PlanFault) → StandsAt ps k x → faults_in_text all before (drop k ps) ≡ total
    → IsAnswered (here_in_text all before x) f → IsAnswered total f
next_answered all before ps k x total f here left answer =
    subst (λ t. IsAnswered t f) (next_is all before ps k x total here left) (front (here_in_text all before x) _ f answer)

none_here : (all before : List Item) (x : Placed) → object_faults x.item ≡ [] → faults_among all before x.item ≡ [] → here_in_text all before x ≡ []
none_here all before x own among = rw (own, among) refl

pub left_behind : (all : List Item) (ps : List Placed) (k : ℕ) (x : Placed) (total : List PlanFault) → StandsAt all k x.item → StandsAt ps k x → faults_in_text all (take k all) (drop k ps) ≡ total
    → object_faults x.item ≡ [] → faults_among all (take k all) x.item ≡ [] → faults_in_text all (take (k + 1) all) (drop (k + 1) ps) ≡ total
left_behind all ps k x total there here left own among =
    ap (λ before. faults_in_text all before (drop (k + 1) ps)) there.taken
    ∙ sym (ap (λ fs. fs ++ faults_in_text all (take k all ++ x.item ∷ []) (drop (k + 1) ps)) (none_here all (take k all) x own among))
    ∙ next_is all (take k all) ps k x total here left

-- ---- what is kept

or_none : (b : Bool) → (b || false) ≡ b
or_none true = refl
or_none false = refl

rulesets-append : (xs ys : List Item) → ruleset_names_of (xs ++ ys) ≡ ruleset_names_of xs ++ ruleset_names_of ys
rulesets-append xs ys = ap (map (λ r. r.name)) (filter_map-append ruleset_at xs ys) ∙ map-append (λ r. r.name) (rulesets_of xs) (rulesets_of ys)

ports-append : (xs ys : List Item) → ports_of (xs ++ ys) ≡ ports_of xs ++ ports_of ys
ports-append xs ys = ap (map (λ i. i.port)) (filter_map-append input_at xs ys) ∙ map-append (λ i. i.port) (inputs_of xs) (inputs_of ys)

pub length-names : (n : ℕ) (xs : List ActionParameters) → length (names_from n xs) ≡ length xs
length-names n [] = refl
length-names n (x ∷ xs) = ap suc (length-names (n + 1) xs)

names-append : (n m : ℕ) (xs ys : List ActionParameters) → m ≡ n + length xs → names_from n (xs ++ ys) ≡ names_from n xs ++ names_from m ys
names-append n m [] ys e = let same : n ≡ m = omega arith in ap (λ k. names_from k ys) same
names-append n m (x ∷ xs) ys e = ap (λ later. action_name n x.name ∷ later) (names-append (n + 1) m xs ys (omega arith))

actions-append : (xs ys : List Item) → action_names (xs ++ ys) ≡ action_names xs ++ names_from (length (action_names xs)) (actions_of ys)
actions-append xs ys =
    ap (names_from 0) (filter_map-append action_at xs ys)
    ∙ names-append 0 (length (action_names xs)) (actions_of xs) (actions_of ys) (omega (arith, length-names 0 (actions_of xs)))

pub shows_more : (before : List Item) (x : Item) (old new : Seen) → Shows before old → Adds x old new → Shows (before ++ x ∷ []) new
shows_more before x old new s a = record {
  main_queue = a.main_queue ∙ ap (λ b. b || is_main_queue x) s.main_queue ∙ sym (list_any-append is_main_queue before (x ∷ []) ∙ ap (λ b. list_any is_main_queue before || b) (or_none (is_main_queue x)));
  ports = a.ports ∙ ap (λ ps. ps ++ ports_of (x ∷ [])) s.ports ∙ sym (ports-append before (x ∷ []));
  rulesets = a.rulesets ∙ ap (λ ns. ns ++ ruleset_names_of (x ∷ [])) s.rulesets ∙ sym (rulesets-append before (x ∷ []));
  actions = a.actions ∙ ap (λ ns. ns ++ names_from (length ns) (actions_of (x ∷ []))) s.actions ∙ sym (actions-append before (x ∷ []));
}

unknown_same : (names set : List (List ℕ)) (name : Option (List ℕ)) → HasNames names set → unknown_ruleset set name ≡ unknown_ruleset names name
unknown_same names set None same = refl
unknown_same names set (Some name) same = ap (λ b. when (not (bytes_eq name default_ruleset || b)) (fault code.Unknown name)) (same name)

pub same_faults : (all before : List Item) (w : Whole) (s : Seen) (x : Item) → Knows all w → Shows before s → faults_by w s x ≡ faults_among all before x
same_faults all before w s (Item.Object object.MainQueue params) k h = ap second_main_queue h.main_queue
same_faults all before w s (Item.Object object.Input params) k h =
    ap (λ b. input_faults b w.names s.ports.items (input_of params)) k.imtcp
    ∙ ap (λ ps. input_faults (list_any loads_imtcp all) w.names ps (input_of params)) h.ports
    ∙ rw (unknown_same (ruleset_names_of all) w.names (input_of params).ruleset_name k.names) refl
same_faults all before w s (Item.Object object.Module params) k h = refl
same_faults all before w s (Item.Object object.Global params) k h = refl
same_faults all before w s (Item.Ruleset params) k h = ap (λ ns. ruleset_faults ns (ruleset_of params).name) h.rulesets
same_faults all before w s (Item.Action params) k h =
    ap (λ ns. action_faults ns (action_name (length ns) (action_of (kind_of_action params) params).name)) h.actions
    ∙ ap (λ n. action_faults (action_names before) (action_name n (action_of (kind_of_action params) params).name)) (length-names 0 (actions_of before))
same_faults all before w s (Item.Call name) k h = ap (λ b. when (bytes_eq name default_ruleset || not b) (fault code.Unknown name)) (k.names name)
same_faults all before w s (Item.Test test) k h = refl

-- ---- workers

pub workers_of_next : (o : Option QueueParameters) (later : List QueueParameters) → sum (map (λ q. q.workers) (cons_option o later)) ≡ workers_in o + sum (map (λ q. q.workers) later)
workers_of_next None later = omega arith
workers_of_next (Some q) later = sum_by-cons (λ (n : ℕ). n) q.workers (map (λ (p : QueueParameters). p.workers) later)

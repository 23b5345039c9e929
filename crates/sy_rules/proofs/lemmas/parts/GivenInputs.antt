-- The inputs that objects give are those of the plan's definitions.
use Rattle.std.proofs.Common.{◌≡◌, ℕ, zero, suc, ◌+◌, Bool, true, false, not, ◌||◌, if◌then◌else◌, List, [], ◌∷◌, ◌++◌, length, map, slice_get, Option, Some, None, is_some, unwrap_or, refl, sym, ap, ◌∙◌, subst, append_assoc, arith}
use Rattle.std.proofs.lemmas.List.{length-map, map-append}
use Rattle.std.proofs.lemmas.List.Elements.{filter_map-append}
use Rattle.std.proofs.lemmas.List.Folds.{list_any-append}
use Rattle.std.proofs.lemmas.Slice.Eq.{bytes_eq-Decides}
use Rattle.std.specs.List.{cons_option, filter_map}
use Rattle.std.specs.Str.{bytes_eq}
use Rattle.sy_script.specs.declared.tree.ObjectKind.TheVariants as object
use Rattle.sy_script.specs.declared.tree.Param.{Param}
use Rattle.sy_rules.specs.declared.parameters.objects.InputParameters.{InputParameters}
use Rattle.sy_rules.specs.declared.parameters.settings.QueueParameters.{QueueParameters}
use Rattle.sy_rules.specs.declared.parts.Input.{Input}
use Rattle.sy_rules.specs.declared.fault.FaultCode.TheVariants as code
use Rattle.sy_rules.specs.Faults.{fault, when}
use Rattle.sy_rules.specs.parts.Given.{Given, GivesInput, IsBound, IsNamed, Stands, list_of_ruleset}
use Rattle.sy_rules.specs.parameters.Objects.{input_of, ruleset_of}
use Rattle.sy_rules.specs.items.Outline.{Item}
use Rattle.sy_rules.specs.parts.Plans.{action_queues, default_ruleset, input_at, inputs_of, list_at_place, list_of_input, list_queues, place_of, own_queue, queue_after, queue_here, queue_number, ruleset_at, ruleset_names, ruleset_queues, rulesets_of}
use Rattle.sy_rules.specs.PlanValue.{input_part, queue_or_main}
use Rattle.sy_rules.specs.check.ScriptFaults.{is_among, unknown_ruleset}
use Rattle.sy_rules.specs.internal.Checking.{faults_after}
use Rattle.sy_rules.proofs.lemmas.parts.GivenItems.{not_both, one_own, own_is, same_some}
use Rattle.sy_rules.proofs.lemmas.parts.GivenParts.{all_given, collected, pushed}
use Rattle.sy_rules.proofs.lemmas.check.ItemsRefuted.{is_known}

-- ---- the ruleset that an input names

same_name : (a b : List ℕ) → bytes_eq a b ≡ true → a ≡ b
same_name a b h = (bytes_eq-Decides a b).0 h

itself : (a : List ℕ) → bytes_eq a a ≡ true
itself a = (bytes_eq-Decides a a).1 refl

or_left : (a b : Bool) → (a || b) ≡ false → a ≡ false
or_left true b h = cc
or_left false b h = refl

or_right : (a b : Bool) → (a || b) ≡ false → b ≡ false
or_right true b h = cc
or_right false b h = h

place_first : (name : List ℕ) (ns ms : List (List ℕ)) → is_among name ns ≡ false → place_of name (ns ++ name ∷ ms) ≡ Some (length ns)
place_first name [] ms h = rw (itself name) refl
place_first name (n ∷ ns) ms h =
    rw (or_left (bytes_eq name n) (is_among name ns) h, place_first name ns ms (or_right (bytes_eq name n) (is_among name ns) h)) (ap (λ k. Some k) (omega arith))

place_none : (name : List ℕ) (ns : List (List ℕ)) → is_among name ns ≡ false → place_of name ns ≡ None
place_none name [] h = refl
place_none name (n ∷ ns) h = rw (or_left (bytes_eq name n) (is_among name ns) h, place_none name ns (or_right (bytes_eq name n) (is_among name ns) h)) refl

names-append : (xs ys : List Item) → ruleset_names (xs ++ ys) ≡ ruleset_names xs ++ ruleset_names ys
names-append xs ys = ap (map (λ r. r.name)) (filter_map-append ruleset_at xs ys) ∙ map-append (λ r. r.name) (rulesets_of xs) (rulesets_of ys)

-- after items without a ruleset of this name, and another such item
none_named : (name : List ℕ) (before : List Item) (x : Item) → is_among name (ruleset_names before) ≡ false → is_among name (ruleset_names (x ∷ [])) ≡ false → is_among name (ruleset_names (before ++ x ∷ [])) ≡ false
none_named name before x h e = ap (is_among name) (names-append before (x ∷ [])) ∙ (list_any-append (bytes_eq name) (ruleset_names before) (ruleset_names (x ∷ [])) ∙ rw (h, e) refl)

-- the first of this name
first_from : (all : List Item) (name : List ℕ) (before later : List Item) → all ≡ before ++ later → is_among name (ruleset_names before) ≡ false → is_among name (ruleset_names later) ≡ true → (front : List Item) × (params : List Param) × IsNamed all name front params
first_from all name before [] e h is = cc
first_from all name before (Item.Ruleset ps ∷ later) e h is = by_case (bytes_eq name (ruleset_of ps).name) refl is (λ other is. first_from all name (before ++ Item.Ruleset ps ∷ []) later (e ∙ sym (append_assoc before (Item.Ruleset ps ∷ []) later)) (none_named name before (Item.Ruleset ps) h (rw other refl)) is)
  where
    by_case : (b : Bool) → bytes_eq name (ruleset_of ps).name ≡ b → (b || is_among name (ruleset_names later)) ≡ true → (bytes_eq name (ruleset_of ps).name ≡ false → is_among name (ruleset_names later) ≡ true → (front : List Item) × (params : List Param) × IsNamed all name front params) → (front : List Item) × (params : List Param) × IsNamed all name front params
    by_case true same is next = (before, ps, record { stands = record { later = later; whole = e }; named = sym (same_name name (ruleset_of ps).name same); first = h })
    by_case false other is next = next other is
first_from all name before (Item.Action ps ∷ later) e h is = first_from all name (before ++ Item.Action ps ∷ []) later (e ∙ sym (append_assoc before (Item.Action ps ∷ []) later)) (none_named name before (Item.Action ps) h refl) is
first_from all name before (Item.Object found ps ∷ later) e h is = first_from all name (before ++ Item.Object found ps ∷ []) later (e ∙ sym (append_assoc before (Item.Object found ps ∷ []) later)) (none_named name before (Item.Object found ps) h refl) is
first_from all name before (Item.Call other ∷ later) e h is = first_from all name (before ++ Item.Call other ∷ []) later (e ∙ sym (append_assoc before (Item.Call other ∷ []) later)) (none_named name before (Item.Call other) h refl) is
first_from all name before (Item.Test test ∷ later) e h is = first_from all name (before ++ Item.Test test ∷ []) later (e ∙ sym (append_assoc before (Item.Test test ∷ []) later)) (none_named name before (Item.Test test) h refl) is

-- its list
named_list : (all : List Item) (name : List ℕ) (before : List Item) (params : List Param) → IsNamed all name before params → list_of_input all (Some name) ≡ list_of_ruleset before
named_list all name before params is =
    let later = is.stands.later in
    let names : ruleset_names all ≡ ruleset_names before ++ name ∷ ruleset_names later =
    ap ruleset_names is.stands.whole ∙ (names-append before (Item.Ruleset params ∷ later) ∙ ap (λ n. ruleset_names before ++ n ∷ ruleset_names later) is.named) in
    ap (λ ns. list_at_place (place_of name ns)) names
    ∙ (ap list_at_place (place_first name (ruleset_names before) (ruleset_names later) is.first)
    ∙ omega (arith, length-map (rulesets_of before) (λ r. r.name)))

-- its queue
pub moved : (number : ℕ) (x : Item) (before : List Item) → queue_after number x + length (filter_map own_queue before) ≡ number + length (filter_map own_queue (x ∷ before))
moved number x before = by_case (own_queue x)
  where
    by_case : (o : Option QueueParameters) → (if is_some o then number + 1 else number) + length (filter_map own_queue before) ≡ number + length (cons_option o (filter_map own_queue before))
    by_case None = refl
    by_case (Some q) = omega arith

queue_behind_it : (number m : ℕ) (before : List Item) (params : List Param) (later : List Item) → m ≡ number + length (filter_map own_queue before) → slice_get (ruleset_queues number (before ++ Item.Ruleset params ∷ later)) (length (rulesets_of before)) ≡ Some (queue_here m (Item.Ruleset params))
queue_behind_it number m [] params later e =
    let same : m ≡ number = omega (arith, e) in
    rw same refl
queue_behind_it number m (b ∷ before) params later e = by_item b (queue_behind_it (queue_after number b) m before params later (e ∙ sym (moved number b before)))
  where
    by_item : (b : Item) → slice_get (ruleset_queues (queue_after number b) (before ++ Item.Ruleset params ∷ later)) (length (rulesets_of before)) ≡ Some (queue_here m (Item.Ruleset params)) → slice_get (ruleset_queues number (b ∷ before ++ Item.Ruleset params ∷ later)) (length (rulesets_of (b ∷ before))) ≡ Some (queue_here m (Item.Ruleset params))
    by_item (Item.Ruleset ps) h = h
    by_item (Item.Action ps) h = h
    by_item (Item.Object found ps) h = h
    by_item (Item.Call name) h = h
    by_item (Item.Test test) h = h

in_front : {A : Type 0} (xs ys : List A) (k : ℕ) (a : A) → slice_get xs k ≡ Some a → slice_get (xs ++ ys) k ≡ Some a
in_front [] ys k a h = absurd (not_both None a refl h)
in_front (x ∷ xs) ys zero a h = h
in_front (x ∷ xs) ys (suc k) a h = in_front xs ys k a h

-- the queue of the list of a ruleset after these items
pub ruleset_queue : (all before : List Item) (params : List Param) → Stands all before (Item.Ruleset params) → slice_get (list_queues all) (list_of_ruleset before) ≡ Some (queue_here (queue_number before) (Item.Ruleset params))
ruleset_queue all before params stands =
    let more : list_of_ruleset before ≡ suc (length (rulesets_of before)) = omega arith in
    let there = queue_behind_it 1 (queue_number before) before params stands.later (omega arith) in
    rw more (in_front (ruleset_queues 1 all) (action_queues 1 all) (length (rulesets_of before)) _ (ap (λ xs. slice_get (ruleset_queues 1 xs) (length (rulesets_of before))) stands.whole ∙ there))

own_or_main : (o : Option ℕ) → queue_or_main (Some o) ≡ unwrap_or o 0
own_or_main None = refl
own_or_main (Some n) = refl

named_queue : (all : List Item) (name : List ℕ) (before : List Item) (params : List Param) → IsNamed all name before params → queue_or_main (slice_get (list_queues all) (list_of_input all (Some name))) ≡ unwrap_or (queue_here (queue_number before) (Item.Ruleset params)) 0
named_queue all name before params is =
    ap (λ l. queue_or_main (slice_get (list_queues all) l)) (named_list all name before params is)
    ∙ (ap queue_or_main (ruleset_queue all before params is.stands)
    ∙ own_or_main (queue_here (queue_number before) (Item.Ruleset params)))

-- ---- the list and the queue of an input

abbrev queue_of_input : List Item → Option (List ℕ) → ℕ
queue_of_input all o = queue_or_main (slice_get (list_queues all) (list_of_input all o))

list_unnamed : (all : List Item) (name : List ℕ) → is_among name (ruleset_names all) ≡ false → list_of_input all (Some name) ≡ 0
list_unnamed all name h = ap list_at_place (place_none name (ruleset_names all) h)

queue_unnamed : (all : List Item) (name : List ℕ) → is_among name (ruleset_names all) ≡ false → queue_of_input all (Some name) ≡ 0
queue_unnamed all name h = ap (λ l. queue_or_main (slice_get (list_queues all) l)) (list_unnamed all name h)

is_bound : (all : List Item) (o : Option (List ℕ)) → unknown_ruleset (ruleset_names all) o ≡ [] → IsBound all (list_of_input all o) (queue_of_input all o) o
is_bound all None known = IsBound.Unnamed refl refl
is_bound all (Some name) known = by_case (bytes_eq name default_ruleset) (is_among name (ruleset_names all)) refl refl known
  where
    default : (other : List ℕ) → other ≡ default_ruleset → is_among other (ruleset_names all) ≡ false → IsBound all (list_of_input all (Some other)) (queue_of_input all (Some other)) (Some other)
    default other same h =
        let free : is_among default_ruleset (ruleset_names all) ≡ false = rw same at h in
        rw same (IsBound.Default free (list_unnamed all default_ruleset free) (queue_unnamed all default_ruleset free))

    by_case : (a b : Bool) → bytes_eq name default_ruleset ≡ a → is_among name (ruleset_names all) ≡ b → when (not (a || b)) (fault code.Unknown name) ≡ [] → IsBound all (list_of_input all (Some name)) (queue_of_input all (Some name)) (Some name)
    by_case a true e h known =
        let f = first_from all name [] all refl refl h in
        IsBound.Ruleset f.0 f.1 (queue_here (queue_number f.0) (Item.Ruleset f.1)) f.2 (own_is f.0 (Item.Ruleset f.1)) (named_list all name f.0 f.1 f.2) (named_queue all name f.0 f.1 f.2)
    by_case true false e h known = default name (same_name name default_ruleset e) h
    by_case false false e h known = absurd cc

one_binding : {all : List Item} {list queue : ℕ} {o : Option (List ℕ)} → IsBound all list queue o → (list ≡ list_of_input all o) × (queue ≡ queue_of_input all o)
one_binding (IsBound.Unnamed e f) = (e, f)
one_binding {all} (IsBound.Default h e f) = (e ∙ sym (list_unnamed all default_ruleset h), f ∙ sym (queue_unnamed all default_ruleset h))
one_binding {all} (IsBound.Ruleset {name = name} before params own is own_is e f) = (
  e ∙ sym (named_list all name before params is),
  f ∙ (ap (λ o. unwrap_or o 0) (one_own before (Item.Ruleset params) own own_is) ∙ sym (named_queue all name before params is)),
)

-- ---- inputs

pub input_item : (x : Item) (i : InputParameters) → input_at x ≡ Some i → (params : List Param) × (x ≡ Item.Object object.Input params) × (i ≡ input_of params)
input_item (Item.Object object.Input ps) i h = (ps, refl, same_some (Some i) i (input_of ps) refl (sym h))
input_item (Item.Object object.MainQueue ps) i h = absurd (not_both None i refl h)
input_item (Item.Object object.Module ps) i h = absurd (not_both None i refl h)
input_item (Item.Object object.Global ps) i h = absurd (not_both None i refl h)
input_item (Item.Ruleset ps) i h = absurd (not_both None i refl h)
input_item (Item.Action ps) i h = absurd (not_both None i refl h)
input_item (Item.Call name) i h = absurd (not_both None i refl h)
input_item (Item.Test test) i h = absurd (not_both None i refl h)

abbrev input_given : List Item → List Item → Item → ℕ → InputParameters → Input
input_given all before x number i = input_part all i

gives_input : (all : List Item) → faults_after all [] all ≡ [] → (before : List Item) (x : Item) (number : ℕ) (i : InputParameters) → Stands all before x → input_at x ≡ Some i → number ≡ 0 + length (inputs_of before) → GivesInput all before x number (input_part all i)
gives_input all clean before x number i stands h e =
    let found = input_item x i h in
    let known = is_known all clean found.0 before stands.later (stands.whole ∙ ap (λ y. before ++ y ∷ stands.later) found.1) in
    subst (λ i. GivesInput all before x number (input_part all i)) (sym found.2)
    (record { params = found.0; found = found.1; numbered = omega (arith, e); port = refl; flow = refl; bound = is_bound all (input_of found.0).ruleset_name known; unread_file = refl })

gives_no_input : (all before : List Item) (x : Item) (n : ℕ) (i : Input) → input_at x ≡ None → GivesInput all before x n i → ⊥
gives_no_input all before x n i h g = not_both (input_at x) (input_of g.params) h (ap input_at g.found)

input_is : (all : List Item) (i : Input) (said : InputParameters) → i.port ≡ said.port → i.flow ≡ said.flow → i.list ≡ (input_part all said).list → i.queue ≡ (input_part all said).queue → i.unread_file ≡ said.unread_file → i ≡ input_part all said
input_is all i said e f g h u =
    ap (λ x. record i { port = x }) e
    ∙ ap (λ x. record i { port = said.port; flow = x }) f
    ∙ ap (λ x. record i { port = said.port; flow = said.flow; list = x }) g
    ∙ ap (λ x. record i { port = said.port; flow = said.flow; list = (input_part all said).list; queue = x }) h
    ∙ ap (λ x. record i { port = said.port; flow = said.flow; list = (input_part all said).list; queue = (input_part all said).queue; unread_file = x }) u

one_input : (all before : List Item) (x : Item) (n : ℕ) (i : Input) (o : InputParameters) → input_at x ≡ Some o → GivesInput all before x n i → i ≡ input_part all o
one_input all before x n i o h g =
    let said = input_of g.params in
    let b = one_binding g.bound in
    input_is all i said g.port g.flow b.0 b.1 g.unread_file ∙ ap (input_part all) (same_some (input_at x) said o (ap input_at g.found) h)

pub same_input : (all before : List Item) (x : Item) (n : ℕ) (p q : Input) → GivesInput all before x n p → GivesInput all before x n q → p ≡ q
same_input all before x n p q g h =
    let there = ap input_at h.found in
    one_input all before x n p (input_of h.params) there g ∙ sym (one_input all before x n q (input_of h.params) there h)

push_input : (all : List Item) (o : Option InputParameters) (same next : List Input) (rest : List InputParameters) → same ≡ map (input_part all) rest → next ≡ map (input_part all) rest → pushed o (input_part all) same next ≡ map (input_part all) (cons_option o rest)
push_input all None same next rest e f = e
push_input all (Some i) same next rest e f = ap (λ xs. input_part all i ∷ xs) f

inputs_collected : (all : List Item) (number : ℕ) (before later : List Item) → collected input_at (input_given all) number before later ≡ map (input_part all) (inputs_of later)
inputs_collected all number before [] = refl
inputs_collected all number before (x ∷ later) = push_input all (input_at x) _ _ (inputs_of later) (inputs_collected all number (before ++ x ∷ []) later) (inputs_collected all (number + 1) (before ++ x ∷ []) later)

pub inputs_given : (all : List Item) → faults_after all [] all ≡ [] → Given (GivesInput all) 0 [] all (map (input_part all) (inputs_of all))
inputs_given all clean =
    subst (Given (GivesInput all) 0 [] all) (inputs_collected all 0 [] all)
    (all_given (GivesInput all) input_at (input_given all) 0 all (gives_input all clean) (gives_no_input all) 0 [] all refl (omega arith))

-- Where nothing is wrong with the items of a script, its inputs have different ports, and its actions different names.
use Rattle.std.proofs.Common.{◌≡◌, ◌≢◌, ℕ, zero, suc, ◌+◌, ◌<◌, ◌==◌, Bool, true, false, ◌||◌, List, [], ◌∷◌, ◌++◌, length, map, get_or, refl, sym, ap, ◌∙◌, subst, arith, append_assoc, codes, eq-eqb}
use Rattle.std.proofs.lemmas.List.{append-nil, map-append}
use Rattle.std.proofs.lemmas.List.Elements.{filter_map-append}
use Rattle.std.proofs.lemmas.List.Quantifiers.{all_pairs_push}
use Rattle.std.proofs.lemmas.Simd.{map-map}
use Rattle.std.proofs.lemmas.Slice.Eq.{bytes_eq-Decides}
use Rattle.std.specs.List.{list_any}
use Rattle.std.specs.Str.{bytes_eq}
use Rattle.sy_script.specs.declared.tree.ObjectKind.TheVariants as object
use Rattle.sy_rules.specs.Limits.{ACTIONS, INPUTS}
use Rattle.sy_rules.specs.declared.items.fault.ItemFault.{ItemFault}
use Rattle.sy_rules.specs.declared.fault.FaultCode.TheVariants as code
use Rattle.sy_rules.specs.declared.parameters.objects.ActionParameters.{ActionParameters}
use Rattle.sy_rules.specs.Faults.{fault, when}
use Rattle.sy_rules.specs.items.ItemFaults.{object_faults}
use Rattle.sy_rules.specs.parameters.Objects.{action_of, input_of, kind_of_action}
use Rattle.sy_rules.specs.items.Outline.{Item}
use Rattle.sy_rules.specs.parts.Plans.{action_at, action_name, action_names, actions_of, input_at, inputs_of, names_from}
use Rattle.sy_rules.specs.PlanValue.{action_parts, input_part}
use Rattle.sy_rules.specs.check.ScriptFaults.{faults_among, too_many, not_loaded, unknown_ruleset, same_port, ports_of, ruleset_names_of, loads_imtcp, is_among}
use Rattle.sy_rules.specs.internal.Checking.{faults_after}
use Rattle.sy_rules.specs.Whole.{AreDifferent}
use Rattle.sy_rules.proofs.lemmas.parameters.Fits.{no_front, no_back}

-- ---- what each further item keeps

module _ (P : List Item → Type 0) (keeps : (all before : List Item) (x : Item) → faults_among all before x ≡ [] → P before → P (before ++ x ∷ [])) where
  kept_behind : (all before later : List Item) → faults_after all before later ≡ [] → P before → P (before ++ later)
  kept_behind all before [] none p = subst P (sym (append-nil before)) p
  kept_behind all before (x ∷ later) none p =
      let behind = faults_after all (before ++ x ∷ []) later in
      let rest = no_back (object_faults x) (faults_among all before x ++ behind) none in
      let here = keeps all before x (no_front (faults_among all before x) behind rest) p in
      subst P (append_assoc before (x ∷ []) later) (kept_behind all (before ++ x ∷ []) later (no_back (faults_among all before x) behind rest) here)

-- ---- one more that is none of those before

or_both : (a b : Bool) → (a || b) ≡ false → (a ≡ false) × (b ≡ false)
or_both true b e = cc
or_both false b e = (refl, e)

not_both : (b : Bool) → b ≡ false → b ≡ true → ⊥
not_both true e h = cc
not_both false e h = cc

not_there : (b : Bool) (f : ItemFault) → when b f ≡ [] → b ≡ false
not_there true f e = cc
not_there false f e = refl

module _ {A : Type 0} (test : A → Bool) (y : A) (finds : (x : A) → x ≡ y → test x ≡ true) where
  none_same : (xs : List A) → list_any test xs ≡ false → (k : ℕ) (d : A) → k < length xs → get_or xs k d ≢ y
  none_same [] none k d within = absurd (omega (arith, within))
  none_same (x ∷ xs) none zero d within = λ same. not_both (test x) (or_both (test x) (list_any test xs) none).0 (finds x same)
  none_same (x ∷ xs) none (suc k) d within = none_same xs (or_both (test x) (list_any test xs) none).1 k d (omega (arith, within))

  one_more : (xs : List A) → list_any test xs ≡ false → AreDifferent xs → AreDifferent (xs ++ y ∷ [])
  one_more xs none apart = all_pairs_push (λ a b. a ≢ b) xs y apart (none_same xs none)

pub one_differs : {A : Type 0} (x : A) → AreDifferent (x ∷ [])
one_differs x = λ i j d lt within. absurd (omega (arith, lt, within))

none_differ : {A : Type 0} → AreDifferent {A = A} []
none_differ = λ i j d lt within. absurd (omega (arith, within))

-- ---- ports

ports_behind : (before later : List Item) → ports_of (before ++ later) ≡ ports_of before ++ ports_of later
ports_behind before later =
    ap (map (λ i. i.port)) (filter_map-append input_at before later) ∙ map-append (λ i. i.port) (inputs_of before) (inputs_of later)

-- an item that is no input
no_port : (before : List Item) (x : Item) → ports_of (x ∷ []) ≡ [] → AreDifferent (ports_of before) → AreDifferent (ports_of (before ++ x ∷ []))
no_port before x none apart =
    subst AreDifferent (sym (ports_behind before (x ∷ []) ∙ (ap (λ ps. ports_of before ++ ps) none ∙ append-nil (ports_of before)))) apart

ports_kept : (all before : List Item) (x : Item) → faults_among all before x ≡ [] → AreDifferent (ports_of before) → AreDifferent (ports_of (before ++ x ∷ []))
ports_kept all before (Item.Object object.Input ps) none apart =
    let port = (input_of ps).port in
    let names = ruleset_names_of all in
    let few = too_many INPUTS (length (ports_of before)) (codes "input") in
    let loaded = not_loaded (list_any loads_imtcp all) in
    let known = unknown_ruleset names (input_of ps).ruleset_name in
    let alone = no_back known (same_port (ports_of before) port) (no_back loaded (known ++ same_port (ports_of before) port) (no_back few (loaded ++ (known ++ same_port (ports_of before) port)) none)) in
    let other = not_there (list_any (λ p. p == port) (ports_of before)) _ alone in
    subst AreDifferent (sym (ports_behind before (Item.Object object.Input ps ∷ []))) (one_more (λ p. p == port) port (λ p same. eq-eqb p port same) (ports_of before) other apart)
ports_kept all before (Item.Object object.MainQueue ps) none apart = no_port before (Item.Object object.MainQueue ps) refl apart
ports_kept all before (Item.Object object.Module ps) none apart = no_port before (Item.Object object.Module ps) refl apart
ports_kept all before (Item.Object object.Global ps) none apart = no_port before (Item.Object object.Global ps) refl apart
ports_kept all before (Item.Ruleset ps) none apart = no_port before (Item.Ruleset ps) refl apart
ports_kept all before (Item.Action ps) none apart = no_port before (Item.Action ps) refl apart
ports_kept all before (Item.Call name) none apart = no_port before (Item.Call name) refl apart
ports_kept all before (Item.Test test) none apart = no_port before (Item.Test test) refl apart

pub ports_differ : (all : List Item) → faults_after all [] all ≡ [] → AreDifferent (map (λ i. i.port) (map (input_part all) (inputs_of all)))
ports_differ all none =
    subst AreDifferent (sym (map-map (λ i. i.port) (input_part all) (inputs_of all))) (kept_behind (λ xs. AreDifferent (ports_of xs)) ports_kept all [] all none none_differ)

-- ---- names

names_behind : (number next : ℕ) (actions later : List ActionParameters) → next ≡ number + length actions → names_from number (actions ++ later) ≡ names_from number actions ++ names_from next later
names_behind number next [] later e = let same : number ≡ next = omega (arith, e) in ap (λ n. names_from n later) same
names_behind number next (a ∷ actions) later e = ap (λ names. action_name number a.name ∷ names) (names_behind (number + 1) next actions later (omega (arith, e)))

action_names_behind : (before later : List Item) → action_names (before ++ later) ≡ action_names before ++ names_from (length (actions_of before)) (actions_of later)
action_names_behind before later =
    ap (names_from 0) (filter_map-append action_at before later) ∙ names_behind 0 (length (actions_of before)) (actions_of before) (actions_of later) (omega arith)

-- an item that is no action
no_name : (before : List Item) (x : Item) → actions_of (x ∷ []) ≡ [] → AreDifferent (action_names before) → AreDifferent (action_names (before ++ x ∷ []))
no_name before x none apart =
    subst AreDifferent (sym (action_names_behind before (x ∷ []) ∙ (ap (λ xs. action_names before ++ names_from (length (actions_of before)) xs) none ∙ append-nil (action_names before)))) apart

names_kept : (all before : List Item) (x : Item) → faults_among all before x ≡ [] → AreDifferent (action_names before) → AreDifferent (action_names (before ++ x ∷ []))
names_kept all before (Item.Action ps) none apart =
    let names = action_names before in
    let name = action_name (length (actions_of before)) (action_of (kind_of_action ps) ps).name in
    let other = not_there (is_among name names) _ (no_back (too_many ACTIONS (length names) (codes "action")) (when (is_among name names) (fault code.Duplicate name)) none) in
    subst AreDifferent (sym (action_names_behind before (Item.Action ps ∷ []))) (one_more (bytes_eq name) name (λ x same. (bytes_eq-Decides name x).1 (sym same)) names other apart)
names_kept all before (Item.Ruleset ps) none apart = no_name before (Item.Ruleset ps) refl apart
names_kept all before (Item.Object found ps) none apart = no_name before (Item.Object found ps) refl apart
names_kept all before (Item.Call name) none apart = no_name before (Item.Call name) refl apart
names_kept all before (Item.Test test) none apart = no_name before (Item.Test test) refl apart

names_of_parts : (number : ℕ) (actions : List ActionParameters) → map (λ a. a.name) (action_parts number actions) ≡ names_from number actions
names_of_parts number [] = refl
names_of_parts number (a ∷ actions) = ap (λ names. action_name number a.name ∷ names) (names_of_parts (number + 1) actions)

pub names_differ : (all : List Item) → faults_after all [] all ≡ [] → AreDifferent (map (λ a. a.name) (action_parts 0 (actions_of all)))
names_differ all none =
    subst AreDifferent (sym (names_of_parts 0 (actions_of all))) (kept_behind (λ xs. AreDifferent (action_names xs)) names_kept all [] all none none_differ)

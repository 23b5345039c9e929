-- Where no fault is found in the items of a script, none is there.
use Rattle.std.proofs.Common.{◌≡◌, ℕ, ◌+◌, ◌<◌, ◌==◌, Bool, true, false, not, ◌||◌, List, [], ◌∷◌, ◌++◌, length, Some, codes, refl, sym, ap, ◌∙◌, subst, append_assoc, append-nil, arith, eq-eqb}
use Rattle.std.specs.Fmt.{decimal}
use Rattle.std.specs.List.{list_any}
use Rattle.std.specs.Str.{bytes_eq}
use Rattle.std.proofs.lemmas.List.{length-map}
use Rattle.std.proofs.lemmas.List.Elements.{filter_map-append}
use Rattle.sy_script.specs.declared.tree.ObjectKind.TheVariants as object
use Rattle.sy_script.specs.declared.tree.Param.{Param}
use Rattle.sy_rules.specs.Limits.{ACTIONS, INPUTS, RULESETS}
use Rattle.sy_rules.specs.declared.fault.FaultCode.TheVariants as code
use Rattle.sy_rules.specs.declared.items.fault.ItemFault.{ItemFault}
use Rattle.sy_rules.specs.declared.parameters.objects.InputParameters.{InputParameters}
use Rattle.sy_rules.specs.declared.parameters.objects.RulesetParameters.{RulesetParameters}
use Rattle.sy_rules.specs.check.FaultsThere.{HasItemFault, IsInputOfPort, IsAction, IsBoundTo, IsInput, IsMainQueue, IsRuleset, LoadsImtcp, NoneIs}
use Rattle.sy_rules.specs.Faults.{fault, when}
use Rattle.sy_rules.specs.items.ItemFaults.{object_faults}
use Rattle.sy_rules.specs.parameters.Objects.{action_of, input_of, kind_of_action, ruleset_of}
use Rattle.sy_rules.specs.items.Outline.{Item}
use Rattle.sy_rules.specs.parameters.Values.{given}
use Rattle.sy_rules.specs.parts.Plans.{action_at, action_name, action_names, actions_of, default_ruleset, input_at, inputs_of, names_from, rulesets_of}
use Rattle.sy_rules.specs.check.ScriptFaults.{faults_among, is_among, is_main_queue, loads_imtcp, not_loaded, ports_of, ruleset_names_of, same_port, too_many, unknown_ruleset}
use Rattle.sy_rules.specs.internal.Checking.{faults_after}
use Rattle.sy_rules.proofs.lemmas.check.AmongLaws.{IsAmong, among_by, any_found, any_map, any_of, contained, made_any, none_when}
use Rattle.sy_rules.proofs.lemmas.check.CleanItems.{are_clean, few_enough}
use Rattle.sy_rules.proofs.lemmas.parameters.Fits.{no_back, no_front}
use Rattle.sy_rules.proofs.lemmas.check.ItemFacts.{action_with, equal_bytes, found_action, found_name, input_with, loads, main_is, name_found, ruleset_with, same_bytes}
use Rattle.sy_rules.proofs.lemmas.parameters.ParameterFaultLaws.{own_refuted}
use Rattle.sy_rules.proofs.lemmas.check.ScriptLaws.{length-names}
use Rattle.sy_rules.proofs.lemmas.check.TestFaultLaws.{tree_refuted}

-- ---- an item at its place

record IsRight (all before : List Item) (x : Item) : Type 0 where
  own : object_faults x ≡ []
  among : faults_among all before x ≡ []

right_at : (all front before after : List Item) (x : Item) → faults_after all front (before ++ x ∷ after) ≡ [] → IsRight all (front ++ before) x
right_at all front [] after x e =
    let rest = no_back (object_faults x) (faults_among all front x ++ faults_after all (front ++ x ∷ []) after) e in
    record {
      own = no_front (object_faults x) (faults_among all front x ++ faults_after all (front ++ x ∷ []) after) e;
      among = rw (append-nil front) (no_front (faults_among all front x) (faults_after all (front ++ x ∷ []) after) rest);
    }
right_at all front (b ∷ before) after x e =
    let behind = faults_after all (front ++ b ∷ []) (before ++ x ∷ after) in
    let rest = no_back (faults_among all front b) behind (no_back (object_faults b) (faults_among all front b ++ behind) e) in
    subst (λ xs. IsRight all xs x) (append_assoc front (b ∷ []) before) (right_at all (front ++ b ∷ []) before after x rest)

module _ (all : List Item) (clean : faults_after all [] all ≡ []) where
  right : (before after : List Item) (x : Item) → all ≡ before ++ x ∷ after → IsRight all before x
  right before after x split = right_at all [] before after x (subst (λ xs. faults_after all [] xs ≡ []) split clean)

  -- ---- inputs

  module _ (ps : List Param) (before after : List Item) (split : all ≡ before ++ Item.Object object.Input ps ∷ after) where
    abbrev known : List ItemFault
    known = unknown_ruleset (ruleset_names_of all) (input_of ps).ruleset_name

    abbrev taken : List ItemFault
    taken = same_port (ports_of before) (input_of ps).port

    behind_many : not_loaded (list_any loads_imtcp all) ++ (known ++ taken) ≡ []
    behind_many = no_back (too_many INPUTS (length (ports_of before)) (codes "input")) (not_loaded (list_any loads_imtcp all) ++ (known ++ taken)) (right before after (Item.Object object.Input ps) split).among

    is_loaded : not_loaded (list_any loads_imtcp all) ≡ []
    is_loaded = no_front (not_loaded (list_any loads_imtcp all)) (known ++ taken) behind_many

    pub is_known : unknown_ruleset (ruleset_names_of all) (input_of ps).ruleset_name ≡ []
    is_known = no_front known taken (no_back (not_loaded (list_any loads_imtcp all)) (known ++ taken) behind_many)

    is_free : taken ≡ []
    is_free = no_back known taken (no_back (not_loaded (list_any loads_imtcp all)) (known ++ taken) behind_many)

  loaded_by : (b : Bool) → list_any loads_imtcp all ≡ b → not_loaded b ≡ [] → NoneIs LoadsImtcp all → ⊥
  loaded_by true is e none = let m = any_found loads_imtcp all is in none m.0 (contained m.0 all m.1) (loads m.0 m.2)
  loaded_by false is e none = absurd cc

  unloaded : (x : Item) → IsAmong x all → IsInput x → NoneIs LoadsImtcp all → ⊥
  unloaded (Item.Object object.Input ps) a is none = loaded_by (list_any loads_imtcp all) refl (is_loaded ps a.0 a.1 a.2) none
  unloaded (Item.Object object.MainQueue ps) a is none = is
  unloaded (Item.Object object.Module ps) a is none = is
  unloaded (Item.Object object.Global ps) a is none = is
  unloaded (Item.Ruleset ps) a is none = is
  unloaded (Item.Action ps) a is none = is
  unloaded (Item.Call name) a is none = is
  unloaded (Item.Test test) a is none = is

  -- a name that is looked for is there
  there_is : (name : List ℕ) (b : Bool) → is_among name (ruleset_names_of all) ≡ b → b ≡ true → NoneIs (IsRuleset name) all → ⊥
  there_is name b is e none = let m = name_found all name (are_clean all clean) (is ∙ e) in none m.0 (contained m.0 all m.1) m.2

  bound_by : (name : List ℕ) (a b : Bool) → bytes_eq name default_ruleset ≡ a → is_among name (ruleset_names_of all) ≡ b → when (not (a || b)) (fault code.Unknown name) ≡ [] → (name ≡ default_ruleset → ⊥) → NoneIs (IsRuleset name) all → ⊥
  bound_by name true b default is e other none = other (same_bytes name default_ruleset default)
  bound_by name false true default is e other none = there_is name true is refl none
  bound_by name false false default is e other none = absurd cc

  bound_to : (name : List ℕ) (ps : List Param) → given (codes "ruleset") ps ≡ Some name → unknown_ruleset (ruleset_names_of all) (input_of ps).ruleset_name ≡ [] → (name ≡ default_ruleset → ⊥) → NoneIs (IsRuleset name) all → ⊥
  unfolding input_of
  bound_to name ps is e other none =
      bound_by name (bytes_eq name default_ruleset) (is_among name (ruleset_names_of all)) refl refl (subst (λ o. unknown_ruleset (ruleset_names_of all) o ≡ []) is e) other none

  unbound : (name : List ℕ) (x : Item) → IsAmong x all → IsBoundTo name x → (name ≡ default_ruleset → ⊥) → NoneIs (IsRuleset name) all → ⊥
  unbound name (Item.Object object.Input ps) a is other none = bound_to name ps is (is_known ps a.0 a.1 a.2) other none
  unbound name (Item.Object object.MainQueue ps) a is other none = is
  unbound name (Item.Object object.Module ps) a is other none = is
  unbound name (Item.Object object.Global ps) a is other none = is
  unbound name (Item.Ruleset ps) a is other none = is
  unbound name (Item.Action ps) a is other none = is
  unbound name (Item.Call called) a is other none = is
  unbound name (Item.Test test) a is other none = is

  port_twice : (port : ℕ) (x y : Item) (before after : List Item) → all ≡ before ++ y ∷ after → IsAmong x before → IsInputOfPort port x → IsInputOfPort port y → ⊥
  port_twice port x y before after split among first later =
      let p = input_with port x first in
      let q = input_with port y later in
      let here = is_free q.params before after (split ∙ ap (λ z. before ++ z ∷ after) q.is) in
      let same : (input_of p.params).port ≡ (input_of q.params).port = p.same ∙ sym q.same in
      let found = any_map (λ (i : InputParameters). i.port) (λ n. n == (input_of q.params).port) (inputs_of before)
      ∙ made_any input_at (λ (i : InputParameters). i.port == (input_of q.params).port) before x (input_of p.params) among (ap input_at p.is) (eq-eqb (input_of p.params).port (input_of q.params).port same) in
      none_when (list_any (λ n. n == (input_of q.params).port) (ports_of before)) (fault code.SamePort (decimal (input_of q.params).port)) here found

  -- ---- main queues, rulesets, actions, calls

  main_twice : (x y : Item) (before after : List Item) → all ≡ before ++ y ∷ after → IsAmong x before → IsMainQueue x → IsMainQueue y → ⊥
  main_twice x (Item.Object object.MainQueue ps) before after split among first later =
      none_when (list_any is_main_queue before) (fault code.Duplicate (codes "main_queue")) (right before after (Item.Object object.MainQueue ps) split).among (any_of is_main_queue before x among (main_is x first))
  main_twice x (Item.Object object.Input ps) before after split among first later = later
  main_twice x (Item.Object object.Module ps) before after split among first later = later
  main_twice x (Item.Object object.Global ps) before after split among first later = later
  main_twice x (Item.Ruleset ps) before after split among first later = later
  main_twice x (Item.Action ps) before after split among first later = later
  main_twice x (Item.Call name) before after split among first later = later
  main_twice x (Item.Test test) before after split among first later = later

  -- a ruleset's name is no other's
  own_name : (ps : List Param) (before after : List Item) → all ≡ before ++ Item.Ruleset ps ∷ after → is_among (ruleset_of ps).name (default_ruleset ∷ ruleset_names_of before) ≡ true → ⊥
  own_name ps before after split found =
      let name = (ruleset_of ps).name in
      let rest = no_back (too_many RULESETS (length (ruleset_names_of before)) (codes "ruleset")) (when (is_among name (default_ruleset ∷ ruleset_names_of before)) (fault code.Duplicate name)) (right before after (Item.Ruleset ps) split).among in
      none_when (is_among name (default_ruleset ∷ ruleset_names_of before)) (fault code.Duplicate name) rest found

  or_later : (a b : Bool) → b ≡ true → (a || b) ≡ true
  or_later true b e = refl
  or_later false b e = e

  name_twice : (name : List ℕ) (x y : Item) (before after : List Item) → all ≡ before ++ y ∷ after → IsAmong x before → IsRuleset name x → IsRuleset name y → ⊥
  name_twice name x y before after split among first later =
      let q = ruleset_with name y later in
      let found = found_name before name x among first in
      own_name q.params before after (split ∙ ap (λ z. before ++ z ∷ after) q.is)
      (or_later (bytes_eq (ruleset_of q.params).name default_ruleset) (is_among (ruleset_of q.params).name (ruleset_names_of before)) (subst (λ n. is_among n (ruleset_names_of before) ≡ true) (sym q.same) found))

  named_default : (x : Item) → IsAmong x all → IsRuleset default_ruleset x → ⊥
  named_default x among is =
      let q = ruleset_with default_ruleset x is in
      let default = equal_bytes (ruleset_of q.params).name default_ruleset q.same in
      own_name q.params among.0 among.1 (among.2 ∙ ap (λ z. among.0 ++ z ∷ among.1) q.is) (rw default refl)

  action_twice : (before between after : List Item) (x y : Item) (name : List ℕ) → all ≡ (before ++ x ∷ between) ++ y ∷ after → IsAction before name x → IsAction (before ++ x ∷ between) name y → ⊥
  action_twice before between after x y name split first later =
      let front = before ++ x ∷ between in
      let p = action_with before name x first in
      let q = action_with front name y later in
      let own = action_name (length (actions_of front)) (action_of (kind_of_action q.params) q.params).name in
      let here = (right front after (Item.Action q.params) (split ∙ ap (λ z. front ++ z ∷ after) q.is)).among in
      let rest = no_back (too_many ACTIONS (length (action_names front)) (codes "action")) (when (is_among own (action_names front)) (fault code.Duplicate own)) here in
      let a = action_of (kind_of_action p.params) p.params in
      let actions : actions_of front ≡ actions_of before ++ a ∷ actions_of between = filter_map-append action_at before (x ∷ between) ∙ ap (λ z. actions_of before ++ actions_of (z ∷ between)) p.is in
      let zeros : 0 + length (actions_of before) ≡ length (actions_of before) = omega arith in
      let same : bytes_eq own (action_name (0 + length (actions_of before)) a.name) ≡ true = equal_bytes own (action_name (0 + length (actions_of before)) a.name) (q.same ∙ sym (rw zeros p.same)) in
      let found = found_action (bytes_eq own) 0 (actions_of before) (actions_of between) a same in
      none_when (is_among own (action_names front)) (fault code.Duplicate own) rest (subst (λ xs. is_among own (names_from 0 xs) ≡ true) (sym actions) found)

  called_by : (name : List ℕ) (a b : Bool) → bytes_eq name default_ruleset ≡ a → is_among name (ruleset_names_of all) ≡ b → when (a || not b) (fault code.Unknown name) ≡ [] → (a ≡ false) × (b ≡ true)
  called_by name true b default is e = absurd cc
  called_by name false true default is e = (refl, refl)
  called_by name false false default is e = absurd cc

  call_right : (name : List ℕ) → IsAmong (Item.Call name) all → (bytes_eq name default_ruleset ≡ false) × (is_among name (ruleset_names_of all) ≡ true)
  call_right name a = called_by name (bytes_eq name default_ruleset) (is_among name (ruleset_names_of all)) refl refl (right a.0 a.1 (Item.Call name) a.2).among

  -- ---- how many

  many_inputs : (ps : List Param) (before after : List Item) → all ≡ before ++ Item.Object object.Input ps ∷ after → length (inputs_of before) < INPUTS
  many_inputs ps before after split =
      let rest = not_loaded (list_any loads_imtcp all) ++ (known ps before after split ++ taken ps before after split) in
      let few = few_enough INPUTS (length (ports_of before)) (codes "input") (no_front (too_many INPUTS (length (ports_of before)) (codes "input")) rest (right before after (Item.Object object.Input ps) split).among) in
      omega (arith, few, length-map (inputs_of before) (λ (i : InputParameters). i.port))

  many_rulesets : (ps : List Param) (before after : List Item) → all ≡ before ++ Item.Ruleset ps ∷ after → length (rulesets_of before) < RULESETS
  many_rulesets ps before after split =
      let name = (ruleset_of ps).name in
      let names = ruleset_names_of before in
      let few = few_enough RULESETS (length names) (codes "ruleset") (no_front (too_many RULESETS (length names) (codes "ruleset")) (when (is_among name (default_ruleset ∷ names)) (fault code.Duplicate name)) (right before after (Item.Ruleset ps) split).among) in
      omega (arith, few, length-map (rulesets_of before) (λ (r : RulesetParameters). r.name))

  many_actions : (ps : List Param) (before after : List Item) → all ≡ before ++ Item.Action ps ∷ after → length (actions_of before) < ACTIONS
  many_actions ps before after split =
      let name = action_name (length (actions_of before)) (action_of (kind_of_action ps) ps).name in
      let names = action_names before in
      let few = few_enough ACTIONS (length names) (codes "action") (no_front (too_many ACTIONS (length names) (codes "action")) (when (is_among name names) (fault code.Duplicate name)) (right before after (Item.Action ps) split).among) in
      omega (arith, few, length-names 0 (actions_of before))

  -- ---- all of them

  pub item_refuted : (before after : List Item) (x : Item) (f : ItemFault) → all ≡ before ++ x ∷ after → HasItemFault all before x f → ⊥
  item_refuted before after y f split (HasItemFault.test tree g is) = tree_refuted tree g is (right before after (Item.Test tree) split).among
  item_refuted before after y f split (HasItemFault.parameter x g is) = own_refuted x g is (right before after x split).own
  item_refuted before after z f split (HasItemFault.main_queue x y there p q) = main_twice x y before after split (among_by x before there) p q
  item_refuted before after z f split (HasItemFault.same_ruleset_name x y name there s t p q) = name_twice name x y before after split (among_by x before there) p q
  item_refuted before after z f split (HasItemFault.default_name x s is) = named_default x (before, after, split) is
  item_refuted before after z f split (HasItemFault.same_action_name front between x y name inside s t p q) =
      action_twice front between after x y name (split ∙ ap (λ xs. xs ++ y ∷ after) inside) p (subst (λ xs. IsAction xs name y) inside q)
  item_refuted before after z f split (HasItemFault.bound x name is other none) = unbound name x (before, after, split) is other none
  item_refuted before after z f split (HasItemFault.called name none) = there_is name true (call_right name (before, after, split)).1 refl none
  item_refuted before after z f split HasItemFault.default_called = let no = (call_right default_ruleset (before, after, split)).0 in absurd cc
  item_refuted before after z f split (HasItemFault.inputs ps many) = absurd (omega (arith, many, many_inputs ps before after split))
  item_refuted before after z f split (HasItemFault.rulesets ps many) = absurd (omega (arith, many, many_rulesets ps before after split))
  item_refuted before after z f split (HasItemFault.actions ps many) = absurd (omega (arith, many, many_actions ps before after split))
  item_refuted before after z f split (HasItemFault.same_port x y port there s t p q) = port_twice port x y before after split (among_by x before there) p q
  item_refuted before after z f split (HasItemFault.not_loaded x s is none) = unloaded x (before, after, split) is none

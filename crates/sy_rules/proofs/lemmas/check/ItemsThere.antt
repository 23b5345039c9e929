-- The first fault of a script's items is there.
use Rattle.std.proofs.Common.{◌≡◌, ℕ, ◌+◌, ◌≤◌, ◌==◌, inl, inr, Bool, true, false, not, ◌||◌, nat_le, List, [], ◌∷◌, ◌++◌, length, Option, Some, None, codes, map, refl, sym, ap, ◌∙◌, subst, append_assoc, arith}
use Rattle.std.specs.Fmt.{decimal}
use Rattle.std.specs.List.{list_any}
use Rattle.std.specs.Str.{bytes_eq}
use Rattle.std.proofs.lemmas.Bool.{eqb-true, leb-true, or_cases}
use Rattle.std.proofs.lemmas.List.{length-map, map-append}
use Rattle.sy_script.specs.declared.tree.ExprTree.{ExprTree}
use Rattle.sy_script.specs.declared.tree.ObjectKind.TheVariants as object
use Rattle.sy_script.specs.declared.tree.Param.{Param}
use Rattle.sy_select.specs.Trees.{tree_faults}
use Rattle.sy_rules.specs.Limits.{ACTIONS, INPUTS, RULESETS}
use Rattle.sy_rules.specs.declared.fault.FaultCode.TheVariants as code
use Rattle.sy_rules.specs.declared.fault.PlanFault.{PlanFault}
use Rattle.sy_rules.specs.declared.items.fault.ItemFault.{ItemFault}
use Rattle.sy_rules.specs.declared.items.outline.Item.{Item as CodeItem}
use Rattle.sy_rules.specs.declared.parameters.kind.Kind.TheVariants as kind
use Rattle.sy_rules.specs.declared.parameters.objects.InputParameters.{InputParameters}
use Rattle.sy_rules.specs.declared.parameters.objects.RulesetParameters.{RulesetParameters}
use Rattle.sy_rules.specs.check.FaultsThere.{HasItemFault, IsInputOfPort, IsRuleset}
use Rattle.sy_rules.specs.Faults.{fault, first, in_text, when}
use Rattle.sy_rules.specs.items.ItemFaults.{object_faults}
use Rattle.sy_rules.specs.internal.Checking.{AreClean, faults_after}
use Rattle.sy_rules.specs.parameters.Objects.{action_of, input_of, kind_of_action, ruleset_of}
use Rattle.sy_rules.specs.items.Outline.{Item, Placed, items_of}
use Rattle.sy_rules.specs.parameters.Values.{faults, given}
use Rattle.sy_rules.specs.parts.Plans.{action_name, action_names, actions_of, default_ruleset, input_at, inputs_of, rulesets_of}
use Rattle.sy_rules.specs.check.ScriptFaults.{as_item_fault, faults_among, faults_in_text, is_among, is_main_queue, loads_imtcp, not_loaded, ports_of, ruleset_names_of, same_port, too_many, unknown_ruleset}
use Rattle.sy_rules.proofs.lemmas.check.AmongLaws.{any_found, any_map, contained, first_map, first_of, first_when, made_found, move}
use Rattle.sy_rules.proofs.lemmas.check.ItemFacts.{clean_of, clean_more, equal_bytes, given_name, is_main, name_found, name_of_ruleset, named_found, none_loads, none_named, port_given, port_of_input, same_bytes}
use Rattle.sy_rules.specs.items.ItemViews.{item, placed}
use Rattle.sy_rules.proofs.lemmas.items.PlacedItems.{items_placed}
use Rattle.sy_rules.proofs.lemmas.parameters.Fits.{no_back, no_front}
use Rattle.sy_rules.proofs.lemmas.parameters.ParameterFaultLaws.{own_there, no_own_fault}
use Rattle.sy_rules.proofs.lemmas.check.ScriptLaws.{length-names}
use Rattle.sy_rules.proofs.lemmas.check.TestFaultLaws.{none_of_map, tree_there}

not_true : (b : Bool) → not b ≡ true → b ≡ false
not_true true e = absurd cc
not_true false e = refl

neither : (a b : Bool) → not (a || b) ≡ true → (a ≡ false) × (b ≡ false)
neither true b e = absurd cc
neither false b e = (refl, not_true b e)

-- ---- how many

many : (most n : ℕ) (word : List ℕ) (f : ItemFault) → first (too_many most n word) ≡ Some f → (most ≤ n) × (fault code.Range word ≡ f)
many most n word f e = let w = first_when (nat_le most n) (fault code.Range word) f e in (leb-true most n w.0, w.1)

-- ---- an item at its place

module _ (all before : List Item) (clean : AreClean before) where
  -- an input
  module _ (ps : List Param) (right : faults kind.Input ps ≡ []) where
    abbrev input : Item
    input = Item.Object object.Input ps

    many_inputs : (f : ItemFault) → first (too_many INPUTS (length (ports_of before)) (codes "input")) ≡ Some f → HasItemFault all before input f
    many_inputs f e =
        let w = many INPUTS (length (ports_of before)) (codes "input") f e in
        let count = length-map (inputs_of before) (λ (i : InputParameters). i.port) in
        move (HasItemFault all before input) w.1 (HasItemFault.inputs ps (omega (arith, w.0, count)))

    unloaded : (f : ItemFault) → first (not_loaded (list_any loads_imtcp all)) ≡ Some f → HasItemFault all before input f
    unloaded f e =
        let w = first_when (not (list_any loads_imtcp all)) (fault code.NotLoaded (codes "imtcp")) f e in
        move (HasItemFault all before input) w.1 (HasItemFault.not_loaded input (no_own_fault input right) tt (none_loads all (not_true (list_any loads_imtcp all) w.0)))

    unbound : (o : Option (List ℕ)) (f : ItemFault) → given (codes "ruleset") ps ≡ o → first (unknown_ruleset (ruleset_names_of all) o) ≡ Some f → HasItemFault all before input f
    unbound None f is e = absurd cc
    unbound (Some name) f is e =
        let w = first_when (not (bytes_eq name default_ruleset || is_among name (ruleset_names_of all))) (fault code.Unknown name) f e in
        let both = neither (bytes_eq name default_ruleset) (is_among name (ruleset_names_of all)) w.0 in
        move (HasItemFault all before input) w.1
        (HasItemFault.bound input name is (λ same. let there = equal_bytes name default_ruleset same in absurd cc) (none_named all name both.1))

    port_twice : (f : ItemFault) → first (same_port (ports_of before) (input_of ps).port) ≡ Some f → HasItemFault all before input f
    port_twice f e =
        let port = (input_of ps).port in
        let w = first_when (list_any (λ p. p == port) (ports_of before)) (fault code.SamePort (decimal port)) f e in
        let m = made_found input_at (λ (i : InputParameters). i.port == port) before (sym (any_map (λ (i : InputParameters). i.port) (λ p. p == port) (inputs_of before)) ∙ w.0) in
        let cleaned = clean_of before m.x m.among clean in
        let first_port = subst (λ p. IsInputOfPort p m.x) (eqb-true m.y.port port m.met) (port_of_input m.x m.y m.is cleaned) in
        move (HasItemFault all before input) w.1
        (HasItemFault.same_port m.x input port (contained m.x before m.among) (no_own_fault m.x cleaned) (no_own_fault input right) first_port (port_given ps right))

    input_there : (f : ItemFault) → first (faults_among all before (Item.Object object.Input ps)) ≡ Some f → HasItemFault all before input f
    unfolding input_of
    input_there f e =
        elim (first_of (too_many INPUTS (length (ports_of before)) (codes "input")) (not_loaded (list_any loads_imtcp all) ++ (unknown_ruleset (ruleset_names_of all) (input_of ps).ruleset_name ++ same_port (ports_of before) (input_of ps).port)) f e) [
          | inl a ↦ many_inputs f a
          | inr b ↦ elim (first_of (not_loaded (list_any loads_imtcp all)) (unknown_ruleset (ruleset_names_of all) (input_of ps).ruleset_name ++ same_port (ports_of before) (input_of ps).port) f b.1) [
            | inl c ↦ unloaded f c
            | inr d ↦ elim (first_of (unknown_ruleset (ruleset_names_of all) (input_of ps).ruleset_name) (same_port (ports_of before) (input_of ps).port) f d.1) [
              | inl g ↦ unbound (given (codes "ruleset") ps) f refl g
              | inr h ↦ port_twice f h.1
            ]
          ]
        ]

  main_queue_there : (ps : List Param) (f : ItemFault) → first (faults_among all before (Item.Object object.MainQueue ps)) ≡ Some f → HasItemFault all before (Item.Object object.MainQueue ps) f
  main_queue_there ps f e =
      let w = first_when (list_any is_main_queue before) (fault code.Duplicate (codes "main_queue")) f e in
      let m = any_found is_main_queue before w.0 in
      move (HasItemFault all before (Item.Object object.MainQueue ps)) w.1 (HasItemFault.main_queue m.0 (Item.Object object.MainQueue ps) (contained m.0 before m.1) (is_main m.0 m.2) tt)

  -- a ruleset
  module _ (ps : List Param) (right : faults kind.Ruleset ps ≡ []) where
    named : IsRuleset (ruleset_of ps).name (Item.Ruleset ps)
    named = name_of_ruleset (Item.Ruleset ps) (ruleset_of ps) refl right

    name_twice : (f : ItemFault) → first (when (is_among (ruleset_of ps).name (default_ruleset ∷ ruleset_names_of before)) (fault code.Duplicate (ruleset_of ps).name)) ≡ Some f → HasItemFault all before (Item.Ruleset ps) f
    name_twice f e =
        let w = first_when (is_among (ruleset_of ps).name (default_ruleset ∷ ruleset_names_of before)) (fault code.Duplicate (ruleset_of ps).name) f e in
        move (HasItemFault all before (Item.Ruleset ps)) w.1 (elim (or_cases (bytes_eq (ruleset_of ps).name default_ruleset) (is_among (ruleset_of ps).name (ruleset_names_of before)) w.0) [
          | inl default ↦
              let same = same_bytes (ruleset_of ps).name default_ruleset default in
              subst (λ n. HasItemFault all before (Item.Ruleset ps) (fault code.Duplicate n)) (sym same)
              (HasItemFault.default_name (Item.Ruleset ps) (no_own_fault (Item.Ruleset ps) right) (subst (λ n. IsRuleset n (Item.Ruleset ps)) same named))
          | inr earlier ↦
              let m = name_found before (ruleset_of ps).name clean earlier in
              HasItemFault.same_ruleset_name m.0 (Item.Ruleset ps) (ruleset_of ps).name (contained m.0 before m.1) (no_own_fault m.0 (clean_of before m.0 m.1 clean)) (no_own_fault (Item.Ruleset ps) right) m.2 named
        ])

    many_rulesets : (f : ItemFault) → first (too_many RULESETS (length (ruleset_names_of before)) (codes "ruleset")) ≡ Some f → HasItemFault all before (Item.Ruleset ps) f
    many_rulesets f e =
        let w = many RULESETS (length (ruleset_names_of before)) (codes "ruleset") f e in
        let count = length-map (rulesets_of before) (λ (r : RulesetParameters). r.name) in
        move (HasItemFault all before (Item.Ruleset ps)) w.1 (HasItemFault.rulesets ps (omega (arith, w.0, count)))

    ruleset_there : (f : ItemFault) → first (faults_among all before (Item.Ruleset ps)) ≡ Some f → HasItemFault all before (Item.Ruleset ps) f
    ruleset_there f e =
        elim (first_of (too_many RULESETS (length (ruleset_names_of before)) (codes "ruleset")) (when (is_among (ruleset_of ps).name (default_ruleset ∷ ruleset_names_of before)) (fault code.Duplicate (ruleset_of ps).name)) f e) [
          | inl a ↦ many_rulesets f a
          | inr b ↦ name_twice f b.1
        ]

  -- an action
  module _ (ps : List Param) (right : faults (kind_of_action ps) ps ≡ []) where
    abbrev its_name : List ℕ
    its_name = action_name (length (actions_of before)) (action_of (kind_of_action ps) ps).name

    many_actions : (f : ItemFault) → first (too_many ACTIONS (length (action_names before)) (codes "action")) ≡ Some f → HasItemFault all before (Item.Action ps) f
    many_actions f e =
        let w = many ACTIONS (length (action_names before)) (codes "action") f e in
        let count = length-names 0 (actions_of before) in
        move (HasItemFault all before (Item.Action ps)) w.1 (HasItemFault.actions ps (omega (arith, w.0, count)))

    called_twice : (f : ItemFault) → first (when (is_among its_name (action_names before)) (fault code.Duplicate its_name)) ≡ Some f → HasItemFault all before (Item.Action ps) f
    called_twice f e =
        let w = first_when (is_among its_name (action_names before)) (fault code.Duplicate its_name) f e in
        let m = named_found 0 (bytes_eq its_name) before w.0 in
        let same = same_bytes its_name (action_name (0 + length (actions_of m.before)) (given (codes "name") m.params)) m.met in
        let zeros : 0 + length (actions_of m.before) ≡ length (actions_of m.before) = omega arith in
        let earlier : action_name (length (actions_of m.before)) (given (codes "name") m.params) ≡ its_name = sym (rw zeros at same) in
        move (HasItemFault all before (Item.Action ps)) w.1
        (HasItemFault.same_action_name m.before m.after (Item.Action m.params) (Item.Action ps) its_name m.split
        (no_own_fault (Item.Action m.params) (clean_of before (Item.Action m.params) (m.before, m.after, m.split) clean))
        (no_own_fault (Item.Action ps) right) earlier (ap (action_name (length (actions_of before))) (sym (given_name ps))))

    action_there : (f : ItemFault) → first (faults_among all before (Item.Action ps)) ≡ Some f → HasItemFault all before (Item.Action ps) f
    action_there f e =
        elim (first_of (too_many ACTIONS (length (action_names before)) (codes "action")) (when (is_among its_name (action_names before)) (fault code.Duplicate its_name)) f e) [
          | inl a ↦ many_actions f a
          | inr b ↦ called_twice f b.1
        ]

  call_there : (name : List ℕ) (f : ItemFault) → first (faults_among all before (Item.Call name)) ≡ Some f → HasItemFault all before (Item.Call name) f
  call_there name f e =
      let w = first_when (bytes_eq name default_ruleset || not (is_among name (ruleset_names_of all))) (fault code.Unknown name) f e in
      move (HasItemFault all before (Item.Call name)) w.1 (elim (or_cases (bytes_eq name default_ruleset) (not (is_among name (ruleset_names_of all))) w.0) [
        | inl default ↦ subst (λ n. HasItemFault all before (Item.Call n) (fault code.Unknown n)) (sym (same_bytes name default_ruleset default)) HasItemFault.default_called
        | inr absent ↦ HasItemFault.called name (none_named all name (not_true (is_among name (ruleset_names_of all)) absent))
      ])

  test_there : (tree : ExprTree) (f : ItemFault) → first (map as_item_fault (tree_faults tree)) ≡ Some f → HasItemFault all before (Item.Test tree) f
  test_there tree f e = let w = tree_there tree f e in move (HasItemFault all before (Item.Test tree)) w.2 (HasItemFault.test tree w.0 w.1)

  among_there : (x : Item) (f : ItemFault) → object_faults x ≡ [] → first (faults_among all before x) ≡ Some f → HasItemFault all before x f
  among_there (Item.Object object.MainQueue ps) f right e = main_queue_there ps f e
  among_there (Item.Object object.Input ps) f right e = input_there ps right f e
  among_there (Item.Object object.Module ps) f right e = absurd cc
  among_there (Item.Object object.Global ps) f right e = absurd cc
  among_there (Item.Ruleset ps) f right e = ruleset_there ps right f e
  among_there (Item.Action ps) f right e = action_there ps right f e
  among_there (Item.Call name) f right e = call_there name f e
  among_there (Item.Test tree) f right e = test_there tree f e

  pub here_there : (x : Item) (f : ItemFault) → first (object_faults x ++ faults_among all before x) ≡ Some f → HasItemFault all before x f
  here_there x f e = elim (first_of (object_faults x) (faults_among all before x) f e) [
    | inl own ↦ HasItemFault.parameter x f (own_there x f own)
    | inr rest ↦ among_there x f rest.0 rest.1
  ]

-- ---- all items, in the text

items_more : (before : List Placed) (x : Placed) → items_of (before ++ x ∷ []) ≡ items_of before ++ x.item ∷ []
items_more before x = map-append (λ (y : Placed). y.item) before (x ∷ [])

module _ (all : List Placed) where
  -- a fault of an item of these, in the text
  pub record IsOfItem (f : PlanFault) : Type 0 where
    pub before : List Placed
    pub later : List Placed
    pub x : Placed
    pub own : ItemFault
    pub split : all ≡ before ++ x ∷ later
    pub there : HasItemFault (items_of all) (items_of before) x.item own
    pub same : in_text x.span own ≡ f

  pub behind_there : (before later : List Placed) (f : PlanFault) → all ≡ before ++ later → AreClean (items_of before) → first (faults_in_text (items_of all) (items_of before) later) ≡ Some f → IsOfItem f
  behind_there before [] f split clean e = absurd cc
  behind_there before (x ∷ later) f split clean e =
      let here = object_faults x.item ++ faults_among (items_of all) (items_of before) x.item in
      let rest = faults_in_text (items_of all) (items_of before ++ x.item ∷ []) later in
      elim (first_of (map (in_text x.span) here) rest f e) [
        | inl own ↦
            let m = first_map (in_text x.span) here f own in
            record { before = before; later = later; x = x; own = m.0; split = split; there = here_there (items_of all) (items_of before) clean x.item m.0 m.1; same = m.2 }
        | inr behind ↦
            let right = no_front (object_faults x.item) (faults_among (items_of all) (items_of before) x.item) (none_of_map (in_text x.span) here behind.0) in
            let more = items_more before x in
            behind_there (before ++ x ∷ []) later f (split ∙ sym (append_assoc before (x ∷ []) later)) (subst AreClean (sym more) (clean_more (items_of before) x.item clean right))
            (subst (λ xs. first (faults_in_text (items_of all) xs later) ≡ Some f) (sym more) behind.1)
      ]

-- Where none is found in the text, none is found in the items.
none_of_three : {A : Type 0} (xs ys zs : List A) → xs ++ ys ≡ [] → zs ≡ [] → xs ++ (ys ++ zs) ≡ []
none_of_three [] [] zs e h = h
none_of_three [] (y ∷ ys) zs e h = absurd cc
none_of_three (x ∷ xs) ys zs e h = absurd cc

pub none_in_text : (all before : List Item) (later : List Placed) → faults_in_text all before later ≡ [] → faults_after all before (items_of later) ≡ []
none_in_text all before [] e = refl
none_in_text all before (x ∷ later) e =
    let here = object_faults x.item ++ faults_among all before x.item in
    let rest = faults_in_text all (before ++ x.item ∷ []) later in
    none_of_three (object_faults x.item) (faults_among all before x.item) (faults_after all (before ++ x.item ∷ []) (items_of later))
    (none_of_map (in_text x.span) here (no_front (map (in_text x.span) here) rest e))
    (none_in_text all (before ++ x.item ∷ []) later (no_back (map (in_text x.span) here) rest e))

pub clean_in_text : (items : List CodeItem) → faults_in_text (map item items) [] (map placed items) ≡ [] → faults_after (map item items) [] (map item items) ≡ []
clean_in_text items e = subst (λ xs. faults_after (map item items) [] xs ≡ []) (items_placed items) (none_in_text (map item items) [] (map placed items) e)

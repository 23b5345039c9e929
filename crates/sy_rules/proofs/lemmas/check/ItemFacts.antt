-- What items are, by what is read of them.
use Rattle.std.proofs.Common.{◌≡◌, ℕ, inl, inr, Bool, true, false, ◌||◌, ◌+◌, suc, List, [], ◌∷◌, ◌++◌, length, Option, Some, None, is_some, unwrap_or, option_and_then, codes, refl, sym, ap, ◌∙◌, subst, arith}
use Rattle.std.specs.List.{list_any}
use Rattle.std.specs.Str.{bytes_eq}
use Rattle.std.proofs.lemmas.Bool.{or_cases}
use Rattle.std.proofs.lemmas.Option.{same_Some}
use Rattle.std.proofs.lemmas.Slice.Eq.{bytes_eq-Decides}
use Rattle.sy_script.specs.declared.tree.ObjectKind.TheVariants as object
use Rattle.sy_script.specs.declared.tree.Param.{Param}
use Rattle.sy_rules.specs.declared.parameters.kind.Kind.TheVariants as kind
use Rattle.sy_rules.specs.declared.parameters.objects.ActionParameters.{ActionParameters}
use Rattle.sy_rules.specs.declared.parameters.objects.InputParameters.{InputParameters}
use Rattle.sy_rules.specs.declared.parameters.objects.RulesetParameters.{RulesetParameters}
use Rattle.sy_rules.specs.check.FaultsThere.{IsInputOfPort, IsAction, IsMainQueue, IsRuleset, LoadsImtcp, NoneIs}
use Rattle.sy_rules.specs.items.ItemFaults.{object_faults}
use Rattle.sy_rules.specs.internal.Checking.{AreClean}
use Rattle.sy_rules.specs.parameters.Objects.{action_of, default_number, input_of, kind_of_action, is_word, number_of, ruleset_of, text}
use Rattle.sy_rules.specs.items.Outline.{Item}
use Rattle.sy_rules.specs.parameters.Values.{decimal_value, faults, given, has_shape}
use Rattle.sy_rules.specs.parts.Plans.{action_at, action_name, actions_of, input_at, names_from, ruleset_at, rulesets_of}
use Rattle.sy_rules.specs.check.ScriptFaults.{is_among, is_main_queue, loads_imtcp, ruleset_names_of}
use Rattle.sy_rules.specs.parameters.Rows.{Absent, Shape, destination_rows, lookup, own_rows, queue_head_rows, queue_rest_rows, row, rows}
use Rattle.sy_rules.proofs.lemmas.check.AmongLaws.{IsAmong, among_by, any_map, any_of, made_any, made_found}
use Rattle.sy_rules.proofs.lemmas.parameters.Fits.{fit, given_if_required}

pub same_bytes : (a b : List ℕ) → bytes_eq a b ≡ true → a ≡ b
same_bytes a b e = (bytes_eq-Decides a b).0 e

pub equal_bytes : (a b : List ℕ) → a ≡ b → bytes_eq a b ≡ true
equal_bytes a b e = (bytes_eq-Decides a b).1 e

-- ---- items of a list without faults of their own

clean_at : (before after : List Item) (x : Item) → AreClean (before ++ x ∷ after) → object_faults x ≡ []
clean_at [] after x c = c.0
clean_at (b ∷ before) after x c = clean_at before after x c.1

pub clean_of : (xs : List Item) (x : Item) → IsAmong x xs → AreClean xs → object_faults x ≡ []
clean_of xs x a c = clean_at a.0 a.1 x (subst AreClean a.2 c)

pub clean_more : (xs : List Item) (x : Item) → AreClean xs → object_faults x ≡ [] → AreClean (xs ++ x ∷ [])
clean_more [] x c e = (e, tt)
clean_more (y ∷ xs) x c e = (c.0, clean_more xs x c.1 e)

-- ---- inputs

port_row : lookup (rows kind.Input) (codes "port") ≡ Some (row (codes "port") (Shape.Number 1 65535) Absent.Required)
unfolding own_rows destination_rows queue_head_rows queue_rest_rows
port_row = refl

port_number : (lowest highest : ℕ) (value : List ℕ) → has_shape (Shape.Number lowest highest) value ≡ true → is_some (decimal_value value) ≡ true
unfolding has_shape
port_number lowest highest value e = e

number_there : (ps : List Param) (value : List ℕ) (default : ℕ) → given (codes "port") ps ≡ Some value → (o : Option ℕ) → decimal_value value ≡ o → is_some o ≡ true → IsInputOfPort (unwrap_or o default) (Item.Object object.Input ps)
number_there ps value default found None is e = absurd cc
number_there ps value default found (Some n) is e = (value, found, is)

port_there : (ps : List Param) → faults kind.Input ps ≡ [] → (default : ℕ) (o : Option (List ℕ)) → given (codes "port") ps ≡ o → is_some o ≡ true → IsInputOfPort (unwrap_or (option_and_then decimal_value o) default) (Item.Object object.Input ps)
port_there ps clean default None found e = absurd cc
port_there ps clean default (Some value) found e =
    number_there ps value default found (decimal_value value) refl (port_number 1 65535 value (fit kind.Input ps clean (codes "port") value _ found port_row).has)

-- an input without faults has its port
pub port_given : (ps : List Param) → faults kind.Input ps ≡ [] → IsInputOfPort (input_of ps).port (Item.Object object.Input ps)
unfolding input_of number_of
port_given ps clean =
    port_there ps clean (default_number 0 (lookup (rows kind.Input) (codes "port"))) (given (codes "port") ps) refl (given_if_required kind.Input ps clean (codes "port") _ port_row refl)

pub port_of_input : (x : Item) (i : InputParameters) → input_at x ≡ Some i → object_faults x ≡ [] → IsInputOfPort i.port x
port_of_input (Item.Object object.Input ps) i is clean = subst (λ (j : InputParameters). IsInputOfPort j.port (Item.Object object.Input ps)) (same_Some (input_of ps) i is) (port_given ps clean)
port_of_input (Item.Object object.MainQueue ps) i is clean = absurd cc
port_of_input (Item.Object object.Module ps) i is clean = absurd cc
port_of_input (Item.Object object.Global ps) i is clean = absurd cc
port_of_input (Item.Ruleset ps) i is clean = absurd cc
port_of_input (Item.Action ps) i is clean = absurd cc
port_of_input (Item.Call name) i is clean = absurd cc
port_of_input (Item.Test test) i is clean = absurd cc

-- the input that has a port
pub record IsPortOf (port : ℕ) (x : Item) : Type 0 where
  pub params : List Param
  pub is : x ≡ Item.Object object.Input params
  pub same : (input_of params).port ≡ port

port_is : (port : ℕ) (ps : List Param) → IsInputOfPort port (Item.Object object.Input ps) → (input_of ps).port ≡ port
unfolding input_of number_of
port_is port ps h = rw (h.1, h.2) refl

pub input_with : (port : ℕ) (x : Item) → IsInputOfPort port x → IsPortOf port x
input_with port (Item.Object object.Input ps) h = record { params = ps; is = refl; same = port_is port ps h }
input_with port (Item.Object object.MainQueue ps) h = absurd h
input_with port (Item.Object object.Module ps) h = absurd h
input_with port (Item.Object object.Global ps) h = absurd h
input_with port (Item.Ruleset ps) h = absurd h
input_with port (Item.Action ps) h = absurd h
input_with port (Item.Call name) h = absurd h
input_with port (Item.Test test) h = absurd h

-- ---- main queues

pub is_main : (x : Item) → is_main_queue x ≡ true → IsMainQueue x
is_main (Item.Object object.MainQueue ps) e = tt
is_main (Item.Object object.Input ps) e = absurd cc
is_main (Item.Object object.Module ps) e = absurd cc
is_main (Item.Object object.Global ps) e = absurd cc
is_main (Item.Ruleset ps) e = absurd cc
is_main (Item.Action ps) e = absurd cc
is_main (Item.Call name) e = absurd cc
is_main (Item.Test test) e = absurd cc

pub main_is : (x : Item) → IsMainQueue x → is_main_queue x ≡ true
main_is (Item.Object object.MainQueue ps) e = refl
main_is (Item.Object object.Input ps) e = absurd e
main_is (Item.Object object.Module ps) e = absurd e
main_is (Item.Object object.Global ps) e = absurd e
main_is (Item.Ruleset ps) e = absurd e
main_is (Item.Action ps) e = absurd e
main_is (Item.Call name) e = absurd e
main_is (Item.Test test) e = absurd e

-- ---- modules

imtcp_named : (o : Option (List ℕ)) → is_word (codes "imtcp") o ≡ true → o ≡ Some (codes "imtcp")
imtcp_named None e = absurd cc
imtcp_named (Some word) e = ap Some (same_bytes word (codes "imtcp") e)

pub loads : (x : Item) → loads_imtcp x ≡ true → LoadsImtcp x
loads (Item.Object object.Module ps) e = imtcp_named (given (codes "load") ps) e
loads (Item.Object object.Input ps) e = absurd cc
loads (Item.Object object.MainQueue ps) e = absurd cc
loads (Item.Object object.Global ps) e = absurd cc
loads (Item.Ruleset ps) e = absurd cc
loads (Item.Action ps) e = absurd cc
loads (Item.Call name) e = absurd cc
loads (Item.Test test) e = absurd cc

pub loads_is : (x : Item) → LoadsImtcp x → loads_imtcp x ≡ true
loads_is (Item.Object object.Module ps) e = rw e refl
loads_is (Item.Object object.Input ps) e = absurd e
loads_is (Item.Object object.MainQueue ps) e = absurd e
loads_is (Item.Object object.Global ps) e = absurd e
loads_is (Item.Ruleset ps) e = absurd e
loads_is (Item.Action ps) e = absurd e
loads_is (Item.Call name) e = absurd e
loads_is (Item.Test test) e = absurd e

pub none_loads : (all : List Item) → list_any loads_imtcp all ≡ false → NoneIs LoadsImtcp all
none_loads all e x among is = let there = any_of loads_imtcp all x (among_by x all among) (loads_is x is) in absurd cc

-- ---- rulesets

name_row : lookup (rows kind.Ruleset) (codes "name") ≡ Some (row (codes "name") Shape.AnyText Absent.Required)
unfolding own_rows destination_rows queue_head_rows queue_rest_rows
name_row = refl

text_there : (o : Option (List ℕ)) → is_some o ≡ true → o ≡ Some (text o)
text_there None e = absurd cc
text_there (Some name) e = refl

name_given : (ps : List Param) → faults kind.Ruleset ps ≡ [] → given (codes "name") ps ≡ Some (ruleset_of ps).name
unfolding ruleset_of
name_given ps clean = text_there (given (codes "name") ps) (given_if_required kind.Ruleset ps clean (codes "name") _ name_row refl)

-- a ruleset without faults has its name
pub name_of_ruleset : (x : Item) (r : RulesetParameters) → ruleset_at x ≡ Some r → object_faults x ≡ [] → IsRuleset r.name x
name_of_ruleset (Item.Ruleset ps) r is clean = subst (λ (s : RulesetParameters). given (codes "name") ps ≡ Some s.name) (same_Some (ruleset_of ps) r is) (name_given ps clean)
name_of_ruleset (Item.Object object.Input ps) r is clean = absurd cc
name_of_ruleset (Item.Object object.MainQueue ps) r is clean = absurd cc
name_of_ruleset (Item.Object object.Module ps) r is clean = absurd cc
name_of_ruleset (Item.Object object.Global ps) r is clean = absurd cc
name_of_ruleset (Item.Action ps) r is clean = absurd cc
name_of_ruleset (Item.Call name) r is clean = absurd cc
name_of_ruleset (Item.Test test) r is clean = absurd cc

-- the ruleset of a name
pub record IsNameOf (name : List ℕ) (x : Item) : Type 0 where
  pub params : List Param
  pub is : x ≡ Item.Ruleset params
  pub same : (ruleset_of params).name ≡ name

name_is : (name : List ℕ) (ps : List Param) → given (codes "name") ps ≡ Some name → (ruleset_of ps).name ≡ name
unfolding ruleset_of
name_is name ps e = rw e refl

pub ruleset_with : (name : List ℕ) (x : Item) → IsRuleset name x → IsNameOf name x
ruleset_with name (Item.Ruleset ps) h = record { params = ps; is = refl; same = name_is name ps h }
ruleset_with name (Item.Object object.Input ps) h = absurd h
ruleset_with name (Item.Object object.MainQueue ps) h = absurd h
ruleset_with name (Item.Object object.Module ps) h = absurd h
ruleset_with name (Item.Object object.Global ps) h = absurd h
ruleset_with name (Item.Action ps) h = absurd h
ruleset_with name (Item.Call other) h = absurd h
ruleset_with name (Item.Test test) h = absurd h

-- it is found among the names
pub found_name : (xs : List Item) (name : List ℕ) (x : Item) → IsAmong x xs → IsRuleset name x → is_among name (ruleset_names_of xs) ≡ true
found_name xs name x among is =
    let r = ruleset_with name x is in
    any_map (λ s. s.name) (bytes_eq name) (rulesets_of xs)
    ∙ made_any ruleset_at (λ s. bytes_eq name s.name) xs x (ruleset_of r.params) among (ap ruleset_at r.is) (equal_bytes name (ruleset_of r.params).name (sym r.same))

-- a name that is found is that of a ruleset
pub name_found : (xs : List Item) (name : List ℕ) → AreClean xs → is_among name (ruleset_names_of xs) ≡ true → (x : Item) × IsAmong x xs × IsRuleset name x
name_found xs name clean e =
    let m = made_found ruleset_at (λ (r : RulesetParameters). bytes_eq name r.name) xs (sym (any_map (λ (r : RulesetParameters). r.name) (bytes_eq name) (rulesets_of xs)) ∙ e) in
    (m.x, m.among, subst (λ n. IsRuleset n m.x) (sym (same_bytes name m.y.name m.met)) (name_of_ruleset m.x m.y m.is (clean_of xs m.x m.among clean)))

pub none_named : (all : List Item) (name : List ℕ) → is_among name (ruleset_names_of all) ≡ false → NoneIs (IsRuleset name) all
none_named all name e x among is = let there = found_name all name x (among_by x all among) is in absurd cc

-- ---- actions

pub given_name : (ps : List Param) → (action_of (kind_of_action ps) ps).name ≡ given (codes "name") ps
unfolding action_of
given_name ps = refl

-- an action among these, which are numbered from this number on
pub record Named (number : ℕ) (test : List ℕ → Bool) (xs : List Item) : Type 0 where
  pub before : List Item
  pub params : List Param
  pub after : List Item
  pub split : xs ≡ before ++ Item.Action params ∷ after
  pub met : test (action_name (number + length (actions_of before)) (given (codes "name") params)) ≡ true

later_named : (number : ℕ) (test : List ℕ → Bool) (x : Item) (xs : List Item) → action_at x ≡ None → Named number test xs → Named number test (x ∷ xs)
later_named number test x xs is m =
    let same : actions_of (x ∷ m.before) ≡ actions_of m.before = rw is refl in
    record { before = x ∷ m.before; params = m.params; after = m.after; split = ap (λ ys. x ∷ ys) m.split; met = rw same m.met }

behind_named : (number : ℕ) (test : List ℕ → Bool) (ps : List Param) (xs : List Item) → Named (number + 1) test xs → Named number test (Item.Action ps ∷ xs)
behind_named number test ps xs m =
    let same : number + length (actions_of (Item.Action ps ∷ m.before)) ≡ (number + 1) + length (actions_of m.before) = omega arith in
    record { before = Item.Action ps ∷ m.before; params = m.params; after = m.after; split = ap (λ ys. Item.Action ps ∷ ys) m.split; met = rw same m.met }

first_named : (number : ℕ) (test : List ℕ → Bool) (ps : List Param) (xs : List Item) → test (action_name number (action_of (kind_of_action ps) ps).name) ≡ true → Named number test (Item.Action ps ∷ xs)
first_named number test ps xs met =
    let same : number + length (actions_of []) ≡ number = omega arith in
    record { before = []; params = ps; after = xs; split = refl; met = rw (same, ← given_name ps) met }

pub named_found : (number : ℕ) (test : List ℕ → Bool) (xs : List Item) → list_any test (names_from number (actions_of xs)) ≡ true → Named number test xs
named_found number test [] e = absurd cc
named_found number test (Item.Action ps ∷ xs) e = elim (or_cases (test (action_name number (action_of (kind_of_action ps) ps).name)) (list_any test (names_from (number + 1) (actions_of xs))) e) [
  | inl met ↦ first_named number test ps xs met
  | inr later ↦ behind_named number test ps xs (named_found (number + 1) test xs later)
]
named_found number test (Item.Object object.Input ps ∷ xs) e = later_named number test (Item.Object object.Input ps) xs refl (named_found number test xs e)
named_found number test (Item.Object object.MainQueue ps ∷ xs) e = later_named number test (Item.Object object.MainQueue ps) xs refl (named_found number test xs e)
named_found number test (Item.Object object.Module ps ∷ xs) e = later_named number test (Item.Object object.Module ps) xs refl (named_found number test xs e)
named_found number test (Item.Object object.Global ps ∷ xs) e = later_named number test (Item.Object object.Global ps) xs refl (named_found number test xs e)
named_found number test (Item.Ruleset ps ∷ xs) e = later_named number test (Item.Ruleset ps) xs refl (named_found number test xs e)
named_found number test (Item.Call name ∷ xs) e = later_named number test (Item.Call name) xs refl (named_found number test xs e)
named_found number test (Item.Test tree ∷ xs) e = later_named number test (Item.Test tree) xs refl (named_found number test xs e)

-- the name of an action is among those of a list in which it stands
pub record IsActionCalled (before : List Item) (name : List ℕ) (x : Item) : Type 0 where
  pub params : List Param
  pub is : x ≡ Item.Action params
  pub same : action_name (length (actions_of before)) (action_of (kind_of_action params) params).name ≡ name

pub action_with : (before : List Item) (name : List ℕ) (x : Item) → IsAction before name x → IsActionCalled before name x
action_with before name (Item.Action ps) h = record { params = ps; is = refl; same = ap (action_name (length (actions_of before))) (given_name ps) ∙ h }
action_with before name (Item.Ruleset ps) h = absurd h
action_with before name (Item.Object object.Input ps) h = absurd h
action_with before name (Item.Object object.MainQueue ps) h = absurd h
action_with before name (Item.Object object.Module ps) h = absurd h
action_with before name (Item.Object object.Global ps) h = absurd h
action_with before name (Item.Call other) h = absurd h
action_with before name (Item.Test test) h = absurd h

either_true : (b : Bool) {later : Bool} → later ≡ true → (b || later) ≡ true
either_true true e = refl
either_true false e = e

pub found_action : (test : List ℕ → Bool) (number : ℕ) (before between : List ActionParameters) (a : ActionParameters) → test (action_name (number + length before) a.name) ≡ true → list_any test (names_from number (before ++ a ∷ between)) ≡ true
found_action test number [] between a met =
    let same : number ≡ number + 0 = omega arith in
    let here : test (action_name number a.name) ≡ true = rw same met in
    rw here refl
found_action test number (b ∷ before) between a met =
    let same : (number + 1) + length before ≡ number + suc (length before) = omega arith in
    either_true (test (action_name number b.name)) (found_action test (number + 1) before between a (rw same met))

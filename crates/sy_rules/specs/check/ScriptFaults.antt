-- What is wrong with a script that is read and is no plan: each fault by itself, in the order of the text.
use Rattle.std.specs.Prelude.{ℕ, ◌+◌, ◌==◌, Bool, true, false, not, ◌||◌, nat_le, nat_lt, List, [], ◌∷◌, ◌++◌, length, Option, Some, None, map, sum, codes}
use Rattle.std.specs.Fmt.{decimal}
use Rattle.std.specs.List.{filter_map, list_any}
use Rattle.std.specs.Str.{bytes_eq}
use Rattle.sy_script.specs.declared.tree.ObjectKind.TheVariants as object
use Rattle.sy_script.specs.declared.tree.Script.{Script}
use Rattle.sy_script.specs.declared.tree.Span.{Span}
use Rattle.sy_select.specs.declared.fault.FaultCode.{FaultCode as SelectCode}
use Rattle.sy_select.specs.declared.fault.FaultCode.TheVariants as select
use Rattle.sy_select.specs.declared.fault.SelectFault.{SelectFault}
use Rattle.sy_select.specs.Trees.{tree_faults}
use Rattle.sy_rules.specs.Limits.{CALL_DEPTH, ACTIONS, INPUTS, OCCURRENCES, RULESETS, STATEMENTS, WORKERS}
use Rattle.sy_rules.specs.declared.fault.FaultCode.{FaultCode}
use Rattle.sy_rules.specs.declared.fault.FaultCode.TheVariants as code
use Rattle.sy_rules.specs.declared.fault.PlanFault.{PlanFault}
use Rattle.sy_rules.specs.declared.items.fault.ItemFault.{ItemFault}
use Rattle.sy_rules.specs.declared.parameters.objects.InputParameters.{InputParameters}
use Rattle.sy_rules.specs.Faults.{fault, fault_at, fault_of_part, in_text, nowhere, when}
use Rattle.sy_rules.specs.parameters.Objects.{is_word, input_of, ruleset_of, kind_of_action, action_of}
use Rattle.sy_rules.specs.items.ItemFaults.{object_faults}
use Rattle.sy_rules.specs.items.Outline.{Item, Placed, items, placed_items}
use Rattle.sy_rules.specs.parameters.Values.{given}
pub use Rattle.sy_rules.specs.parts.Plans.{ruleset_names as ruleset_names_of}
use Rattle.sy_rules.specs.parts.Plans.{inputs_of, rulesets_of, actions_of, action_name, action_names, queues_of, default_ruleset}
use Rattle.sy_rules.specs.lists.Texts.{parts}
use Rattle.sy_rules.specs.lists.Body as body
use Rattle.sy_rules.specs.lists.Lines.{File, Lines, lists_of, is_deeper, body_of, statements_of}

-- ---- faults among the items: each at the place of its item, but for those of expressions

abbrev pub is_main_queue : Item → Bool
is_main_queue (Item.Object object.MainQueue params) = true
is_main_queue _ = false

abbrev pub loads_imtcp : Item → Bool
loads_imtcp (Item.Object object.Module params) = is_word (codes "imtcp") (given (codes "load") params)
loads_imtcp _ = false

-- so many of a kind stand before one more
abbrev pub too_many : ℕ → ℕ → List ℕ → List ItemFault
too_many most before word = when (nat_le most before) (fault code.Range word)

abbrev pub ports_of : List Item → List ℕ
ports_of all = map (λ i. i.port) (inputs_of all)

abbrev pub is_among : List ℕ → List (List ℕ) → Bool
is_among name names = list_any (bytes_eq name) names

-- what is there already is there twice
abbrev pub second_main_queue : Bool → List ItemFault
second_main_queue there = when there (fault code.Duplicate (codes "main_queue"))

-- an input whose module is loaded nowhere in the file
abbrev pub not_loaded : Bool → List ItemFault
not_loaded loaded = when (not loaded) (fault code.NotLoaded (codes "imtcp"))

-- an input may name the default ruleset, or one of the file, which has these names
abbrev pub unknown_ruleset : List (List ℕ) → Option (List ℕ) → List ItemFault
unknown_ruleset names None = []
unknown_ruleset names (Some name) = when (not (is_among name (default_ruleset ∷ names))) (fault code.Unknown name)

-- a port of an input before; the word is its number
abbrev pub same_port : List ℕ → ℕ → List ItemFault
same_port ports port = when (list_any (λ p. p == port) ports) (fault code.SamePort (decimal port))

-- an input after those of these ports
abbrev pub input_faults : Bool → List (List ℕ) → List ℕ → InputParameters → List ItemFault
input_faults loaded names ports i =
    too_many INPUTS (length ports) (codes "input") ++ (not_loaded loaded ++ (unknown_ruleset names i.ruleset_name ++ same_port ports i.port))

-- A ruleset after those of these names: it may have none of them, nor that of the default one.
abbrev pub ruleset_faults : List (List ℕ) → List ℕ → List ItemFault
ruleset_faults before name =
    too_many RULESETS (length before) (codes "ruleset") ++ when (is_among name (default_ruleset ∷ before)) (fault code.Duplicate name)

-- an action after those of these names, which has this one
abbrev pub action_faults : List (List ℕ) → List ℕ → List ItemFault
action_faults before name = too_many ACTIONS (length before) (codes "action") ++ when (is_among name before) (fault code.Duplicate name)

-- a call of a ruleset that isn't there, or of the default one
abbrev pub call_faults : List (List ℕ) → List ℕ → List ItemFault
call_faults names name = when (bytes_eq name default_ruleset || not (is_among name names)) (fault code.Unknown name)

-- the faults of expressions have the same names here, and the same places
abbrev pub code_of : SelectCode → FaultCode
code_of select.Facility = code.Facility
code_of select.Severity = code.Severity
code_of select.Shape = code.Shape
code_of select.Operator = code.Operator
code_of select.Unknown = code.Unknown
code_of select.NoMemory = code.NoMemory

abbrev pub as_item_fault : SelectFault → ItemFault
as_item_fault f = fault_of_part f.span (code_of f.code) f.word

-- what is wrong with an item among the others: all the items of the file, and those before it
abbrev pub faults_among : List Item → List Item → Item → List ItemFault
faults_among all before (Item.Object object.MainQueue params) = second_main_queue (list_any is_main_queue before)
faults_among all before (Item.Object object.Input params) = input_faults (list_any loads_imtcp all) (ruleset_names_of all) (ports_of before) (input_of params)
faults_among all before (Item.Object object.Module params) = []
faults_among all before (Item.Object object.Global params) = []
faults_among all before (Item.Ruleset params) = ruleset_faults (ruleset_names_of before) (ruleset_of params).name
faults_among all before (Item.Action params) = action_faults (action_names before) (action_name (length (actions_of before)) (action_of (kind_of_action params) params).name)
faults_among all before (Item.Call name) = call_faults (ruleset_names_of all) name
faults_among all before (Item.Test test) = map as_item_fault (tree_faults test)

-- the same in the text, where each has its place
abbrev pub faults_in_text : List Item → List Item → List Placed → List PlanFault
faults_in_text all before [] = []
faults_in_text all before (x ∷ later) =
    map (in_text x.span) (object_faults x.item ++ faults_among all before x.item) ++ faults_in_text all (before ++ x.item ∷ []) later

-- ---- faults of the whole, which have a place where one ruleset is meant

abbrev pub too_many_workers : List Item → List PlanFault
too_many_workers all = when (nat_lt WORKERS (sum (map (λ q. q.workers) (queues_of all)))) (fault_at nowhere code.Range (codes "queue.workerThreads"))

-- the head of a list: the name of its ruleset, and the place of the word `ruleset`
pub record Head : Type 0 where
  pub name : List ℕ
  pub span : Span

abbrev pub head_at : Span → Item → Option Head
head_at span (Item.Ruleset params) = Some (record { name = (ruleset_of params).name; span = span })
head_at span _ = None

abbrev pub head_of : Placed → Option Head
head_of x = head_at x.span x.item

-- that of the default ruleset, which stands nowhere
abbrev pub default_head : Head
default_head = record { name = default_ruleset; span = nowhere }

-- all of them: list 0 is the default ruleset's, and those of the others follow in the order of the text
abbrev pub heads_of : List Placed → List Head
heads_of all = default_head ∷ filter_map head_of all

-- a list with calls that lie too deep in one another, or above its limits
abbrev pub list_faults : List Lines → Head → ℕ → List PlanFault
list_faults lists head l =
    when (is_deeper lists CALL_DEPTH l) (fault_at head.span code.CallDepth head.name)
    ++ when (nat_lt STATEMENTS (statements_of lists l) || nat_lt OCCURRENCES (body.count (body_of lists l))) (fault_at head.span code.TooManyDeeds head.name)

-- those of the lists from this one on, which have these heads
abbrev pub faults_of_lists : List Lines → ℕ → List Head → List PlanFault
faults_of_lists lists l [] = []
faults_of_lists lists l (head ∷ heads) = list_faults lists head l ++ faults_of_lists lists (l + 1) heads

-- what the file says without its tests, on which none of these faults depends
abbrev pub untested : List Item → File
untested all = record { rulesets = rulesets_of all; actions = actions_of all; tests = [] }

-- All faults of a script: those of its items in the order of the text, then too many workers, then those of its lists in their order.
abbrev pub faults_of : Script → List PlanFault
faults_of script =
    faults_in_text (items script) [] (placed_items script)
    ++ (too_many_workers (items script)
    ++ faults_of_lists (lists_of (untested (items script)) (parts script.tops)) 0 (heads_of (placed_items script)))

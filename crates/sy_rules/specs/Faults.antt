-- The faults of a script that is no plan, and which one is answered.
use Rattle.std.specs.Prelude.{◌≡◌, ◌⊎◌, ℕ, Bool, if◌then◌else◌, List, [], ◌∷◌, Option, Some, None, unwrap_or, codes}
use Rattle.sy_script.specs.declared.tree.Span.{Span}
use Rattle.sy_select.specs.Faults.{with_word}
use Rattle.sy_rules.specs.declared.fault.FaultCode.{FaultCode}
use Rattle.sy_rules.specs.declared.fault.FaultCode.TheVariants as code
use Rattle.sy_rules.specs.declared.fault.PlanFault.{PlanFault}
use Rattle.sy_rules.specs.declared.items.fault.ItemFault.{ItemFault}

abbrev pub number : FaultCode → ℕ
number code.Facility = 31
number code.Severity = 32
number code.Shape = 33
number code.Operator = 34
number code.Missing = 40
number code.Duplicate = 41
number code.Unknown = 42
number code.BadValue = 43
number code.Range = 44
number code.CallDepth = 45
number code.TooManyDeeds = 46
number code.SamePort = 47
number code.NotLoaded = 48
number code.NoMemory = 49

-- the number and the name of a fault
abbrev pub words : FaultCode → List ℕ
words code.Facility = codes "31 Facility"
words code.Severity = codes "32 Severity"
words code.Shape = codes "33 Shape"
words code.Operator = codes "34 Operator"
words code.Missing = codes "40 Missing"
words code.Duplicate = codes "41 Duplicate"
words code.Unknown = codes "42 Unknown"
words code.BadValue = codes "43 BadValue"
words code.Range = codes "44 Range"
words code.CallDepth = codes "45 CallDepth"
words code.TooManyDeeds = codes "46 TooManyDeeds"
words code.SamePort = codes "47 SamePort"
words code.NotLoaded = codes "48 NotLoaded"
words code.NoMemory = codes "49 NoMemory"

-- the empty place, of what stands nowhere in the text
abbrev pub nowhere : Span
nowhere = record { start = 0; end = 0 }

-- a fault at its place in the text
abbrev pub fault_at : Span → FaultCode → List ℕ → PlanFault
fault_at span c word = record { code = c; word = word; span = span }

abbrev pub no_memory : PlanFault
no_memory = fault_at nowhere code.NoMemory []

-- A fault in words, without its place: its number and name, and its word where it has one. It says nothing where the word is no text.
abbrev pub fault_text : PlanFault → Option (List ℕ)
fault_text f = with_word (words f.code) f.word

-- ---- of an item: an object, an action, a call or a test of a script

-- a fault whose place is that of the item
abbrev pub fault : FaultCode → List ℕ → ItemFault
fault c word = record { code = c; word = word; place = None }

-- a fault of a part of the item that stands here
abbrev pub fault_of_part : Span → FaultCode → List ℕ → ItemFault
fault_of_part span c word = record { code = c; word = word; place = Some span }

-- in the text, where the item stands here
abbrev pub in_text : Span → ItemFault → PlanFault
in_text item f = fault_at (unwrap_or f.place item) f.code f.word

-- ---- which one is answered

-- a fault where it is there
abbrev pub when : {A : Type 0} → Bool → A → List A
when there f = if there then f ∷ [] else []

-- Faults stand in the order of the text, and the first is the one to answer.
abbrev pub first : {A : Type 0} → List A → Option A
first [] = None
first (f ∷ later) = Some f

-- what is answered where these faults are there: the first, or that memory ran out
abbrev pub IsAnswered : List PlanFault → PlanFault → Type 0
IsAnswered faults answer = (answer ≡ no_memory) ⊎ (first faults ≡ Some answer)

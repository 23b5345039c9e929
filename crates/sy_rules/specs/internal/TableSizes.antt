-- Sizes of a table, statement by statement in the order of the text: blocks are the statements after their test, and calls have sizes of their own.
use Rattle.std.specs.Prelude.{◌≡◌, ℕ, ◌+◌, min, nat_lt, true, false, ◌||◌, List, [], ◌∷◌, ◌++◌, slice_get, unwrap_or}
use Rattle.std.specs.List.{list_any}
use Rattle.sy_select.specs.declared.condition.Test.{Test}
use Rattle.sy_select.specs.Truth.{Formula}
use Rattle.sy_rules.specs.Limits.{OCCURRENCES, STATEMENTS}
use Rattle.sy_rules.specs.declared.fault.FaultCode.TheVariants as code
use Rattle.sy_rules.specs.declared.fault.PlanFault.{PlanFault}
use Rattle.sy_rules.specs.declared.lists.occurrence.Occurrence.{Occurrence}
use Rattle.sy_rules.specs.declared.lists.occurrence.Occurrence.TheVariants as occurrence
use Rattle.sy_rules.specs.declared.lists.sizes.Head.{Head as CodeHead}
use Rattle.sy_rules.specs.declared.lists.sizes.Size.{Size}
use Rattle.sy_rules.specs.declared.lists.statement.Statement.{Statement}
use Rattle.sy_rules.specs.declared.lists.statement.Statement.TheVariants as statement
use Rattle.sy_rules.specs.Faults.{fault_at, when}
use Rattle.sy_rules.specs.check.ScriptFaults.{Head}
use Rattle.sy_rules.specs.lists.Lines.{Lines, expanded, is_deeper, statements_within}
use Rattle.sy_rules.specs.lists.Body.{count}
use Rattle.sy_rules.specs.internal.Tables.{lines_of_tables}

-- the lists that are called
abbrev pub called : List Statement → List ℕ
called [] = []
called (statement.Run action number ∷ rest) = called rest
called (statement.Post list number ∷ rest) = called rest
called (statement.Call list number ∷ rest) = list ∷ called rest
called (statement.Stop ∷ rest) = called rest
called (statement.If test done otherwise ∷ rest) = called rest

-- how many occurrences, where a called list has so many
abbrev pub occurrences_in : (ℕ → ℕ) → List Statement → ℕ
occurrences_in inner [] = 0
occurrences_in inner (statement.Run action number ∷ rest) = 1 + occurrences_in inner rest
occurrences_in inner (statement.Post list number ∷ rest) = 1 + occurrences_in inner rest
occurrences_in inner (statement.Call list number ∷ rest) = inner list + occurrences_in inner rest
occurrences_in inner (statement.Stop ∷ rest) = occurrences_in inner rest
occurrences_in inner (statement.If test done otherwise ∷ rest) = occurrences_in inner rest

-- how many statements, those of a called list beside the call
abbrev pub statements_in : (ℕ → ℕ) → List Statement → ℕ
statements_in inner [] = 0
statements_in inner (statement.Run action number ∷ rest) = 1 + statements_in inner rest
statements_in inner (statement.Post list number ∷ rest) = 1 + statements_in inner rest
statements_in inner (statement.Call list number ∷ rest) = 1 + inner list + statements_in inner rest
statements_in inner (statement.Stop ∷ rest) = 1 + statements_in inner rest
statements_in inner (statement.If test done otherwise ∷ rest) = 1 + statements_in inner rest

-- the occurrences, those of a called list in its place
abbrev pub listed_in : (ℕ → List Occurrence) → List Statement → List Occurrence
listed_in inner [] = []
listed_in inner (statement.Run action number ∷ rest) = occurrence.Run action ∷ listed_in inner rest
listed_in inner (statement.Post list number ∷ rest) = occurrence.Post list ∷ listed_in inner rest
listed_in inner (statement.Call list number ∷ rest) = inner list ++ listed_in inner rest
listed_in inner (statement.Stop ∷ rest) = listed_in inner rest
listed_in inner (statement.If test done otherwise ∷ rest) = listed_in inner rest

-- ---- sizes that end above their limits

-- the number above a limit stands for all larger ones
abbrev pub up_to : ℕ → ℕ → ℕ
up_to limit n = min n (limit + 1)

-- a list of no statements
abbrev pub empty : Size
empty = record { deeper = false; statements = 0; occurrences = 0 }

-- a list that may not be called any more
abbrev pub too_deep : Size
too_deep = record { deeper = true; statements = 0; occurrences = 0 }

abbrev pub size_at : List Size → Size → ℕ → Size
size_at sizes outside list = unwrap_or (slice_get sizes list) outside

-- the size of a table, where the called lists have these
abbrev pub size_of : (ℕ → Size) → List Statement → Size
size_of inner statements = record {
  deeper = list_any (λ l. (inner l).deeper) (called statements);
  statements = up_to STATEMENTS (statements_in (λ l. (inner l).statements) statements);
  occurrences = up_to OCCURRENCES (occurrences_in (λ l. (inner l).occurrences) statements);
}

-- the size of one statement, and of two parts together
abbrev pub size_of_statement : (ℕ → Size) → Statement → Size
size_of_statement inner (statement.Run action number) = record { deeper = false; statements = 1; occurrences = 1 }
size_of_statement inner (statement.Post list number) = record { deeper = false; statements = 1; occurrences = 1 }
size_of_statement inner (statement.Call list number) = record {
  deeper = (inner list).deeper;
  statements = up_to STATEMENTS (1 + (inner list).statements);
  occurrences = up_to OCCURRENCES (inner list).occurrences;
}
size_of_statement inner statement.Stop = record { deeper = false; statements = 1; occurrences = 0 }
size_of_statement inner (statement.If test done otherwise) = record { deeper = false; statements = 1; occurrences = 0 }

abbrev pub plus : Size → Size → Size
plus first second = record {
  deeper = first.deeper || second.deeper;
  statements = up_to STATEMENTS (first.statements + second.statements);
  occurrences = up_to OCCURRENCES (first.occurrences + second.occurrences);
}

-- the size of a list whose calls are expanded so deep
abbrev pub size_within : List Lines → ℕ → ℕ → Size
size_within lists depth list = record {
  deeper = is_deeper lists depth list;
  statements = up_to STATEMENTS (statements_within lists depth list);
  occurrences = up_to OCCURRENCES (count (expanded lists depth list));
}

-- the sizes of lists are these
abbrev pub AreSizes : List (List Statement) → ℕ → List Size → Type 0
AreSizes tables depth sizes = (tests : List (Formula Test)) (list : ℕ) → size_at sizes empty list ≡ size_within (lines_of_tables tests tables) depth list

-- ---- faults by sizes

-- the code's heads of lists, which borrow from the script, as heads
abbrev pub head : CodeHead → Head
head h = record { name = h.name.now; span = h.span }

abbrev pub size_faults : Size → Head → List PlanFault
size_faults size h =
    when size.deeper (fault_at h.span code.CallDepth h.name)
    ++ when (nat_lt STATEMENTS size.statements || nat_lt OCCURRENCES size.occurrences) (fault_at h.span code.TooManyDeeds h.name)

abbrev pub faults_by : List Size → ℕ → List Head → List PlanFault
faults_by sizes list [] = []
faults_by sizes list (h ∷ heads) = size_faults (size_at sizes empty list) h ++ faults_by sizes (list + 1) heads

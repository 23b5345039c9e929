-- The expanded text of a list, its occurrences, and which of them are executed.
use Rattle.std.specs.Prelude.{ℕ, ◌+◌, ◌==◌, Bool, true, false, if◌then◌else◌, List, [], ◌∷◌, ◌++◌, length}
use Rattle.std.specs.List.{list_any}
use Rattle.sy_select.specs.declared.condition.Test.{Test}
use Rattle.sy_select.specs.Truth as truth
use Rattle.sy_select.specs.Truth.{Formula, Valuation}
use Rattle.sy_rules.specs.declared.lists.occurrence.Occurrence.{Occurrence}
use Rattle.sy_rules.specs.declared.lists.occurrence.Occurrence.TheVariants as occurrence

-- The statements of a list in which each call that is made at once is replaced by the statements of the called ruleset.
pub data Body : Type 0 where
  End : Body
  -- this action is executed at once
  Run : ℕ → Body → Body
  -- the message is put into the queue of this list
  Post : ℕ → Body → Body
  Stop : Body → Body
  -- a test, what is done where it holds, what is done otherwise, and what follows
  If : Formula Test → Body → Body → Body → Body

-- one text after another
infixr 40 ◌⧺◌
abbrev pub ◌⧺◌ : Body → Body → Body
Body.End ⧺ after = after
Body.Run a rest ⧺ after = Body.Run a (rest ⧺ after)
Body.Post l rest ⧺ after = Body.Post l (rest ⧺ after)
Body.Stop rest ⧺ after = Body.Stop (rest ⧺ after)
Body.If x done otherwise rest ⧺ after = Body.If x done otherwise (rest ⧺ after)

-- The occurrences, which are numbered from 0 in the order of the text, also where they can't be executed.
abbrev pub occurrences : Body → List Occurrence
occurrences Body.End = []
occurrences (Body.Run a rest) = occurrence.Run a ∷ occurrences rest
occurrences (Body.Post l rest) = occurrence.Post l ∷ occurrences rest
occurrences (Body.Stop rest) = occurrences rest
occurrences (Body.If x done otherwise rest) = occurrences done ++ (occurrences otherwise ++ occurrences rest)

-- the test occurrences, in the order of the text
abbrev pub tests : Body → List Test
tests Body.End = []
tests (Body.Run a rest) = tests rest
tests (Body.Post l rest) = tests rest
tests (Body.Stop rest) = tests rest
tests (Body.If x done otherwise rest) = truth.occurrences x ++ (tests done ++ (tests otherwise ++ tests rest))

-- how many occurrences stand in a text
abbrev pub count : Body → ℕ
count s = length (occurrences s)

-- how many statements stand in a text
abbrev pub size : Body → ℕ
size Body.End = 0
size (Body.Run a rest) = 1 + size rest
size (Body.Post l rest) = 1 + size rest
size (Body.Stop rest) = 1 + size rest
size (Body.If x done otherwise rest) = 1 + size done + size otherwise + size rest

-- ---- execution

-- the occurrences executed, by their numbers in rising order, and whether what follows is executed too
pub record Walk : Type 0 where
  pub executed : List ℕ
  pub goes_on : Bool

abbrev pub nothing : Walk
nothing = record { executed = []; goes_on = true }

abbrev pub one : ℕ → Walk
one number = record { executed = number ∷ []; goes_on = true }

abbrev pub stopped : Walk
stopped = record { executed = []; goes_on = false }

-- A stop ends the whole of what follows.
infixr 40 ◌then◌
abbrev pub ◌then◌ : Walk → Walk → Walk
first then next = if first.goes_on then record { executed = first.executed ++ next.executed; goes_on = next.goes_on } else first

-- What a text executes under a valuation, whose first values are those of the text's test occurrences, where its occurrences are
-- numbered from this number on.
abbrev pub walk : Body → ℕ → Valuation → Walk
walk Body.End number v = nothing
walk (Body.Run a rest) number v = one number then walk rest (number + 1) v
walk (Body.Post l rest) number v = one number then walk rest (number + 1) v
walk (Body.Stop rest) number v = stopped
walk (Body.If x done otherwise rest) number v =
    (if truth.truth x v
    then walk done number (truth.behind (truth.occurrences x) v)
    else walk otherwise (number + count done) (truth.behind (truth.occurrences x ++ tests done) v))
    then walk rest (number + count done + count otherwise) (truth.behind (truth.occurrences x ++ (tests done ++ tests otherwise)) v)

-- the occurrences that a list executes under a valuation, in order
abbrev pub executed : Body → Valuation → List ℕ
executed s v = (walk s 0 v).executed

abbrev pub is_in : ℕ → List ℕ → Bool
is_in number numbers = list_any (λ n. n == number) numbers

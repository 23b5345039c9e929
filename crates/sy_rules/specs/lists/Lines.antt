-- The text of each list, its actions, tests and calls by their numbers, and the expanded text that comes of it.
use Rattle.std.specs.Prelude.{ℕ, zero, suc, ◌+◌, Bool, true, false, if◌then◌else◌, List, [], ◌∷◌, ◌++◌, length, slice_get, Option, Some, None, is_some, unwrap_or, take}
use Rattle.std.specs.List.{list_any}
use Rattle.sy_select.specs.declared.condition.Test.{Test}
use Rattle.sy_select.specs.Truth.{Formula}
use Rattle.sy_rules.specs.declared.parameters.objects.ActionParameters.{ActionParameters}
use Rattle.sy_rules.specs.declared.parameters.objects.RulesetParameters.{RulesetParameters}
use Rattle.sy_rules.specs.Limits.{CALL_DEPTH}
use Rattle.sy_rules.specs.parts.Plans.{names_of, place_of}
use Rattle.sy_rules.specs.lists.Body.{Body, ◌⧺◌}
use Rattle.sy_rules.specs.lists.Texts as text
use Rattle.sy_rules.specs.lists.Texts.{Text, Part}

-- The statements of one list.
pub data Lines : Type 0 where
  End : Lines
  -- an action without a queue
  Run : ℕ → Lines → Lines
  -- an action with a queue, or a call of a ruleset with one: the list that the queue leads to
  Post : ℕ → Lines → Lines
  -- a call of a ruleset without a queue, made at once: the list of that ruleset
  Call : ℕ → Lines → Lines
  Stop : Lines → Lines
  If : Formula Test → Lines → Lines → Lines → Lines

infixr 40 ◌⧻◌
abbrev pub ◌⧻◌ : Lines → Lines → Lines
Lines.End ⧻ after = after
Lines.Run a rest ⧻ after = Lines.Run a (rest ⧻ after)
Lines.Post l rest ⧻ after = Lines.Post l (rest ⧻ after)
Lines.Call l rest ⧻ after = Lines.Call l (rest ⧻ after)
Lines.Stop rest ⧻ after = Lines.Stop (rest ⧻ after)
Lines.If x done otherwise rest ⧻ after = Lines.If x done otherwise (rest ⧻ after)

-- ---- what a file says of its actions, rulesets and tests

pub record File : Type 0 where
  pub rulesets : List RulesetParameters
  pub actions : List ActionParameters
  -- its tests in the order of the text, as they are read
  pub tests : List (Formula Test)

-- how many of these actions have a queue
abbrev pub queued : List ActionParameters → ℕ
queued [] = 0
queued (a ∷ later) = if is_some a.queue then queued later + 1 else queued later

-- The lists are numbered: 0 is that of the statements outside every ruleset, then come those of the rulesets, then one for each action
-- that has a queue.
abbrev pub list_of_action : File → ℕ → ℕ
list_of_action file number = 1 + length file.rulesets + queued (take number file.actions)

abbrev pub action_has_queue : Option ActionParameters → Bool
action_has_queue None = false
action_has_queue (Some a) = is_some a.queue

-- the line of the action of this number
abbrev pub line_of_action : File → ℕ → Lines → Lines
line_of_action file number rest =
    if action_has_queue (slice_get file.actions number) then Lines.Post (list_of_action file number) rest else Lines.Run number rest

abbrev pub ruleset_names : File → List (List ℕ)
ruleset_names file = names_of file.rulesets

abbrev pub is_queued_ruleset : Option RulesetParameters → Bool
is_queued_ruleset None = false
is_queued_ruleset (Some r) = is_some r.queue

abbrev pub call_at : File → Option ℕ → Lines → Lines
call_at file None rest = rest
call_at file (Some place) rest =
    if is_queued_ruleset (slice_get file.rulesets place) then Lines.Post (place + 1) rest else Lines.Call (place + 1) rest

-- the line of a call of the ruleset of this name (in a plan there is one)
abbrev pub line_of_call : File → List ℕ → Lines → Lines
line_of_call file name rest = call_at file (place_of name (ruleset_names file)) rest

abbrev pub test_at : File → ℕ → Formula Test
test_at file number = unwrap_or (slice_get file.tests number) Formula.Never

-- The lines of a text, where so many actions and tests of the file stand before it.
abbrev pub lines : File → ℕ → ℕ → Text → Lines
lines file a t Text.End = Lines.End
lines file a t (Text.Action params rest) = line_of_action file a (lines file (a + 1) t rest)
lines file a t (Text.Call name rest) = line_of_call file name (lines file a t rest)
lines file a t (Text.Stop rest) = Lines.Stop (lines file a t rest)
lines file a t (Text.If test done otherwise rest) =
    Lines.If (test_at file t)
    (lines file a (t + 1) done)
    (lines file (a + length (text.actions done)) (t + 1 + length (text.tests done)) otherwise)
    (lines file (a + length (text.actions done) + length (text.actions otherwise)) (t + 1 + length (text.tests done) + length (text.tests otherwise)) rest)

-- the statements outside every ruleset, where so many actions and tests stand before
abbrev pub outside : File → ℕ → ℕ → List Part → Lines
outside file a t [] = Lines.End
outside file a t (Part.Outside x ∷ later) = lines file a t x ⧻ outside file (a + length (text.actions x)) (t + length (text.tests x)) later
outside file a t (Part.Inside x ∷ later) = outside file (a + length (text.actions x)) (t + length (text.tests x)) later

-- those of the rulesets
abbrev pub inside : File → ℕ → ℕ → List Part → List Lines
inside file a t [] = []
inside file a t (Part.Outside x ∷ later) = inside file (a + length (text.actions x)) (t + length (text.tests x)) later
inside file a t (Part.Inside x ∷ later) = lines file a t x ∷ inside file (a + length (text.actions x)) (t + length (text.tests x)) later

-- one run for each action with a queue, where so many actions stand before
abbrev pub singles : ℕ → List ActionParameters → List Lines
singles number [] = []
singles number (a ∷ later) = if is_some a.queue then Lines.Run number Lines.End ∷ singles (number + 1) later else singles (number + 1) later

abbrev pub lists_of : File → List Part → List Lines
lists_of file ps = outside file 0 0 ps ∷ (inside file 0 0 ps ++ singles 0 file.actions)

-- ---- expansion

-- a text where each call is replaced by what the called list becomes
abbrev pub expand : (ℕ → Body) → Lines → Body
expand become Lines.End = Body.End
expand become (Lines.Run a rest) = Body.Run a (expand become rest)
expand become (Lines.Post l rest) = Body.Post l (expand become rest)
expand become (Lines.Call l rest) = become l ⧺ expand become rest
expand become (Lines.Stop rest) = Body.Stop (expand become rest)
expand become (Lines.If x done otherwise rest) = Body.If x (expand become done) (expand become otherwise) (expand become rest)

abbrev pub list_at : List Lines → ℕ → Lines
list_at lists l = unwrap_or (slice_get lists l) Lines.End

-- the expanded text of a list, where calls lie in one another at most so deep (deeper ones are left out)
abbrev pub expanded : List Lines → ℕ → ℕ → Body
expanded lists zero l = expand (λ callee. Body.End) (list_at lists l)
expanded lists (suc depth) l = expand (expanded lists depth) (list_at lists l)

-- ---- limits

-- the lists that a text calls at once
abbrev pub calls : Lines → List ℕ
calls Lines.End = []
calls (Lines.Run a rest) = calls rest
calls (Lines.Post l rest) = calls rest
calls (Lines.Call l rest) = l ∷ calls rest
calls (Lines.Stop rest) = calls rest
calls (Lines.If x done otherwise rest) = calls done ++ (calls otherwise ++ calls rest)

-- calls made at once lie in one another more than so deep
abbrev pub is_deeper : List Lines → ℕ → ℕ → Bool
is_deeper lists zero l = list_any (λ callee. true) (calls (list_at lists l))
is_deeper lists (suc depth) l = list_any (is_deeper lists depth) (calls (list_at lists l))

-- how many statements the expanded text has; those that replace a call count beside the call
abbrev pub statement_count : (ℕ → ℕ) → Lines → ℕ
statement_count inner Lines.End = 0
statement_count inner (Lines.Run a rest) = 1 + statement_count inner rest
statement_count inner (Lines.Post l rest) = 1 + statement_count inner rest
statement_count inner (Lines.Call l rest) = 1 + inner l + statement_count inner rest
statement_count inner (Lines.Stop rest) = 1 + statement_count inner rest
statement_count inner (Lines.If x done otherwise rest) = 1 + statement_count inner done + statement_count inner otherwise + statement_count inner rest

abbrev pub statements_within : List Lines → ℕ → ℕ → ℕ
statements_within lists zero l = statement_count (λ callee. 0) (list_at lists l)
statements_within lists (suc depth) l = statement_count (statements_within lists depth) (list_at lists l)

abbrev pub body_of : List Lines → ℕ → Body
body_of lists l = expanded lists CALL_DEPTH l

abbrev pub statements_of : List Lines → ℕ → ℕ
statements_of lists l = statements_within lists CALL_DEPTH l

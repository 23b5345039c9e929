-- The tables of a file: that of a text, and those of all lists, where each occurrence still has number 0.
use Rattle.std.specs.Prelude.{◌≡◌, ℕ, ◌+◌, if◌then◌else◌, List, [], ◌∷◌, ◌++◌, length, slice_get, unwrap_or, Option, Some, None, is_some, map}
use Rattle.sy_script.specs.declared.tree.Block.{Block}
use Rattle.sy_rules.specs.declared.lists.build.count.Counts.{Counts}
use Rattle.sy_rules.specs.declared.lists.build.tops.Lists.{Lists}
use Rattle.sy_rules.specs.declared.parameters.objects.ActionParameters.{ActionParameters}
use Rattle.sy_rules.specs.declared.parameters.objects.RulesetParameters.{RulesetParameters}
use Rattle.sy_rules.specs.declared.lists.statement.Statement.{Statement}
use Rattle.sy_rules.specs.declared.lists.statement.Statement.TheVariants as statement
use Rattle.sy_rules.specs.lists.Lines.{is_queued_ruleset}
use Rattle.sy_rules.specs.parts.Plans.{names_of, place_of}
use Rattle.sy_rules.specs.lists.Texts.{Text, Front, Part, actions, tests}
use Rattle.sy_rules.specs.internal.Texts.{front_of_block}

-- ---- single statements

-- those of actions, where this is the number of the first, and this the list of the first with a queue
abbrev pub action_statements : ℕ → ℕ → List ActionParameters → List Statement
action_statements number list [] = []
action_statements number list (a ∷ later) =
    if is_some a.queue then statement.Post list 0 ∷ action_statements (number + 1) (list + 1) later else statement.Run number 0 ∷ action_statements (number + 1) list later

-- the statement of an action, where these are the statements of all
abbrev pub action_statement : List Statement → ℕ → Statement
action_statement statements number = unwrap_or (slice_get statements number) (statement.Run number 0)

-- the statement of a call of the ruleset at this place
abbrev pub call_statement : List RulesetParameters → Option ℕ → Option Statement
call_statement rulesets None = None
call_statement rulesets (Some place) = Some (if is_queued_ruleset (slice_get rulesets place) then statement.Post (place + 1) 0 else statement.Call (place + 1) 0)

-- ---- the table of a text

abbrev pub in_front : Option Statement → List Statement → List Statement
in_front None rest = rest
in_front (Some s) rest = s ∷ rest

abbrev pub if_statements : ℕ → List Statement → List Statement → List Statement → List Statement
if_statements test done otherwise rest = statement.If test (length done) (length otherwise) ∷ (done ++ (otherwise ++ rest))

-- that of a text, where these are the statements of all actions, and so many actions and tests stand before it
abbrev pub table_of : List RulesetParameters → List Statement → ℕ → ℕ → Text → List Statement
table_of rulesets statements a t Text.End = []
table_of rulesets statements a t (Text.Action params rest) = action_statement statements a ∷ table_of rulesets statements (a + 1) t rest
table_of rulesets statements a t (Text.Call name rest) = in_front (call_statement rulesets (place_of name (names_of rulesets))) (table_of rulesets statements a t rest)
table_of rulesets statements a t (Text.Stop rest) = statement.Stop ∷ table_of rulesets statements a t rest
table_of rulesets statements a t (Text.If test done otherwise rest) =
    if_statements t
    (table_of rulesets statements a (t + 1) done)
    (table_of rulesets statements (a + length (actions done)) (t + 1 + length (tests done)) otherwise)
    (table_of rulesets statements (a + length (actions done) + length (actions otherwise)) (t + 1 + length (tests done) + length (tests otherwise)) rest)

-- what `else` says, before a text
abbrev pub front_of_otherwise : Option Block → Front
front_of_otherwise None rest = rest
front_of_otherwise (Some block) rest = front_of_block block rest

-- What stands before a text is put into a table: whatever follows, the table and the counts go on to the same.
pub record IsPush (rulesets : List RulesetParameters) (statements : List Statement) (front : Front) (before after : Counts) (old new : List Statement) : Type 0 where
  pub table : (rest : Text) → new ++ table_of rulesets statements after.actions after.tests rest ≡ old ++ table_of rulesets statements before.actions before.tests (front rest)
  pub actions : (rest : Text) → after.actions + length (actions rest) ≡ before.actions + length (actions (front rest))
  pub tests : (rest : Text) → after.tests + length (tests rest) ≡ before.tests + length (tests (front rest))

-- ---- the tables of a file

-- the one of the statements outside every ruleset
abbrev pub outside_table : List RulesetParameters → List Statement → ℕ → ℕ → List Part → List Statement
outside_table rulesets statements a t [] = []
outside_table rulesets statements a t (Part.Outside x ∷ later) =
    table_of rulesets statements a t x ++ outside_table rulesets statements (a + length (actions x)) (t + length (tests x)) later
outside_table rulesets statements a t (Part.Inside x ∷ later) = outside_table rulesets statements (a + length (actions x)) (t + length (tests x)) later

-- those of the rulesets
abbrev pub inside_tables : List RulesetParameters → List Statement → ℕ → ℕ → List Part → List (List Statement)
inside_tables rulesets statements a t [] = []
inside_tables rulesets statements a t (Part.Outside x ∷ later) = inside_tables rulesets statements (a + length (actions x)) (t + length (tests x)) later
inside_tables rulesets statements a t (Part.Inside x ∷ later) =
    table_of rulesets statements a t x ∷ inside_tables rulesets statements (a + length (actions x)) (t + length (tests x)) later

-- A part of a file is put into the tables so far: whatever follows, they go on to the same.
pub record IsPartPush (rulesets : List RulesetParameters) (statements : List Statement) (found : List Part) (old new : Lists) : Type 0 where
  pub outside : (later : List Part) → new.outside.items ++ outside_table rulesets statements new.counts.actions new.counts.tests later ≡ old.outside.items ++ outside_table rulesets statements old.counts.actions old.counts.tests (found ++ later)
  pub inside : (later : List Part) → map (λ t. t.items) new.inside.items ++ inside_tables rulesets statements new.counts.actions new.counts.tests later ≡ map (λ t. t.items) old.inside.items ++ inside_tables rulesets statements old.counts.actions old.counts.tests (found ++ later)

-- those of actions with a queue
abbrev pub single_tables : ℕ → List ActionParameters → List (List Statement)
single_tables number [] = []
single_tables number (a ∷ later) =
    if is_some a.queue then (statement.Run number 0 ∷ []) ∷ single_tables (number + 1) later else single_tables (number + 1) later

abbrev pub statements_of_actions : List RulesetParameters → List ActionParameters → List Statement
statements_of_actions rulesets actions = action_statements 0 (length rulesets + 1) actions

abbrev pub tables_of : List RulesetParameters → List ActionParameters → List Part → List (List Statement)
tables_of rulesets actions ps =
    outside_table rulesets (statements_of_actions rulesets actions) 0 0 ps
    ∷ (inside_tables rulesets (statements_of_actions rulesets actions) 0 0 ps ++ single_tables 0 actions)

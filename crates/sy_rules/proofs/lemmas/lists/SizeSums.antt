-- Sizes by rounds: of a table statement by statement, and of lists one call deeper from those of the lists that they call.
use Rattle.std.proofs.Common.{◌≡◌, ℕ, suc, ◌+◌, ◌≤◌, Bool, true, false, ◌||◌, List, [], ◌∷◌, ◌++◌, length, map, slice_get, unwrap_or, Option, Some, None, option_map, inl, inr, nat_lt, refl, sym, ap, ◌∙◌, arith}
use Rattle.std.specs.List.{list_any}
use Rattle.std.proofs.Math.Bool.{or-false}
use Rattle.std.proofs.lemmas.Bool.{cases_lt, le-ltb, lt-ltb}
use Rattle.std.proofs.lemmas.Option.{slice_get-map}
use Rattle.sy_select.specs.declared.condition.Test.{Test}
use Rattle.sy_select.specs.Truth.{Formula}
use Rattle.sy_rules.specs.Limits.{CALL_DEPTH, OCCURRENCES, STATEMENTS}
use Rattle.sy_rules.specs.declared.fault.FaultCode.TheVariants as code
use Rattle.sy_rules.specs.declared.lists.sizes.Size.{Size}
use Rattle.sy_rules.specs.declared.lists.statement.Statement.{Statement}
use Rattle.sy_rules.specs.declared.lists.statement.Statement.TheVariants as statement
use Rattle.sy_rules.specs.Faults.{fault_at, when}
use Rattle.sy_rules.specs.lists.Lines.{Lines, calls, expand, expanded, is_deeper, list_at, statement_count, statements_within, statements_of, body_of}
use Rattle.sy_rules.specs.check.ScriptFaults.{Head, list_faults, faults_of_lists}
use Rattle.sy_rules.specs.lists.Body.{Body, count}
use Rattle.sy_rules.specs.internal.Tables.{lines_of_tables, table_at}
use Rattle.sy_rules.specs.internal.TableSizes.{called, occurrences_in, statements_in, up_to, empty, too_deep, size_at, size_of, size_of_statement, plus, size_within, AreSizes, size_faults, faults_by}
use Rattle.sy_rules.proofs.lemmas.lists.SizeLaws.{calls_are, count_is, statements_are}
use Rattle.sy_rules.proofs.lemmas.lists.TableRuns.{list_is}

-- ---- a table statement by statement

joined : (limit a b r : ℕ) → up_to limit (up_to limit (a + b) + r) ≡ up_to limit (a + (b + r))
joined limit a b r = omega arith

or_assoc : (a b c : Bool) → ((a || b) || c) ≡ (a || (b || c))
or_assoc true b c = refl
or_assoc false b c = refl

-- the size so far, and the rest of a table
pub record IsSized (inner : ℕ → Size) (size : Size) (rest table : List Statement) : Type 0 where
  pub deeper : (size.deeper || list_any (λ l. (inner l).deeper) (called rest)) ≡ list_any (λ l. (inner l).deeper) (called table)
  pub statements : up_to STATEMENTS (size.statements + statements_in (λ l. (inner l).statements) rest) ≡ up_to STATEMENTS (statements_in (λ l. (inner l).statements) table)
  pub occurrences : up_to OCCURRENCES (size.occurrences + occurrences_in (λ l. (inner l).occurrences) rest) ≡ up_to OCCURRENCES (occurrences_in (λ l. (inner l).occurrences) table)
  pub few_statements : size.statements ≤ STATEMENTS + 1
  pub few_occurrences : size.occurrences ≤ OCCURRENCES + 1

pub sized_start : (inner : ℕ → Size) (statements : List Statement) → IsSized inner empty statements statements
sized_start inner statements = record { deeper = refl; statements = omega arith; occurrences = omega arith; few_statements = omega arith; few_occurrences = omega arith }

pub sized_all : (inner : ℕ → Size) (size : Size) (statements : List Statement) → IsSized inner size [] statements → size ≡ size_of inner statements
sized_all inner size statements h =
    let d : size.deeper ≡ list_any (λ l. (inner l).deeper) (called statements) = sym (or-false size.deeper) ∙ h.deeper in
    let s : size.statements ≡ up_to STATEMENTS (statements_in (λ l. (inner l).statements) statements) = omega (arith, h.statements, h.few_statements) in
    let o : size.occurrences ≡ up_to OCCURRENCES (occurrences_in (λ l. (inner l).occurrences) statements) = omega (arith, h.occurrences, h.few_occurrences) in
    rw (← d, ← s, ← o) refl

module _ (inner : ℕ → Size) (size : Size) (rest statements : List Statement) where
  more_statements : (n : ℕ) → up_to STATEMENTS (size.statements + (n + statements_in (λ l. (inner l).statements) rest)) ≡ up_to STATEMENTS (statements_in (λ l. (inner l).statements) statements)
      → up_to STATEMENTS (up_to STATEMENTS (size.statements + n) + statements_in (λ l. (inner l).statements) rest) ≡ up_to STATEMENTS (statements_in (λ l. (inner l).statements) statements)
  more_statements n h = joined STATEMENTS size.statements n (statements_in (λ l. (inner l).statements) rest) ∙ h

  pub sized_more : (s : Statement) → IsSized inner size (s ∷ rest) statements → IsSized inner (plus size (size_of_statement inner s)) rest statements
  sized_more (statement.Run a n) h = record {
    deeper = ap (λ b. b || list_any (λ l. (inner l).deeper) (called rest)) (or-false size.deeper) ∙ h.deeper;
    statements = omega (arith, h.statements);
    occurrences = omega (arith, h.occurrences);
    few_statements = omega arith;
    few_occurrences = omega arith;
  }
  sized_more (statement.Post l n) h = record {
    deeper = ap (λ b. b || list_any (λ l. (inner l).deeper) (called rest)) (or-false size.deeper) ∙ h.deeper;
    statements = omega (arith, h.statements);
    occurrences = omega (arith, h.occurrences);
    few_statements = omega arith;
    few_occurrences = omega arith;
  }
  sized_more (statement.Call l n) h = record {
    deeper = or_assoc size.deeper (inner l).deeper (list_any (λ l. (inner l).deeper) (called rest)) ∙ h.deeper;
    statements = omega (arith, h.statements);
    occurrences = omega (arith, h.occurrences);
    few_statements = omega arith;
    few_occurrences = omega arith;
  }
  sized_more statement.Stop h = record {
    deeper = ap (λ b. b || list_any (λ l. (inner l).deeper) (called rest)) (or-false size.deeper) ∙ h.deeper;
    statements = omega (arith, h.statements);
    occurrences = omega (arith, h.occurrences);
    few_statements = omega arith;
    few_occurrences = omega arith;
  }
  sized_more (statement.If t d o) h = record {
    deeper = ap (λ b. b || list_any (λ l. (inner l).deeper) (called rest)) (or-false size.deeper) ∙ h.deeper;
    statements = omega (arith, h.statements);
    occurrences = omega (arith, h.occurrences);
    few_statements = omega arith;
    few_occurrences = omega arith;
  }

-- ---- one call deeper

-- what the sizes of the called lists say of them
record Says (inner : ℕ → Size) (deep : ℕ → Bool) (many : ℕ → ℕ) (become : ℕ → Body) : Type 0 where
  deeper : (l : ℕ) → (inner l).deeper ≡ deep l
  statements : (l : ℕ) → (inner l).statements ≡ up_to STATEMENTS (many l)
  occurrences : (l : ℕ) → (inner l).occurrences ≡ up_to OCCURRENCES (count (become l))

same_any : (f g : ℕ → Bool) (xs : List ℕ) → ((l : ℕ) → f l ≡ g l) → list_any f xs ≡ list_any g xs
same_any f g [] h = refl
same_any f g (x ∷ xs) h = let first = h x in rw first (ap (λ b. g x || b) (same_any f g xs h))

same_statements : (f g : ℕ → ℕ) (statements : List Statement) → ((l : ℕ) → f l ≡ up_to STATEMENTS (g l)) → up_to STATEMENTS (statements_in f statements) ≡ up_to STATEMENTS (statements_in g statements)
same_statements f g [] h = refl
same_statements f g (statement.Run a n ∷ rest) h = let r = same_statements f g rest h in omega arith
same_statements f g (statement.Post l n ∷ rest) h = let r = same_statements f g rest h in omega arith
same_statements f g (statement.Call l n ∷ rest) h = let r = same_statements f g rest h in let first = h l in omega arith
same_statements f g (statement.Stop ∷ rest) h = let r = same_statements f g rest h in omega arith
same_statements f g (statement.If t d o ∷ rest) h = let r = same_statements f g rest h in omega arith

pub same_occurrences : (f g : ℕ → ℕ) (statements : List Statement) → ((l : ℕ) → f l ≡ up_to OCCURRENCES (g l)) → up_to OCCURRENCES (occurrences_in f statements) ≡ up_to OCCURRENCES (occurrences_in g statements)
same_occurrences f g [] h = refl
same_occurrences f g (statement.Run a n ∷ rest) h = let r = same_occurrences f g rest h in omega arith
same_occurrences f g (statement.Post l n ∷ rest) h = let r = same_occurrences f g rest h in omega arith
same_occurrences f g (statement.Call l n ∷ rest) h = let r = same_occurrences f g rest h in let first = h l in omega arith
same_occurrences f g (statement.Stop ∷ rest) h = same_occurrences f g rest h
same_occurrences f g (statement.If t d o ∷ rest) h = same_occurrences f g rest h

table_size : (inner : ℕ → Size) (o : Option (List Statement)) → unwrap_or (option_map (size_of inner) o) empty ≡ size_of inner (unwrap_or o [])
table_size inner None = refl
table_size inner (Some t) = refl

size_at_map : (inner : ℕ → Size) (tables : List (List Statement)) (l : ℕ) → size_at (map (size_of inner) tables) empty l ≡ size_of inner (table_at tables l)
size_at_map inner tables l = ap (λ (o : Option Size). unwrap_or o empty) (slice_get-map (size_of inner) tables l) ∙ table_size inner (slice_get tables l)

module _ (tests : List (Formula Test)) (tables : List (List Statement)) (inner : ℕ → Size) (deep : ℕ → Bool) (many : ℕ → ℕ) (become : ℕ → Body) (says : Says inner deep many become) (l : ℕ) where
  deeper_by : list_any (λ c. (inner c).deeper) (called (table_at tables l)) ≡ list_any deep (calls (list_at (lines_of_tables tests tables) l))
  deeper_by =
      let table = table_at tables l in
      same_any (λ c. (inner c).deeper) deep (called table) says.deeper
      ∙ ap (list_any deep) (sym (ap calls (list_is tests tables l) ∙ calls_are tests (length table) table (omega arith)))

  statements_by : up_to STATEMENTS (statements_in (λ c. (inner c).statements) (table_at tables l)) ≡ up_to STATEMENTS (statement_count many (list_at (lines_of_tables tests tables) l))
  statements_by =
      let table = table_at tables l in
      same_statements (λ c. (inner c).statements) many table says.statements
      ∙ ap (up_to STATEMENTS) (sym (ap (statement_count many) (list_is tests tables l) ∙ statements_are tests many (length table) table (omega arith)))

  occurrences_by : up_to OCCURRENCES (occurrences_in (λ c. (inner c).occurrences) (table_at tables l)) ≡ up_to OCCURRENCES (count (expand become (list_at (lines_of_tables tests tables) l)))
  occurrences_by =
      let table = table_at tables l in
      same_occurrences (λ c. (inner c).occurrences) (λ c. count (become c)) table says.occurrences
      ∙ ap (up_to OCCURRENCES) (sym (ap (λ x. count (expand become x)) (list_is tests tables l) ∙ count_is tests become (length table) table (omega arith)))

  size_by : size_at (map (size_of inner) tables) empty l ≡ record {
    deeper = list_any deep (calls (list_at (lines_of_tables tests tables) l));
    statements = up_to STATEMENTS (statement_count many (list_at (lines_of_tables tests tables) l));
    occurrences = up_to OCCURRENCES (count (expand become (list_at (lines_of_tables tests tables) l)));
  }
  size_by = size_at_map inner tables l ∙ rw (deeper_by, statements_by, occurrences_by) refl

-- the sizes of lists whose calls are not expanded
pub first_round : (tables : List (List Statement)) (sizes : List Size) → sizes ≡ map (size_of (size_at [] too_deep)) tables → AreSizes tables 0 sizes
first_round tables sizes is tests l =
    ap (λ (s : List Size). size_at s empty l) is
    ∙ size_by tests tables (size_at [] too_deep) (λ callee. true) (λ callee. 0) (λ callee. Body.End)
    (record { deeper = λ callee. refl; statements = λ callee. refl; occurrences = λ callee. refl }) l

-- those of lists one call deeper
pub next_round : (tables : List (List Statement)) (depth : ℕ) (before sizes : List Size) → AreSizes tables depth before → sizes ≡ map (size_of (size_at before empty)) tables → AreSizes tables (suc depth) sizes
next_round tables depth before sizes are is tests l =
    let lists = lines_of_tables tests tables in
    ap (λ (s : List Size). size_at s empty l) is
    ∙ size_by tests tables (size_at before empty) (is_deeper lists depth) (statements_within lists depth) (expanded lists depth)
    (record {
      deeper = λ callee. ap (λ (s : Size). s.deeper) (are tests callee);
      statements = λ callee. ap (λ (s : Size). s.statements) (are tests callee);
      occurrences = λ callee. ap (λ (s : Size). s.occurrences) (are tests callee);
    }) l

-- ---- faults by sizes

over : (limit n : ℕ) → nat_lt limit (up_to limit n) ≡ nat_lt limit n
over limit n =
    elim (cases_lt limit n) [
      | inl more ↦ rw (lt-ltb limit n more, lt-ltb limit (up_to limit n) (omega arith)) refl
      | inr few ↦ rw (le-ltb limit n few, le-ltb limit (up_to limit n) (omega arith)) refl
    ]

same_faults : (lists : List Lines) (h : Head) (l : ℕ) → size_faults (size_within lists CALL_DEPTH l) h ≡ list_faults lists h l
same_faults lists h l =
    let statements = over STATEMENTS (statements_of lists l) in
    let occurrences = over OCCURRENCES (count (body_of lists l)) in
    ap (λ b. when (is_deeper lists CALL_DEPTH l) (fault_at h.span code.CallDepth h.name) ++ when (b || nat_lt OCCURRENCES (up_to OCCURRENCES (count (body_of lists l)))) (fault_at h.span code.TooManyDeeds h.name)) statements
    ∙ ap (λ b. when (is_deeper lists CALL_DEPTH l) (fault_at h.span code.CallDepth h.name) ++ when (nat_lt STATEMENTS (statements_of lists l) || b) (fault_at h.span code.TooManyDeeds h.name)) occurrences

pub faults_are : (tables : List (List Statement)) (sizes : List Size) → AreSizes tables CALL_DEPTH sizes → (tests : List (Formula Test)) (l : ℕ) (heads : List Head)
    → faults_by sizes l heads ≡ faults_of_lists (lines_of_tables tests tables) l heads
faults_are tables sizes are tests l [] = refl
faults_are tables sizes are tests l (h ∷ heads) =
    let lists = lines_of_tables tests tables in
    ap (λ fs. fs ++ faults_by sizes (l + 1) heads) (ap (λ (s : Size). size_faults s h) (are tests l) ∙ same_faults lists h l)
    ∙ ap (λ fs. list_faults lists h l ++ fs) (faults_are tables sizes are tests (l + 1) heads)

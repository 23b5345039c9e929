-- What the table of a text stands for.
use Rattle.std.proofs.Common.{◌≡◌, ◌≤◌, ℕ, zero, suc, ◌+◌, Bool, true, false, cond, List, [], ◌∷◌, ◌++◌, Option, Some, None, is_some, map, length, take, drop, slice_get, unwrap_or, refl, sym, ap, ◌∙◌, append_assoc, append-nil, length-append, length-drop, arith}
use Rattle.std.proofs.lemmas.List.{length-take, map-append}
use Rattle.std.proofs.Math.Seq.{take-append_seam, drop-append_seam}
use Rattle.sy_select.specs.declared.condition.Test.{Test}
use Rattle.sy_select.specs.Truth.{Formula}
use Rattle.sy_rules.specs.declared.parameters.objects.ActionParameters.{ActionParameters}
use Rattle.sy_rules.specs.declared.lists.statement.Statement.{Statement}
use Rattle.sy_rules.specs.declared.lists.statement.Statement.TheVariants as statement
use Rattle.sy_rules.specs.lists.Lines.{Lines, ◌⧻◌, File, queued, list_of_action, action_has_queue, is_queued_ruleset, call_at, lines, outside, inside, singles, lists_of}
use Rattle.sy_rules.specs.parts.Plans.{names_of, place_of}
use Rattle.sy_rules.specs.internal.Tables.{lines_within, lines_of_table, test_of}
use Rattle.sy_rules.specs.lists.Texts.{Text, Part, actions, tests}
use Rattle.sy_rules.specs.internal.TextTables.{action_statements, action_statement, call_statement, in_front, if_statements, table_of, outside_table, inside_tables, single_tables, statements_of_actions, tables_of}

-- ---- more room than there are statements changes nothing

no_more_taken : (n : ℕ) (xs : List Statement) (m : ℕ) → length xs ≤ m → length (take n xs) ≤ m
no_more_taken n xs m h = omega (arith, length-take n xs)

no_more_left : (n : ℕ) (xs : List Statement) (m : ℕ) → length xs ≤ m → length (drop n xs) ≤ m
no_more_left n xs m h = omega (arith, length-drop n xs)

room : (ts : List (Formula Test)) (m n : ℕ) (xs : List Statement) → length xs ≤ m → length xs ≤ n → lines_within ts m xs ≡ lines_within ts n xs
room ts zero zero xs h i = refl
room ts zero (suc n) [] h i = refl
room ts zero (suc n) (x ∷ xs) h i = absurd (omega arith)
room ts (suc m) zero [] h i = refl
room ts (suc m) zero (x ∷ xs) h i = absurd (omega arith)
room ts (suc m) (suc n) [] h i = refl
room ts (suc m) (suc n) (statement.Run a k ∷ xs) h i = ap (Lines.Run a) (room ts m n xs (omega arith) (omega arith))
room ts (suc m) (suc n) (statement.Post l k ∷ xs) h i = ap (Lines.Post l) (room ts m n xs (omega arith) (omega arith))
room ts (suc m) (suc n) (statement.Call l k ∷ xs) h i = ap (Lines.Call l) (room ts m n xs (omega arith) (omega arith))
room ts (suc m) (suc n) (statement.Stop ∷ xs) h i = ap Lines.Stop (room ts m n xs (omega arith) (omega arith))
room ts (suc m) (suc n) (statement.If t d o ∷ xs) h i =
    let hm : length xs ≤ m = omega arith in
    let hn : length xs ≤ n = omega arith in
    rw (
      room ts m n (take d xs) (no_more_taken d xs m hm) (no_more_taken d xs n hn),
      room ts m n (take o (drop d xs)) (no_more_taken o (drop d xs) m (no_more_left d xs m hm)) (no_more_taken o (drop d xs) n (no_more_left d xs n hn)),
      room ts m n (drop o (drop d xs)) (no_more_left o (drop d xs) m (no_more_left d xs m hm)) (no_more_left o (drop d xs) n (no_more_left d xs n hn)),
    ) refl

-- the lines of a table, with room for it
within_table : (ts : List (Formula Test)) (m : ℕ) (xs : List Statement) → length xs ≤ m → lines_within ts m xs ≡ lines_of_table ts xs
within_table ts m xs h = room ts m (length xs) xs h (omega arith)

-- ---- actions

-- a statement that posts to a list, or runs an action
abbrev either_statement : Bool → ℕ → ℕ → Statement
either_statement b list number = cond b (statement.Post list 0) (statement.Run number 0)

first_at : (b : Bool) (later : List ActionParameters) (number list : ℕ) → unwrap_or (slice_get (cond b (statement.Post list 0 ∷ action_statements (number + 1) (list + 1) later) (statement.Run number 0 ∷ action_statements (number + 1) list later)) zero) (statement.Run (number + 0) 0) ≡ either_statement b (list + 0) (number + 0)
first_at true later number list = ap (λ l. statement.Post l 0) (omega arith)
first_at false later number list = ap (λ n. statement.Run n 0) (omega arith)

later_at : (b : Bool) (later : List ActionParameters) (number list n : ℕ) →
    unwrap_or (slice_get (action_statements (number + 1) list later) n) (statement.Run (number + 1 + n) 0) ≡ either_statement (action_has_queue (slice_get later n)) (list + queued (take n later)) (number + 1 + n) →
    unwrap_or (slice_get (action_statements (number + 1) (list + 1) later) n) (statement.Run (number + 1 + n) 0) ≡ either_statement (action_has_queue (slice_get later n)) (list + 1 + queued (take n later)) (number + 1 + n) →
    unwrap_or (slice_get (cond b (statement.Post list 0 ∷ action_statements (number + 1) (list + 1) later) (statement.Run number 0 ∷ action_statements (number + 1) list later)) (suc n)) (statement.Run (number + suc n) 0) ≡ either_statement (action_has_queue (slice_get later n)) (list + cond b (queued (take n later) + 1) (queued (take n later))) (number + suc n)
later_at true later number list n plain more =
    let e : number + suc n ≡ number + 1 + n = omega arith in
    let f : list + (queued (take n later) + 1) ≡ list + 1 + queued (take n later) = omega arith in
    rw (e, f) more
later_at false later number list n plain more =
    let e : number + suc n ≡ number + 1 + n = omega arith in
    rw e plain

action_at : (actions : List ActionParameters) (number list n : ℕ) → unwrap_or (slice_get (action_statements number list actions) n) (statement.Run (number + n) 0) ≡ either_statement (action_has_queue (slice_get actions n)) (list + queued (take n actions)) (number + n)
action_at [] number list n = refl
action_at (a ∷ later) number list zero = first_at (is_some a.queue) later number list
action_at (a ∷ later) number list (suc n) = later_at (is_some a.queue) later number list n (action_at later (number + 1) list n) (action_at later (number + 1) (list + 1) n)

-- the statement of an action, where these are the rulesets and actions of the file
action_statement_is : (file : File) (n : ℕ) → action_statement (statements_of_actions file.rulesets file.actions) n ≡ either_statement (action_has_queue (slice_get file.actions n)) (list_of_action file n) n
action_statement_is file n =
    let e : 0 + n ≡ n = omega arith in
    let f : length file.rulesets + 1 + queued (take n file.actions) ≡ 1 + length file.rulesets + queued (take n file.actions) = omega arith in
    let h = action_at file.actions 0 (length file.rulesets + 1) n in
    rw (e, f) at h

-- ---- one statement before others

either_lines : (ts : List (Formula Test)) (b : Bool) (list number m : ℕ) (s : Statement) (rest : List Statement) (x y : Lines) → s ≡ either_statement b list number → lines_within ts m rest ≡ x ⧻ y → lines_within ts (suc m) (s ∷ rest) ≡ cond b (Lines.Post list x) (Lines.Run number x) ⧻ y
either_lines ts true list number m s rest x y e h = rw e (ap (Lines.Post list) h)
either_lines ts false list number m s rest x y e h = rw e (ap (Lines.Run number) h)

queued_call : (ts : List (Formula Test)) (b : Bool) (list m : ℕ) (rest : List Statement) (x y : Lines) → lines_within ts m rest ≡ x ⧻ y → lines_within ts (suc m) (cond b (statement.Post list 0) (statement.Call list 0) ∷ rest) ≡ cond b (Lines.Post list x) (Lines.Call list x) ⧻ y
queued_call ts true list m rest x y h = ap (Lines.Post list) h
queued_call ts false list m rest x y h = ap (Lines.Call list) h

call_lines : (file : File) (place : Option ℕ) (m : ℕ) (rest ys : List Statement) (x y : Lines) → length (in_front (call_statement file.rulesets place) rest ++ ys) ≤ m → ((k : ℕ) → length (rest ++ ys) ≤ k → lines_within file.tests k (rest ++ ys) ≡ x ⧻ y) → lines_within file.tests m (in_front (call_statement file.rulesets place) rest ++ ys) ≡ call_at file place x ⧻ y
call_lines file None m rest ys x y h f = f m h
call_lines file (Some place) zero rest ys x y h f = absurd (omega arith)
call_lines file (Some place) (suc m) rest ys x y h f = queued_call file.tests (is_queued_ruleset (slice_get file.rulesets place)) (place + 1) m (rest ++ ys) x y (f m (omega arith))

if_lines : (ts : List (Formula Test)) (t m : ℕ) (done otherwise rest ys : List Statement) (x y z : Lines) → lines_within ts m done ≡ x → lines_within ts m otherwise ≡ y → lines_within ts m (rest ++ ys) ≡ z → lines_within ts (suc m) (if_statements t done otherwise rest ++ ys) ≡ Lines.If (test_of ts t) x y z
if_lines ts t m done otherwise rest ys x y z d o r =
    let e : (done ++ (otherwise ++ rest)) ++ ys ≡ done ++ (otherwise ++ (rest ++ ys)) = simp append_assoc in
    rw (e, take-append_seam done (otherwise ++ (rest ++ ys)), drop-append_seam done (otherwise ++ (rest ++ ys)), take-append_seam otherwise (rest ++ ys), drop-append_seam otherwise (rest ++ ys), d, o, r) refl

nothing_behind : (x : Lines) → x ⧻ Lines.End ≡ x
nothing_behind Lines.End = refl
nothing_behind (Lines.Run a rest) = ap (Lines.Run a) (nothing_behind rest)
nothing_behind (Lines.Post l rest) = ap (Lines.Post l) (nothing_behind rest)
nothing_behind (Lines.Call l rest) = ap (Lines.Call l) (nothing_behind rest)
nothing_behind (Lines.Stop rest) = ap Lines.Stop (nothing_behind rest)
nothing_behind (Lines.If x done otherwise rest) = ap (Lines.If x done otherwise) (nothing_behind rest)

alone : (ts : List (Formula Test)) (m : ℕ) (xs : List Statement) (x : Lines) → lines_within ts m (xs ++ []) ≡ x ⧻ Lines.End → lines_within ts m xs ≡ x
alone ts m xs x h = ap (lines_within ts m) (sym (append-nil xs)) ∙ (h ∙ nothing_behind x)

sizes : (t : ℕ) (done otherwise rest ys : List Statement) (m : ℕ) → length (if_statements t done otherwise rest ++ ys) ≤ suc m → (length (done ++ []) ≤ m) × (length (otherwise ++ []) ≤ m) × (length (rest ++ ys) ≤ m)
sizes t done otherwise rest ys m h =
    let a = length-append done (otherwise ++ rest) in
    let b = length-append otherwise rest in
    let c = length-append (done ++ (otherwise ++ rest)) ys in
    let d = length-append rest ys in
    let e = length-append done [] in
    let f = length-append otherwise [] in
    (omega arith, omega arith, omega arith)

-- The table of a text, with another after it, stands for the lines of the text, with those of the other after them.
pub table_lines : (file : File) (x : Text) (a t : ℕ) (ys : List Statement) (m : ℕ) →
    length (table_of file.rulesets (statements_of_actions file.rulesets file.actions) a t x ++ ys) ≤ m →
    lines_within file.tests m (table_of file.rulesets (statements_of_actions file.rulesets file.actions) a t x ++ ys) ≡ lines file a t x ⧻ lines_of_table file.tests ys
table_lines file Text.End a t ys m h = within_table file.tests m ys h
table_lines file (Text.Action params rest) a t ys zero h = absurd (omega arith)
table_lines file (Text.Action params rest) a t ys (suc m) h =
    let statements = statements_of_actions file.rulesets file.actions in
    either_lines file.tests (action_has_queue (slice_get file.actions a)) (list_of_action file a) a m (action_statement statements a) (table_of file.rulesets statements (a + 1) t rest ++ ys)
    (lines file (a + 1) t rest) (lines_of_table file.tests ys) (action_statement_is file a) (table_lines file rest (a + 1) t ys m (omega arith))
table_lines file (Text.Call name rest) a t ys m h =
    let statements = statements_of_actions file.rulesets file.actions in
    call_lines file (place_of name (names_of file.rulesets)) m (table_of file.rulesets statements a t rest) ys (lines file a t rest) (lines_of_table file.tests ys) h (λ k i. table_lines file rest a t ys k i)
table_lines file (Text.Stop rest) a t ys zero h = absurd (omega arith)
table_lines file (Text.Stop rest) a t ys (suc m) h = ap Lines.Stop (table_lines file rest a t ys m (omega arith))
table_lines file (Text.If x done otherwise rest) a t ys zero h = absurd (omega arith)
table_lines file (Text.If x done otherwise rest) a t ys (suc m) h =
    let rs = file.rulesets in
    let statements = statements_of_actions file.rulesets file.actions in
    let a1 = a + length (actions done) in
    let t1 = t + 1 + length (tests done) in
    let a2 = a + length (actions done) + length (actions otherwise) in
    let t2 = t + 1 + length (tests done) + length (tests otherwise) in
    let fits = sizes t (table_of rs statements a (t + 1) done) (table_of rs statements a1 t1 otherwise) (table_of rs statements a2 t2 rest) ys m h in
    if_lines file.tests t m (table_of rs statements a (t + 1) done) (table_of rs statements a1 t1 otherwise) (table_of rs statements a2 t2 rest) ys
    (lines file a (t + 1) done) (lines file a1 t1 otherwise) (lines file a2 t2 rest ⧻ lines_of_table file.tests ys)
    (alone file.tests m (table_of rs statements a (t + 1) done) (lines file a (t + 1) done) (table_lines file done a (t + 1) [] m fits.0))
    (alone file.tests m (table_of rs statements a1 t1 otherwise) (lines file a1 t1 otherwise) (table_lines file otherwise a1 t1 [] m fits.1))
    (table_lines file rest a2 t2 ys m fits.2)

-- ---- all lists

one_table : (file : File) (x : Text) (a t : ℕ) → lines_of_table file.tests (table_of file.rulesets (statements_of_actions file.rulesets file.actions) a t x) ≡ lines file a t x
one_table file x a t =
    let xs = table_of file.rulesets (statements_of_actions file.rulesets file.actions) a t x in
    alone file.tests (length xs) xs (lines file a t x) (table_lines file x a t [] (length xs) (omega (arith, length-append xs [])))

outside_is : (file : File) (a t : ℕ) (ps : List Part) → lines_of_table file.tests (outside_table file.rulesets (statements_of_actions file.rulesets file.actions) a t ps) ≡ outside file a t ps
outside_is file a t [] = refl
outside_is file a t (Part.Outside x ∷ later) =
    let statements = statements_of_actions file.rulesets file.actions in
    let a1 = a + length (actions x) in
    let t1 = t + length (tests x) in
    let ys = outside_table file.rulesets statements a1 t1 later in
    table_lines file x a t ys (length (table_of file.rulesets statements a t x ++ ys)) (omega arith) ∙ ap (λ l. lines file a t x ⧻ l) (outside_is file a1 t1 later)
outside_is file a t (Part.Inside x ∷ later) = outside_is file (a + length (actions x)) (t + length (tests x)) later

inside_are : (file : File) (a t : ℕ) (ps : List Part) → map (lines_of_table file.tests) (inside_tables file.rulesets (statements_of_actions file.rulesets file.actions) a t ps) ≡ inside file a t ps
inside_are file a t [] = refl
inside_are file a t (Part.Outside x ∷ later) = inside_are file (a + length (actions x)) (t + length (tests x)) later
inside_are file a t (Part.Inside x ∷ later) = rw (one_table file x a t, inside_are file (a + length (actions x)) (t + length (tests x)) later) refl

one_more_single : (ts : List (Formula Test)) (b : Bool) (number : ℕ) (rest : List (List Statement)) (lists : List Lines) → map (lines_of_table ts) rest ≡ lists → map (lines_of_table ts) (cond b ((statement.Run number 0 ∷ []) ∷ rest) rest) ≡ cond b (Lines.Run number Lines.End ∷ lists) lists
one_more_single ts true number rest lists h = ap (λ l. Lines.Run number Lines.End ∷ l) h
one_more_single ts false number rest lists h = h

singles_are : (ts : List (Formula Test)) (number : ℕ) (actions : List ActionParameters) → map (lines_of_table ts) (single_tables number actions) ≡ singles number actions
singles_are ts number [] = refl
singles_are ts number (a ∷ later) = one_more_single ts (is_some a.queue) number (single_tables (number + 1) later) (singles (number + 1) later) (singles_are ts (number + 1) later)

-- The tables of a file stand for its lists.
pub tables_are_lists : (file : File) (ps : List Part) → map (lines_of_table file.tests) (tables_of file.rulesets file.actions ps) ≡ lists_of file ps
tables_are_lists file ps =
    let statements = statements_of_actions file.rulesets file.actions in
    rw (outside_is file 0 0 ps, map-append (lines_of_table file.tests) (inside_tables file.rulesets statements 0 0 ps) (single_tables 0 file.actions), inside_are file 0 0 ps, singles_are file.tests 0 file.actions) refl

pub map_twice : {A B C : Type 0} (f : A → B) (g : B → C) (xs : List A) → map (λ x. g (f x)) xs ≡ map g (map f xs)
map_twice f g [] = refl
map_twice f g (x ∷ xs) = ap (λ ys. g (f x) ∷ ys) (map_twice f g xs)

-- A numbered table is numbered, and its lines are those of the table.
use Rattle.std.proofs.Common.{◌≡◌, ℕ, zero, suc, ◌+◌, ◌≤◌, List, [], ◌∷◌, ◌++◌, length, take, drop, refl, sym, ap, ◌∙◌, arith, append_assoc, map, slice_get, unwrap_or, Option, Some, None, option_map}
use Rattle.std.proofs.lemmas.Option.{slice_get-map}
use Rattle.sy_select.specs.declared.condition.Test.{Test}
use Rattle.sy_select.specs.Truth.{Formula}
use Rattle.sy_rules.specs.Limits.{CALL_DEPTH}
use Rattle.sy_rules.specs.declared.lists.occurrence.Occurrence.{Occurrence}
use Rattle.sy_rules.specs.declared.lists.occurrence.Occurrence.TheVariants as occurrence
use Rattle.sy_rules.specs.declared.lists.statement.Statement.{Statement}
use Rattle.sy_rules.specs.declared.lists.statement.Statement.TheVariants as statement
use Rattle.sy_rules.specs.lists.Lines.{Lines, expand, expanded, body_of}
use Rattle.sy_rules.specs.internal.Numbering.{numbered, count_of_statement, listed, listed_at, AreFew}
use Rattle.sy_rules.specs.lists.Body.{Body, occurrences}
use Rattle.sy_rules.specs.internal.Tables.{lines_within, lines_of_table, lines_of_tables, table_at, AreNumbered}
use Rattle.sy_rules.specs.internal.TableSizes.{occurrences_in, listed_in}
use Rattle.sy_rules.proofs.lemmas.lists.SizeLaws.{cut, short_done, short_otherwise, short_rest, occurrences-⧺}
use Rattle.sy_rules.proofs.lemmas.lists.TableRuns.{list_is}

pub count_more : (count : ℕ → ℕ) (s : Statement) (rest : List Statement) → occurrences_in count (s ∷ rest) ≡ count_of_statement count s + occurrences_in count rest
count_more count (statement.Run a n) rest = refl
count_more count (statement.Post l n) rest = refl
count_more count (statement.Call l n) rest = refl
count_more count statement.Stop rest = omega arith
count_more count (statement.If t d o) rest = omega arith

renumbered : (count : ℕ → ℕ) (n m : ℕ) (statements : List Statement) → n ≡ m → AreNumbered count n statements → AreNumbered count m statements
renumbered count n m statements e h = rw e at h

pub numbers : (count : ℕ → ℕ) (number : ℕ) (statements : List Statement) → AreNumbered count number (numbered count number statements)
numbers count number [] = tt
numbers count number (statement.Run a n ∷ rest) = (refl, numbers count (number + 1) rest)
numbers count number (statement.Post l n ∷ rest) = (refl, numbers count (number + 1) rest)
numbers count number (statement.Call l n ∷ rest) = (refl, numbers count (number + count l) rest)
numbers count number (statement.Stop ∷ rest) = renumbered count (number + 0) number (numbered count (number + 0) rest) (omega arith) (numbers count (number + 0) rest)
numbers count number (statement.If t d o ∷ rest) = renumbered count (number + 0) number (numbered count (number + 0) rest) (omega arith) (numbers count (number + 0) rest)

-- tables that differ in numbers alone
data Alike : List Statement → List Statement → Type 0 where
  end : Alike [] []
  run : {a n m : ℕ} {xs ys : List Statement} → Alike xs ys → Alike (statement.Run a n ∷ xs) (statement.Run a m ∷ ys)
  post : {l n m : ℕ} {xs ys : List Statement} → Alike xs ys → Alike (statement.Post l n ∷ xs) (statement.Post l m ∷ ys)
  call : {l n m : ℕ} {xs ys : List Statement} → Alike xs ys → Alike (statement.Call l n ∷ xs) (statement.Call l m ∷ ys)
  stop : {xs ys : List Statement} → Alike xs ys → Alike (statement.Stop ∷ xs) (statement.Stop ∷ ys)
  test : {t d o : ℕ} {xs ys : List Statement} → Alike xs ys → Alike (statement.If t d o ∷ xs) (statement.If t d o ∷ ys)

alike : (count : ℕ → ℕ) (number : ℕ) (statements : List Statement) → Alike (numbered count number statements) statements
alike count number [] = end
alike count number (statement.Run a n ∷ rest) = run (alike count (number + 1) rest)
alike count number (statement.Post l n ∷ rest) = post (alike count (number + 1) rest)
alike count number (statement.Call l n ∷ rest) = call (alike count (number + count l) rest)
alike count number (statement.Stop ∷ rest) = stop (alike count (number + 0) rest)
alike count number (statement.If t d o ∷ rest) = test (alike count (number + 0) rest)

alike_length : {xs ys : List Statement} → Alike xs ys → length xs ≡ length ys
alike_length end = refl
alike_length (run h) = ap suc (alike_length h)
alike_length (post h) = ap suc (alike_length h)
alike_length (call h) = ap suc (alike_length h)
alike_length (stop h) = ap suc (alike_length h)
alike_length (test h) = ap suc (alike_length h)

alike_take : (n : ℕ) {xs ys : List Statement} → Alike xs ys → Alike (take n xs) (take n ys)
alike_take zero h = end
alike_take (suc n) end = end
alike_take (suc n) (run h) = run (alike_take n h)
alike_take (suc n) (post h) = post (alike_take n h)
alike_take (suc n) (call h) = call (alike_take n h)
alike_take (suc n) (stop h) = stop (alike_take n h)
alike_take (suc n) (test h) = test (alike_take n h)

alike_drop : (n : ℕ) {xs ys : List Statement} → Alike xs ys → Alike (drop n xs) (drop n ys)
alike_drop zero h = h
alike_drop (suc n) end = end
alike_drop (suc n) (run h) = alike_drop n h
alike_drop (suc n) (post h) = alike_drop n h
alike_drop (suc n) (call h) = alike_drop n h
alike_drop (suc n) (stop h) = alike_drop n h
alike_drop (suc n) (test h) = alike_drop n h

alike_lines : (tests : List (Formula Test)) (most : ℕ) {xs ys : List Statement} → Alike xs ys → lines_within tests most xs ≡ lines_within tests most ys
alike_lines tests zero h = refl
alike_lines tests (suc most) end = refl
alike_lines tests (suc most) (run {a = a} h) = ap (Lines.Run a) (alike_lines tests most h)
alike_lines tests (suc most) (post {l = l} h) = ap (Lines.Post l) (alike_lines tests most h)
alike_lines tests (suc most) (call {l = l} h) = ap (Lines.Call l) (alike_lines tests most h)
alike_lines tests (suc most) (stop h) = ap Lines.Stop (alike_lines tests most h)
alike_lines tests (suc most) (test {t = t} {d = d} {o = o} h) =
    let done = alike_lines tests most (alike_take d h) in
    let otherwise = alike_lines tests most (alike_take o (alike_drop d h)) in
    let after = alike_lines tests most (alike_drop o (alike_drop d h)) in
    rw (done, otherwise, after) refl

pub numbered_lines : (tests : List (Formula Test)) (count : ℕ → ℕ) (number : ℕ) (statements : List Statement) → lines_of_table tests (numbered count number statements) ≡ lines_of_table tests statements
numbered_lines tests count number statements =
    let same = alike count number statements in
    ap (λ n. lines_within tests n (numbered count number statements)) (alike_length same) ∙ alike_lines tests (length statements) same

-- ---- all tables

pub all_numbers : (count : ℕ → ℕ) (tables : List (List Statement)) (l : ℕ) → AreNumbered count 0 (table_at (map (numbered count 0) tables) l)
all_numbers count [] l = tt
all_numbers count (t ∷ tables) zero = numbers count 0 t
all_numbers count (t ∷ tables) (suc l) = all_numbers count tables l

pub all_lines : (tests : List (Formula Test)) (count : ℕ → ℕ) (tables : List (List Statement)) → lines_of_tables tests (map (numbered count 0) tables) ≡ lines_of_tables tests tables
all_lines tests count [] = refl
all_lines tests count (t ∷ tables) =
    ap (λ x. x ∷ lines_of_tables tests (map (numbered count 0) tables)) (numbered_lines tests count 0 t) ∙ ap (λ xs. lines_of_table tests t ∷ xs) (all_lines tests count tables)

pub are_few : (count : ℕ → ℕ) (tables : List (List Statement)) → ((l : ℕ) → occurrences_in count (table_at tables l) ≤ 64) → AreFew count tables
are_few count [] h = tt
are_few count (t ∷ tables) h = (h 0, are_few count tables (λ l. h (suc l)))

-- ---- the occurrences of lists

listed-append : (inner : ℕ → List Occurrence) (xs ys : List Statement) → listed_in inner (xs ++ ys) ≡ listed_in inner xs ++ listed_in inner ys
listed-append inner [] ys = refl
listed-append inner (statement.Run a n ∷ xs) ys = ap (λ r. occurrence.Run a ∷ r) (listed-append inner xs ys)
listed-append inner (statement.Post l n ∷ xs) ys = ap (λ r. occurrence.Post l ∷ r) (listed-append inner xs ys)
listed-append inner (statement.Call l n ∷ xs) ys = ap (λ r. inner l ++ r) (listed-append inner xs ys) ∙ sym (append_assoc (inner l) (listed_in inner xs) (listed_in inner ys))
listed-append inner (statement.Stop ∷ xs) ys = listed-append inner xs ys
listed-append inner (statement.If t d o ∷ xs) ys = listed-append inner xs ys

cut_listed : (inner : ℕ → List Occurrence) (d o : ℕ) (rest : List Statement)
    → listed_in inner rest ≡ listed_in inner (take d rest) ++ (listed_in inner (take o (drop d rest)) ++ listed_in inner (drop o (drop d rest)))
cut_listed inner d o rest =
    ap (listed_in inner) (cut d o rest) ∙ listed-append inner (take d rest) (take o (drop d rest) ++ drop o (drop d rest))
    ∙ ap (λ r. listed_in inner (take d rest) ++ r) (listed-append inner (take o (drop d rest)) (drop o (drop d rest)))

module _ (tests : List (Formula Test)) (become : ℕ → Body) (inner : ℕ → List Occurrence) (known : (l : ℕ) → occurrences (become l) ≡ inner l) where
  occurrences_are : (most : ℕ) (statements : List Statement) → length statements ≤ most → occurrences (expand become (lines_within tests most statements)) ≡ listed_in inner statements
  occurrences_are zero [] h = refl
  occurrences_are zero (s ∷ statements) h = absurd (omega arith)
  occurrences_are (suc most) [] h = refl
  occurrences_are (suc most) (statement.Run a n ∷ rest) h = ap (λ r. occurrence.Run a ∷ r) (occurrences_are most rest (omega arith))
  occurrences_are (suc most) (statement.Post l n ∷ rest) h = ap (λ r. occurrence.Post l ∷ r) (occurrences_are most rest (omega arith))
  occurrences_are (suc most) (statement.Call l n ∷ rest) h =
      occurrences-⧺ (become l) (expand become (lines_within tests most rest))
      ∙ ap (λ r. r ++ occurrences (expand become (lines_within tests most rest))) (known l)
      ∙ ap (λ r. inner l ++ r) (occurrences_are most rest (omega arith))
  occurrences_are (suc most) (statement.Stop ∷ rest) h = occurrences_are most rest (omega arith)
  occurrences_are (suc most) (statement.If t d o ∷ rest) h =
      let done = occurrences_are most (take d rest) (short_done d o rest most (omega arith)) in
      let otherwise = occurrences_are most (take o (drop d rest)) (short_otherwise d o rest most (omega arith)) in
      let after = occurrences_are most (drop o (drop d rest)) (short_rest d o rest most (omega arith)) in
      rw (done, otherwise, after) (sym (cut_listed inner d o rest))

listed_deep : (tests : List (Formula Test)) (tables : List (List Statement)) (depth l : ℕ) → occurrences (expanded (lines_of_tables tests tables) depth l) ≡ listed tables (suc depth) l
listed_deep tests tables zero l =
    ap (λ x. occurrences (expand (λ callee. Body.End) x)) (list_is tests tables l)
    ∙ occurrences_are tests (λ callee. Body.End) (listed tables zero) (λ callee. refl) (length (table_at tables l)) (table_at tables l) (omega arith)
listed_deep tests tables (suc depth) l =
    let lists = lines_of_tables tests tables in
    ap (λ x. occurrences (expand (expanded lists depth) x)) (list_is tests tables l)
    ∙ occurrences_are tests (expanded lists depth) (listed tables (suc depth)) (listed_deep tests tables depth) (length (table_at tables l)) (table_at tables l) (omega arith)

pub listed_is : (tests : List (Formula Test)) (tables : List (List Statement)) (l : ℕ) → occurrences (body_of (lines_of_tables tests tables) l) ≡ listed tables (suc CALL_DEPTH) l
listed_is tests tables l = listed_deep tests tables CALL_DEPTH l

-- ---- the occurrences of all lists, by rounds

table_listed : (inner : ℕ → List Occurrence) (o : Option (List Statement)) → unwrap_or (option_map (listed_in inner) o) [] ≡ listed_in inner (unwrap_or o [])
table_listed inner None = refl
table_listed inner (Some t) = refl

same_listed : (f g : ℕ → List Occurrence) (statements : List Statement) → ((l : ℕ) → f l ≡ g l) → listed_in f statements ≡ listed_in g statements
same_listed f g [] h = refl
same_listed f g (statement.Run a n ∷ rest) h = ap (λ r. occurrence.Run a ∷ r) (same_listed f g rest h)
same_listed f g (statement.Post l n ∷ rest) h = ap (λ r. occurrence.Post l ∷ r) (same_listed f g rest h)
same_listed f g (statement.Call l n ∷ rest) h = ap (λ r. r ++ listed_in f rest) (h l) ∙ ap (λ r. g l ++ r) (same_listed f g rest h)
same_listed f g (statement.Stop ∷ rest) h = same_listed f g rest h
same_listed f g (statement.If t d o ∷ rest) h = same_listed f g rest h

-- lists may lie in one another so deep in what is listed
abbrev pub AreListed : List (List Statement) → ℕ → List (List Occurrence) → Type 0
AreListed tables depth lists = (l : ℕ) → listed_at lists l ≡ listed tables depth l

pub listed_none : (tables : List (List Statement)) (lists : List (List Occurrence)) → lists ≡ [] → AreListed tables 0 lists
listed_none tables lists e l = ap (λ (ls : List (List Occurrence)). listed_at ls l) e

pub listed_next : (tables : List (List Statement)) (depth : ℕ) (before after : List (List Occurrence)) → AreListed tables depth before → after ≡ map (listed_in (listed_at before)) tables → AreListed tables (suc depth) after
listed_next tables depth before after are made l =
    ap (λ (ls : List (List Occurrence)). listed_at ls l) made
    ∙ (ap (λ (o : Option (List Occurrence)). unwrap_or o []) (slice_get-map (listed_in (listed_at before)) tables l)
    ∙ (table_listed (listed_at before) (slice_get tables l)
    ∙ same_listed (listed_at before) (listed tables depth) (table_at tables l) are))

pub listed_all : (tests : List (Formula Test)) (tables : List (List Statement)) (depth : ℕ) (lists : List (List Occurrence)) → depth ≡ 17 → AreListed tables depth lists → (l : ℕ) → listed_at lists l ≡ occurrences (body_of (lines_of_tables tests tables) l)
listed_all tests tables depth lists e are l = are l ∙ (ap (λ d. listed tables d l) e ∙ sym (listed_is tests tables l))

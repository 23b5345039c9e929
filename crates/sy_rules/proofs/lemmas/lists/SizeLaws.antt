-- The sizes of a table are those of its lines, and of two tables one after the other those of both.
use Rattle.std.proofs.Common.{◌≡◌, ℕ, zero, suc, ◌+◌, ◌≤◌, List, [], ◌∷◌, ◌++◌, length, take, drop, refl, sym, ap, ◌∙◌, arith, append_assoc}
use Rattle.std.proofs.lemmas.List.{length-append, length-drop, length-take, take-append-drop}
use Rattle.sy_select.specs.declared.condition.Test.{Test}
use Rattle.sy_select.specs.Truth.{Formula}
use Rattle.sy_rules.specs.declared.lists.occurrence.Occurrence.TheVariants as occurrence
use Rattle.sy_rules.specs.declared.lists.statement.Statement.{Statement}
use Rattle.sy_rules.specs.declared.lists.statement.Statement.TheVariants as statement
use Rattle.sy_rules.specs.lists.Lines.{calls, statement_count, expand}
use Rattle.sy_rules.specs.lists.Body.{Body, ◌⧺◌, occurrences, count}
use Rattle.sy_rules.specs.internal.Tables.{test_of, lines_within, AreNumbered}
use Rattle.sy_rules.specs.internal.TableSizes.{called, occurrences_in, statements_in}

-- ---- one table after another

pub called-append : (xs ys : List Statement) → called (xs ++ ys) ≡ called xs ++ called ys
called-append [] ys = refl
called-append (statement.Run a n ∷ xs) ys = called-append xs ys
called-append (statement.Post l n ∷ xs) ys = called-append xs ys
called-append (statement.Call l n ∷ xs) ys = ap (λ r. l ∷ r) (called-append xs ys)
called-append (statement.Stop ∷ xs) ys = called-append xs ys
called-append (statement.If t d o ∷ xs) ys = called-append xs ys

module _ (inner : ℕ → ℕ) where
  pub occurrences-append : (xs ys : List Statement) → occurrences_in inner (xs ++ ys) ≡ occurrences_in inner xs + occurrences_in inner ys
  occurrences-append [] ys = omega arith
  occurrences-append (statement.Run a n ∷ xs) ys = let h = occurrences-append xs ys in omega arith
  occurrences-append (statement.Post l n ∷ xs) ys = let h = occurrences-append xs ys in omega arith
  occurrences-append (statement.Call l n ∷ xs) ys = let h = occurrences-append xs ys in omega arith
  occurrences-append (statement.Stop ∷ xs) ys = occurrences-append xs ys
  occurrences-append (statement.If t d o ∷ xs) ys = occurrences-append xs ys

  pub statements-append : (xs ys : List Statement) → statements_in inner (xs ++ ys) ≡ statements_in inner xs + statements_in inner ys
  statements-append [] ys = omega arith
  statements-append (statement.Run a n ∷ xs) ys = let h = statements-append xs ys in omega arith
  statements-append (statement.Post l n ∷ xs) ys = let h = statements-append xs ys in omega arith
  statements-append (statement.Call l n ∷ xs) ys = let h = statements-append xs ys in omega arith
  statements-append (statement.Stop ∷ xs) ys = let h = statements-append xs ys in omega arith
  statements-append (statement.If t d o ∷ xs) ys = let h = statements-append xs ys in omega arith

  pub numbered_front : (n : ℕ) (xs ys : List Statement) → AreNumbered inner n (xs ++ ys) → AreNumbered inner n xs
  numbered_front n [] ys h = tt
  numbered_front n (statement.Run a m ∷ xs) ys h = (h.0, numbered_front (n + 1) xs ys h.1)
  numbered_front n (statement.Post l m ∷ xs) ys h = (h.0, numbered_front (n + 1) xs ys h.1)
  numbered_front n (statement.Call l m ∷ xs) ys h = (h.0, numbered_front (n + inner l) xs ys h.1)
  numbered_front n (statement.Stop ∷ xs) ys h = numbered_front n xs ys h
  numbered_front n (statement.If t d o ∷ xs) ys h = numbered_front n xs ys h

  moved : (n m : ℕ) (ys : List Statement) → n ≡ m → AreNumbered inner n ys → AreNumbered inner m ys
  moved n m ys e h = rw e at h

  pub numbered_behind : (n : ℕ) (xs ys : List Statement) → AreNumbered inner n (xs ++ ys) → AreNumbered inner (n + occurrences_in inner xs) ys
  numbered_behind n [] ys h = moved n (n + 0) ys (omega arith) h
  numbered_behind n (statement.Run a m ∷ xs) ys h = moved _ _ ys (omega arith) (numbered_behind (n + 1) xs ys h.1)
  numbered_behind n (statement.Post l m ∷ xs) ys h = moved _ _ ys (omega arith) (numbered_behind (n + 1) xs ys h.1)
  numbered_behind n (statement.Call l m ∷ xs) ys h = moved _ _ ys (omega arith) (numbered_behind (n + inner l) xs ys h.1)
  numbered_behind n (statement.Stop ∷ xs) ys h = numbered_behind n xs ys h
  numbered_behind n (statement.If t d o ∷ xs) ys h = numbered_behind n xs ys h

-- ---- the blocks of a test, and what follows

module _ (done otherwise : ℕ) (rest : List Statement) where
  pub cut : rest ≡ take done rest ++ (take otherwise (drop done rest) ++ drop otherwise (drop done rest))
  cut = sym (ap (λ r. take done rest ++ r) (take-append-drop otherwise (drop done rest)) ∙ take-append-drop done rest)

  pub cut_called : called rest ≡ called (take done rest) ++ (called (take otherwise (drop done rest)) ++ called (drop otherwise (drop done rest)))
  cut_called =
      ap called cut ∙ called-append (take done rest) (take otherwise (drop done rest) ++ drop otherwise (drop done rest))
      ∙ ap (λ r. called (take done rest) ++ r) (called-append (take otherwise (drop done rest)) (drop otherwise (drop done rest)))

  pub cut_occurrences : (inner : ℕ → ℕ) → occurrences_in inner rest
      ≡ occurrences_in inner (take done rest) + (occurrences_in inner (take otherwise (drop done rest)) + occurrences_in inner (drop otherwise (drop done rest)))
  cut_occurrences inner =
      ap (occurrences_in inner) cut ∙ occurrences-append inner (take done rest) (take otherwise (drop done rest) ++ drop otherwise (drop done rest))
      ∙ ap (λ r. occurrences_in inner (take done rest) + r) (occurrences-append inner (take otherwise (drop done rest)) (drop otherwise (drop done rest)))

  pub cut_statements : (inner : ℕ → ℕ) → statements_in inner rest
      ≡ statements_in inner (take done rest) + (statements_in inner (take otherwise (drop done rest)) + statements_in inner (drop otherwise (drop done rest)))
  cut_statements inner =
      ap (statements_in inner) cut ∙ statements-append inner (take done rest) (take otherwise (drop done rest) ++ drop otherwise (drop done rest))
      ∙ ap (λ r. statements_in inner (take done rest) + r) (statements-append inner (take otherwise (drop done rest)) (drop otherwise (drop done rest)))

  pub short_done : (most : ℕ) → length rest ≤ most → length (take done rest) ≤ most
  short_done most h = let a = length-take done rest in omega arith

  pub short_otherwise : (most : ℕ) → length rest ≤ most → length (take otherwise (drop done rest)) ≤ most
  short_otherwise most h = let a = length-drop done rest in let b = length-take otherwise (drop done rest) in omega arith

  pub short_rest : (most : ℕ) → length rest ≤ most → length (drop otherwise (drop done rest)) ≤ most
  short_rest most h = let a = length-drop done rest in let b = length-drop otherwise (drop done rest) in omega arith

-- ---- one text after another

pub occurrences-⧺ : (s t : Body) → occurrences (s ⧺ t) ≡ occurrences s ++ occurrences t
occurrences-⧺ Body.End t = refl
occurrences-⧺ (Body.Run a s) t = ap (λ r. occurrence.Run a ∷ r) (occurrences-⧺ s t)
occurrences-⧺ (Body.Post l s) t = ap (λ r. occurrence.Post l ∷ r) (occurrences-⧺ s t)
occurrences-⧺ (Body.Stop s) t = occurrences-⧺ s t
occurrences-⧺ (Body.If x d o s) t =
    ap (λ r. occurrences d ++ (occurrences o ++ r)) (occurrences-⧺ s t)
    ∙ ap (λ r. occurrences d ++ r) (sym (append_assoc (occurrences o) (occurrences s) (occurrences t)))
    ∙ sym (append_assoc (occurrences d) (occurrences o ++ occurrences s) (occurrences t))

pub count-⧺ : (s t : Body) → count (s ⧺ t) ≡ count s + count t
count-⧺ s t = ap length (occurrences-⧺ s t) ∙ length-append (occurrences s) (occurrences t)

pub count-if : (x : Formula Test) (d o r : Body) → count (Body.If x d o r) ≡ count d + (count o + count r)
count-if x d o r = length-append (occurrences d) (occurrences o ++ occurrences r) ∙ ap (λ n. count d + n) (length-append (occurrences o) (occurrences r))

-- ---- the sizes of lines

module _ (tests : List (Formula Test)) where
  pub calls_are : (most : ℕ) (statements : List Statement) → length statements ≤ most → calls (lines_within tests most statements) ≡ called statements
  calls_are zero [] h = refl
  calls_are zero (s ∷ statements) h = absurd (omega arith)
  calls_are (suc most) [] h = refl
  calls_are (suc most) (statement.Run a n ∷ rest) h = calls_are most rest (omega arith)
  calls_are (suc most) (statement.Post l n ∷ rest) h = calls_are most rest (omega arith)
  calls_are (suc most) (statement.Call l n ∷ rest) h = ap (λ r. l ∷ r) (calls_are most rest (omega arith))
  calls_are (suc most) (statement.Stop ∷ rest) h = calls_are most rest (omega arith)
  calls_are (suc most) (statement.If t d o ∷ rest) h =
      let done = calls_are most (take d rest) (short_done d o rest most (omega arith)) in
      let otherwise = calls_are most (take o (drop d rest)) (short_otherwise d o rest most (omega arith)) in
      let after = calls_are most (drop o (drop d rest)) (short_rest d o rest most (omega arith)) in
      rw (done, otherwise, after) (sym (cut_called d o rest))

  pub count_is : (become : ℕ → Body) (most : ℕ) (statements : List Statement) → length statements ≤ most → count (expand become (lines_within tests most statements)) ≡ occurrences_in (λ l. count (become l)) statements
  count_is become zero [] h = refl
  count_is become zero (s ∷ statements) h = absurd (omega arith)
  count_is become (suc most) [] h = refl
  count_is become (suc most) (statement.Run a n ∷ rest) h = let g = count_is become most rest (omega arith) in omega arith
  count_is become (suc most) (statement.Post l n ∷ rest) h = let g = count_is become most rest (omega arith) in omega arith
  count_is become (suc most) (statement.Call l n ∷ rest) h = count-⧺ (become l) (expand become (lines_within tests most rest)) ∙ ap (λ m. count (become l) + m) (count_is become most rest (omega arith))
  count_is become (suc most) (statement.Stop ∷ rest) h = count_is become most rest (omega arith)
  count_is become (suc most) (statement.If t d o ∷ rest) h =
      let done = count_is become most (take d rest) (short_done d o rest most (omega arith)) in
      let otherwise = count_is become most (take o (drop d rest)) (short_otherwise d o rest most (omega arith)) in
      let after = count_is become most (drop o (drop d rest)) (short_rest d o rest most (omega arith)) in
      count-if (test_of tests t) (expand become (lines_within tests most (take d rest))) (expand become (lines_within tests most (take o (drop d rest))))
      (expand become (lines_within tests most (drop o (drop d rest))))
      ∙ rw (done, otherwise, after) (sym (cut_occurrences d o rest (λ l. count (become l))))

  pub statements_are : (inner : ℕ → ℕ) (most : ℕ) (statements : List Statement) → length statements ≤ most → statement_count inner (lines_within tests most statements) ≡ statements_in inner statements
  statements_are inner zero [] h = refl
  statements_are inner zero (s ∷ statements) h = absurd (omega arith)
  statements_are inner (suc most) [] h = refl
  statements_are inner (suc most) (statement.Run a n ∷ rest) h = ap (λ m. 1 + m) (statements_are inner most rest (omega arith))
  statements_are inner (suc most) (statement.Post l n ∷ rest) h = ap (λ m. 1 + m) (statements_are inner most rest (omega arith))
  statements_are inner (suc most) (statement.Call l n ∷ rest) h = ap (λ m. 1 + inner l + m) (statements_are inner most rest (omega arith))
  statements_are inner (suc most) (statement.Stop ∷ rest) h = ap (λ m. 1 + m) (statements_are inner most rest (omega arith))
  statements_are inner (suc most) (statement.If t d o ∷ rest) h =
      let done = statements_are inner most (take d rest) (short_done d o rest most (omega arith)) in
      let otherwise = statements_are inner most (take o (drop d rest)) (short_otherwise d o rest most (omega arith)) in
      let after = statements_are inner most (drop o (drop d rest)) (short_rest d o rest most (omega arith)) in
      rw (done, otherwise, after, cut_statements d o rest inner) (regroup (statements_in inner (take d rest)) (statements_in inner (take o (drop d rest))) (statements_in inner (drop o (drop d rest))))
    where
      regroup : (a b c : ℕ) → 1 + a + b + c ≡ 1 + (a + (b + c))
      regroup a b c = omega arith

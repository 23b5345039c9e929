-- What a class alone decides of a table, and what follows its head.
use Rattle.std.proofs.Common.{◌≡◌, ◌≢◌, ℕ, zero, suc, ◌+◌, ◌-◌, ◌≤◌, Bool, true, false, not, List, [], ◌∷◌, Option, Some, None, length, take, drop, bit_or, refl, sym, ap, ◌∙◌, arith}
use Rattle.std.specs.Prelude.{IfSome}
use Rattle.std.proofs.Math.Seq.{drop-nil}
use Rattle.std.proofs.lemmas.List.{length-drop}
use Rattle.sy_select.specs.declared.verdict.Verdict.{Verdict}
use Rattle.sy_rules.specs.declared.lists.decided.Head.{Head}
use Rattle.sy_rules.specs.declared.lists.statement.Statement.{Statement}
use Rattle.sy_rules.specs.declared.lists.statement.Statement.TheVariants as statement
use Rattle.sy_rules.specs.declared.lists.walk.Reached.{Reached}
use Rattle.sy_rules.specs.internal.ClassFlows.{AreMet, IsHeadAt, IsMet, IsTail, executes, met_list, met_statements}
use Rattle.sy_rules.specs.internal.TableWalk.{followed_by, take_met}
use Rattle.sy_rules.specs.internal.Tables.{table_at}
use Rattle.sy_rules.proofs.lemmas.lists.TableLaws.{before_nothing, ends, followed_by_both, run_if}

-- ---- the rest of a table

pub tail_drop : (k : ℕ) (xs : List Statement) → IsTail (drop k xs) xs
tail_drop zero xs =
    let none : length xs - length xs ≡ 0 = omega arith in
    ap (λ n. drop n xs) (sym none)
tail_drop (suc k) [] = refl
tail_drop (suc k) (x ∷ xs) =
    let long = length-drop k xs in
    let more : suc (length xs - length (drop k xs)) ≡ suc (length xs) - length (drop k xs) = omega arith in
    tail_drop k xs ∙ ap (λ n. drop n (x ∷ xs)) more

drop_drop : (m n : ℕ) (xs : List Statement) → drop m (drop n xs) ≡ drop (n + m) xs
drop_drop m zero xs = let same : m ≡ 0 + m = omega arith in ap (λ k. drop k xs) same
drop_drop m (suc n) [] = drop-nil m ∙ sym (drop-nil (suc n + m))
drop_drop m (suc n) (x ∷ xs) =
    let same : suc (n + m) ≡ suc n + m = omega arith in
    drop_drop m n xs ∙ ap (λ k. drop k (x ∷ xs)) same

pub tail_within : (a b c : List Statement) → IsTail a b → IsTail b c → length a ≤ length b → length b ≤ length c → IsTail a c
tail_within a b c of_b of_c low high =
    let both : length c - length b + (length b - length a) ≡ length c - length a = omega (arith, low, high) in
    of_b ∙ ap (drop (length b - length a)) of_c ∙ drop_drop (length b - length a) (length c - length b) c ∙ ap (λ n. drop n c) both

pub tail_of_rest : (x : Statement) (after later : List Statement) → IsTail later after → length later ≤ length after → IsTail later (x ∷ after)
tail_of_rest x after later of_it low =
    let more : suc (length after - length later) ≡ suc (length after) - length later = omega (arith, low) in
    of_it ∙ ap (λ n. drop n (x ∷ after)) more

-- ---- statements, one after the other

module _ (judge : ℕ → Verdict) (tables : List (List Statement)) where
  -- a test, whose block does this
  pub decided_if : (depth t d o : ℕ) (after done other rest : List Statement) (base : ℕ) (reached : Reached)
      → done ≡ take d after → other ≡ take o (drop d after) → rest ≡ drop o (drop d after)
      → ((met : ℕ → Bool) (is_met : Bool) → AreMet judge met → IsMet (judge t) is_met → take_met is_met (met_statements met tables depth done base) (met_statements met tables depth other base) ≡ reached)
      → (met : ℕ → Bool) → AreMet judge met → met_statements met tables depth (statement.If t d o ∷ after) base ≡ followed_by reached (met_statements met tables depth rest base)
  decided_if depth t d o after done other rest base reached ey en er block met are =
      let walked = met_statements met tables depth in
      run_if (λ k. take_met (met k)) tables depth t d o after base
      ∙ ap (λ r. followed_by r (walked (drop o (drop d after)) base))
      (ap (λ y. take_met (met t) (walked y base) (walked (take o (drop d after)) base)) (sym ey)
      ∙ ap (λ n. take_met (met t) (walked done base) (walked n base)) (sym en) ∙ block met (met t) are (are t))
      ∙ ap (λ r. followed_by reached (walked r base)) (sym er)

  -- what was found so far, whatever the free tests say, and the next statement
  abbrev pub SoFar : ℕ → List Statement → ℕ → Reached → List Statement → Type 0
  SoFar depth all base reached rest = (met : ℕ → Bool) → AreMet judge met
      → met_statements met tables depth all base ≡ followed_by reached (met_statements met tables depth rest base)

  pub so_far_more : (depth : ℕ) (all : List Statement) (base : ℕ) (reached next new : Reached) (rest whole later : List Statement) → whole ≡ rest → new ≡ followed_by reached next
      → SoFar depth all base reached rest
      → ((met : ℕ → Bool) → AreMet judge met → met_statements met tables depth whole base ≡ followed_by next (met_statements met tables depth later base))
      → SoFar depth all base new later
  so_far_more depth all base reached next new rest whole later same is so_far step met are =
      let walked = met_statements met tables depth in
      so_far met are ∙ ap (λ r. followed_by reached (walked r base)) (sym same) ∙ ap (followed_by reached) (step met are)
      ∙ sym (followed_by_both reached next (walked later base)) ∙ ap (λ r. followed_by r (walked later base)) (sym is)

  pub so_far_over : (depth : ℕ) (all : List Statement) (base : ℕ) (reached : Reached) (rest : List Statement) → SoFar depth all base reached rest → reached.goes_on ≡ false
      → (met : ℕ → Bool) → AreMet judge met → met_statements met tables depth all base ≡ reached
  so_far_over depth all base reached rest so_far over met are = so_far met are ∙ ends reached (met_statements met tables depth rest base) over

  pub so_far_done : (depth : ℕ) (all : List Statement) (base : ℕ) (reached : Reached) (rest : List Statement) → SoFar depth all base reached rest → rest ≡ []
      → (met : ℕ → Bool) → AreMet judge met → met_statements met tables depth all base ≡ reached
  so_far_done depth all base reached rest so_far none met are =
      so_far met are ∙ ap (λ r. followed_by reached (met_statements met tables depth r base)) none ∙ before_nothing reached

pub not_false : (b : Bool) → not b ≡ false → b ≡ true
not_false true e = refl
not_false false e = cc

-- all goes on behind statements that go on
pub executes_more : (set new : ℕ) (next : Reached) → next.goes_on ≡ true → new ≡ bit_or set next.set → executes new ≡ followed_by (executes set) next
executes_more set new next goes is = rw (is, goes) refl

-- the rest of a table is what its head leaves
pub head_left : (judge : ℕ → Verdict) (tables : List (List Statement)) (depth : ℕ) (table rest : List Statement) (head : Head) (executed : ℕ) → IsTail rest table
    → head.size ≡ length table - length rest → head.executed ≡ executed → SoFar judge tables depth table 0 (executes executed) rest → IsHeadAt depth judge tables table head
head_left judge tables depth table rest head executed tail size is so_far met are =
    so_far met are ∙ ap (λ n. followed_by (executes n) (met_statements met tables depth rest 0)) (sym is)
    ∙ ap (λ r. followed_by (executes head.executed) (met_statements met tables depth r 0)) (tail ∙ ap (λ n. drop n table) (sym size))

-- ---- a list by its table

pub list_is_statements : (met : ℕ → Bool) (tables : List (List Statement)) (depth list base : ℕ) (table : List Statement) → depth ≢ 0 → table ≡ table_at tables list
    → met_list met tables depth list base ≡ met_statements met tables (depth - 1) table base
list_is_statements met tables zero list base table some e = absurd (some refl)
list_is_statements met tables (suc depth) list base table some e =
    let less : suc depth - 1 ≡ depth = omega arith in
    rw (less, e) refl

pub by_statements : (judge : ℕ → Verdict) (tables : List (List Statement)) (depth list base : ℕ) (table : List Statement) (found : Option Reached) → depth ≢ 0 → table ≡ table_at tables list
    → IfSome found (λ reached. (met : ℕ → Bool) → AreMet judge met → met_statements met tables (depth - 1) table base ≡ reached)
    → IfSome found (λ reached. (met : ℕ → Bool) → AreMet judge met → met_list met tables depth list base ≡ reached)
by_statements judge tables depth list base table None some e h = h
by_statements judge tables depth list base table (Some reached) some e h = λ met are. list_is_statements met tables depth list base table some e ∙ h met are

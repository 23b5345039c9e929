-- The walks over tables: parts one after another, and a table's statements, of which a walk needs no more fuel than there are.
use Rattle.std.proofs.Common.{◌≡◌, ℕ, zero, suc, ◌+◌, ◌-◌, ◌*◌, ◌≤◌, ◌<◌, ◌≢◌, zero-le, Bool, true, false, not, if◌then◌else◌, List, [], ◌∷◌, length, get_or, sum_by, take, drop, refl, sym, ap, ◌∙◌, arith}
use Rattle.std.specs.Int.Bits.{or_zero_r}
use Rattle.std.proofs.Math.Nat.{suc-mul}
use Rattle.std.proofs.lemmas.List.{length-take, length-drop}
use Rattle.std.proofs.lemmas.List.Sums.{sum_by-cons}
use Rattle.sy_rules.specs.declared.lists.statement.Statement.{Statement}
use Rattle.sy_rules.specs.declared.lists.statement.Statement.TheVariants as statement
use Rattle.sy_rules.specs.declared.lists.walk.Reached.{Reached}
use Rattle.sy_rules.specs.internal.TableWalk.{followed_by, nothing, one, place, run, run_list, run_statements, take_met}
use Rattle.sy_rules.specs.internal.Tables.{table_at}
use Rattle.sy_rules.proofs.lemmas.lists.Sets.{or_or}

-- ---- parts one after another

by_parts : (x y z : ℕ) (p q r : Bool) → let a : Reached = record { set = x; goes_on = p } in let b : Reached = record { set = y; goes_on = q } in let c : Reached = record { set = z; goes_on = r } in
    followed_by (followed_by a b) c ≡ followed_by a (followed_by b c)
by_parts x y z true true r = ap (λ (s : ℕ). record { set = s; goes_on = r }) (or_or x y z)
by_parts x y z true false r = refl
by_parts x y z false q r = refl

pub followed_by_both : (a b c : Reached) → followed_by (followed_by a b) c ≡ followed_by a (followed_by b c)
followed_by_both a b c = by_parts a.set b.set c.set a.goes_on b.goes_on c.goes_on

pub before_nothing : (a : Reached) → followed_by a nothing ≡ a
before_nothing a = by a.set a.goes_on
  where
    by : (s : ℕ) (b : Bool) → let a : Reached = record { set = s; goes_on = b } in followed_by a nothing ≡ a
    by s true = ap (λ (x : ℕ). record { set = x; goes_on = true }) (or_zero_r s)
    by s false = refl

pub ends : (a b : Reached) → a.goes_on ≡ false → followed_by a b ≡ a
ends a b h = by a.set a.goes_on h
  where
    by : (s : ℕ) (g : Bool) → g ≡ false → let a : Reached = record { set = s; goes_on = g } in followed_by a b ≡ a
    by s true h = cc
    by s false h = refl

-- ---- the loop over the statements of a table

taken_all : (X : Type 0) (xs : List X) (n : ℕ) → length xs ≤ n → take n xs ≡ xs
taken_all X [] zero h = refl
taken_all X [] (suc n) h = refl
taken_all X (x ∷ xs) zero h = absurd (omega arith)
taken_all X (x ∷ xs) (suc n) h = ap (λ ys. x ∷ ys) (taken_all X xs n (omega arith))

pub first_and_rest : (X : Type 0) (xs : List X) (d : X) → 1 ≤ length xs → get_or xs 0 d ∷ take (length xs - 1) (drop 1 xs) ≡ xs
first_and_rest X [] d h = absurd (omega arith)
first_and_rest X (x ∷ xs) d h = ap (λ ys. x ∷ ys) (taken_all X xs (length (x ∷ xs) - 1) (omega arith))

pub no_rest : (X : Type 0) (xs : List X) → length xs < 1 → xs ≡ []
no_rest X [] h = refl
no_rest X (x ∷ xs) h = absurd (omega arith)

pub not_true : (b : Bool) → not b ≡ true → b ≡ false
not_true true h = cc
not_true false h = refl

-- what was found, then the next statement and what is left
pub more : (found next new left rest whole : Reached) → new ≡ followed_by found next → rest ≡ followed_by next left → followed_by found rest ≡ whole → followed_by new left ≡ whole
more found next new left rest whole e f g = ap (λ r. followed_by r left) e ∙ followed_by_both found next left ∙ ap (followed_by found) (sym f) ∙ g

pub finish : (found whole : Reached) → followed_by found nothing ≡ whole → found ≡ whole
finish found whole e = sym (before_nothing found) ∙ e

-- ---- a walk that may take more statements than there are

module _ (take_of : ℕ → Reached → Reached → Reached) (called : ℕ → ℕ → Reached) where
  pub run_fuel : (most least : ℕ) (statements : List Statement) (base : ℕ) → length statements ≤ most → length statements ≤ least → run take_of called most statements base ≡ run take_of called least statements base
  run_fuel zero zero statements base h g = refl
  run_fuel zero (suc least) [] base h g = refl
  run_fuel zero (suc least) (s ∷ statements) base h g = absurd (omega arith)
  run_fuel (suc most) zero [] base h g = refl
  run_fuel (suc most) zero (s ∷ statements) base h g = absurd (omega arith)
  run_fuel (suc most) (suc least) [] base h g = refl
  run_fuel (suc most) (suc least) (statement.Run a n ∷ rest) base h g = ap (followed_by (one (place base n))) (run_fuel most least rest base (omega arith) (omega arith))
  run_fuel (suc most) (suc least) (statement.Post l n ∷ rest) base h g = ap (followed_by (one (place base n))) (run_fuel most least rest base (omega arith) (omega arith))
  run_fuel (suc most) (suc least) (statement.Call l n ∷ rest) base h g = ap (followed_by (called l (place base n))) (run_fuel most least rest base (omega arith) (omega arith))
  run_fuel (suc most) (suc least) (statement.Stop ∷ rest) base h g = refl
  run_fuel (suc most) (suc least) (statement.If t d o ∷ rest) base h g =
      let td = length-take d rest in
      let dd = length-drop d rest in
      let to = length-take o (drop d rest) in
      let dod = length-drop o (drop d rest) in
      rw (
        run_fuel most least (take d rest) base (omega arith) (omega arith),
        run_fuel most least (take o (drop d rest)) base (omega arith) (omega arith),
        run_fuel most least (drop o (drop d rest)) base (omega arith) (omega arith),
      ) refl

-- a test, its two blocks, and what follows
pub run_if : (take_of : ℕ → Reached → Reached → Reached) (tables : List (List Statement)) (depth t d o : ℕ) (after : List Statement) (base : ℕ) →
    let walked = run_statements take_of tables depth in
    walked (statement.If t d o ∷ after) base ≡ followed_by (take_of t (walked (take d after) base) (walked (take o (drop d after)) base)) (walked (drop o (drop d after)) base)
run_if take_of tables depth t d o after base =
    let called = run_list take_of tables depth in
    let n = length after in
    let td = length-take d after in
    let dd = length-drop d after in
    let to = length-take o (drop d after) in
    let dod = length-drop o (drop d after) in
    rw (
      run_fuel take_of called n (length (take d after)) (take d after) base (omega arith) (omega arith),
      run_fuel take_of called n (length (take o (drop d after))) (take o (drop d after)) base (omega arith) (omega arith),
      run_fuel take_of called n (length (drop o (drop d after))) (drop o (drop d after)) base (omega arith) (omega arith),
    ) refl

picked : (walked : List Statement → ℕ → Reached) (b : Bool) (x y : List Statement) (base : ℕ) → take_met b (walked x base) (walked y base) ≡ walked (if b then x else y) base
picked walked true x y base = refl
picked walked false x y base = refl

-- a test, the block that it leads to, and what follows
pub run_met : (met : ℕ → Bool) (tables : List (List Statement)) (depth t d o : ℕ) (after block rest : List Statement) (base : ℕ)
    → (if met t then take d after else take o (drop d after)) ≡ block → drop o (drop d after) ≡ rest
    → let walked = run_statements (λ k. take_met (met k)) tables depth in walked (statement.If t d o ∷ after) base ≡ followed_by (walked block base) (walked rest base)
run_met met tables depth t d o after block rest base is left =
    let walked = run_statements (λ k. take_met (met k)) tables depth in
    run_if (λ k. take_met (met k)) tables depth t d o after base
    ∙ ap (λ r. followed_by r (walked (drop o (drop d after)) base)) (picked walked (met t) (take d after) (take o (drop d after)) base ∙ ap (λ b. walked b base) is)
    ∙ ap (λ r. followed_by (walked block base) (walked r base)) left

-- no table is longer than all of them
pub table_length : (tables : List (List Statement)) (list : ℕ) → length (table_at tables list) ≤ sum_by length tables
table_length [] list = zero-le
table_length (t ∷ tables) zero = let e = sum_by-cons length t tables in let f : length (table_at (t ∷ tables) zero) ≡ length t = refl in omega arith
table_length (t ∷ tables) (suc list) =
    let h = table_length tables list in
    let e = sum_by-cons length t tables in
    let f : length (table_at (t ∷ tables) (suc list)) ≡ length (table_at tables list) = refl in
    omega arith

falls_by_one : (depth statement less : ℕ) → less < statement → depth * statement + less < suc depth * statement
falls_by_one depth statement less h = omega (arith, suc-mul depth statement)

pub falls_by_depth : (depth most long : ℕ) → depth ≢ 0 → long ≤ most → (depth - 1) * (2 + 3 * most) + 1 + 3 * long < depth * (2 + 3 * most)
falls_by_depth zero most long some h = absurd (some refl)
falls_by_depth (suc depth) most long some h =
    let e : suc depth - 1 ≡ depth = omega arith in
    let f = falls_by_one depth (2 + 3 * most) (1 + 3 * long) (omega arith) in
    rw e (omega arith)

-- What a list does that is called after so many occurrences is what it does by itself, with its set turned.
use Rattle.std.proofs.Common.{◌≡◌, ℕ, zero, suc, ◌+◌, ◌-◌, ◌*◌, ◌/◌, ◌%◌, ◌^◌, ◌<◌, Bool, true, false, ◌||◌, ◌&&◌, List, [], ◌∷◌, ◌++◌, map, length, take, drop, bit_or, inl, inr, refl, sym, ap, ◌∙◌, arith, add-zero, zero-mul, pow-add, pow_pos, mod-eq_of_lt}
use Rattle.std.specs.Int.{w64, rotate_left}
use Rattle.std.specs.Int.Bits.{or_self, or_zero_l, or_zero_r}
use Rattle.std.proofs.Math.Nat.{div-eq_of_lt, zero-div}
use Rattle.std.proofs.lemmas.Bool.{cases_eq, cases_lt}
use Rattle.std.proofs.lemmas.Nat.{mod_low, or_block, or_comm, or_mod, or_shr, pow_below, shr_high}
use Rattle.sy_wire.specs.declared.class.Class.{Class}
use Rattle.sy_select.specs.declared.condition.Test.{Test}
use Rattle.sy_select.specs.declared.verdict.Verdict.{Verdict}
use Rattle.sy_select.specs.declared.verdict.Verdict.TheVariants.{Yes, No, Either}
use Rattle.sy_select.specs.Truth.{Formula}
use Rattle.sy_rules.specs.declared.lists.statement.Statement.{Statement}
use Rattle.sy_rules.specs.declared.lists.statement.Statement.TheVariants as statement
use Rattle.sy_rules.specs.declared.lists.walk.Reached.{Reached}
use Rattle.sy_rules.specs.declared.lists.flow.Flow.{Flow}
use Rattle.sy_rules.specs.internal.FlowWalk.{flow_of_list, flow_turned, judged, may_take, must_take, turned}
use Rattle.sy_rules.specs.internal.TableWalk.{followed_by, nothing, one, place, run, run_list, stopped}
use Rattle.sy_rules.specs.internal.Tables.{table_at}
use Rattle.sy_rules.proofs.lemmas.lists.Sets.{or_or}

-- ---- sets of numbers from a base on

-- the set of these numbers where a list begins at this one
abbrev set_from : ℕ → List ℕ → ℕ
set_from base [] = 0
set_from base (n ∷ ns) = bit_or (2 ^ ((base + n) % 64)) (set_from base ns)

abbrev from : List ℕ → Bool → ℕ → Reached
from ns goes base = record { set = set_from base ns; goes_on = goes }

set_from-append : (base : ℕ) (xs ys : List ℕ) → set_from base (xs ++ ys) ≡ bit_or (set_from base xs) (set_from base ys)
set_from-append base [] ys = sym (or_zero_l (set_from base ys))
set_from-append base (x ∷ xs) ys =
    ap (bit_or (2 ^ ((base + x) % 64))) (set_from-append base xs ys)
    ∙ sym (or_or (2 ^ ((base + x) % 64)) (set_from base xs) (set_from base ys))

-- numbers are cut at 2^32, which 64 divides
placed : (base n m : ℕ) → (place base n + m) % 64 ≡ (base + (n + m)) % 64
placed base n m = omega arith

set_from-placed : (base n : ℕ) (ms : List ℕ) → set_from (place base n) ms ≡ set_from base (map (λ m. n + m) ms)
set_from-placed base n [] = refl
set_from-placed base n (m ∷ ms) = let at = placed base n m in rw (at, set_from-placed base n ms) refl

one_placed : (base n : ℕ) → place base n % 64 ≡ (base + n) % 64
one_placed base n = omega arith

-- ---- what turns with its base

record Turns (f : ℕ → Reached) : Type 0 where
  pub numbers : List ℕ
  pub goes : Bool
  pub is : (base : ℕ) → f base ≡ from numbers goes base

turns_nothing : Turns (λ base. nothing)
turns_nothing = record { numbers = []; goes = true; is = λ base. refl }

turns_stopped : Turns (λ base. stopped)
turns_stopped = record { numbers = []; goes = false; is = λ base. refl }

turns_one : (n : ℕ) → Turns (λ base. one (place base n))
turns_one n = record {
  numbers = n ∷ [];
  goes = true;
  is = λ base. ap (λ (s : ℕ). let r : Reached = record { set = s; goes_on = true } in r)
      (ap (λ k. 2 ^ k) (one_placed base n) ∙ sym (or_zero_r (2 ^ ((base + n) % 64))));
}

turns_placed : (f : ℕ → Reached) (n : ℕ) → Turns f → Turns (λ base. f (place base n))
turns_placed f n t = record {
  numbers = map (λ m. n + m) t.numbers;
  goes = t.goes;
  is = λ base. t.is (place base n) ∙ ap (λ (s : ℕ). let r : Reached = record { set = s; goes_on = t.goes } in r) (set_from-placed base n t.numbers);
}

turns_followed : (f g : ℕ → Reached) → Turns f → Turns g → Turns (λ base. followed_by (f base) (g base))
turns_followed f g t u = by t.goes (λ base. t.is base)
  where
    by : (goes : Bool) → ((base : ℕ) → f base ≡ from t.numbers goes base) → Turns (λ base. followed_by (f base) (g base))
    by true is = record {
      numbers = t.numbers ++ u.numbers;
      goes = u.goes;
      is = λ base. ap (λ r. followed_by r (g base)) (is base) ∙ ap (followed_by (from t.numbers true base)) (u.is base)
          ∙ ap (λ (s : ℕ). let r : Reached = record { set = s; goes_on = u.goes } in r) (sym (set_from-append base t.numbers u.numbers));
    }
    by false is = record {
      numbers = t.numbers;
      goes = false;
      is = λ base. ap (λ r. followed_by r (g base)) (is base);
    }

turns_may : (v : Verdict) (f g : ℕ → Reached) → Turns f → Turns g → Turns (λ base. may_take v (f base) (g base))
turns_may Yes f g t u = t
turns_may No f g t u = u
turns_may Either f g t u = record {
  numbers = t.numbers ++ u.numbers;
  goes = t.goes || u.goes;
  is = λ base. ap (λ r. may_take Either r (g base)) (t.is base) ∙ ap (may_take Either (from t.numbers t.goes base)) (u.is base)
      ∙ ap (λ (s : ℕ). let r : Reached = record { set = s; goes_on = t.goes || u.goes } in r) (sym (set_from-append base t.numbers u.numbers));
}

turns_must : (v : Verdict) (f g : ℕ → Reached) → Turns f → Turns g → Turns (λ base. must_take v (f base) (g base))
turns_must Yes f g t u = t
turns_must No f g t u = u
turns_must Either f g t u = record {
  numbers = [];
  goes = t.goes && u.goes;
  is = λ base. ap (λ r. must_take Either r (g base)) (t.is base) ∙ ap (must_take Either (from t.numbers t.goes base)) (u.is base);
}

-- ---- lists turn

module _ (take_of : ℕ → Reached → Reached → Reached) (takes : (test : ℕ) (f g : ℕ → Reached) → Turns f → Turns g → Turns (λ base. take_of test (f base) (g base))) where
  run_turns : (called : ℕ → ℕ → Reached) → ((list : ℕ) → Turns (called list)) → (most : ℕ) (statements : List Statement) → Turns (λ base. run take_of called most statements base)
  run_turns called each zero statements = turns_nothing
  run_turns called each (suc most) [] = turns_nothing
  run_turns called each (suc most) (statement.Run action n ∷ rest) =
      turns_followed (λ base. one (place base n)) (λ base. run take_of called most rest base) (turns_one n) (run_turns called each most rest)
  run_turns called each (suc most) (statement.Post list n ∷ rest) =
      turns_followed (λ base. one (place base n)) (λ base. run take_of called most rest base) (turns_one n) (run_turns called each most rest)
  run_turns called each (suc most) (statement.Call list n ∷ rest) =
      turns_followed (λ base. called list (place base n)) (λ base. run take_of called most rest base) (turns_placed (called list) n (each list)) (run_turns called each most rest)
  run_turns called each (suc most) (statement.Stop ∷ rest) = turns_stopped
  run_turns called each (suc most) (statement.If test d o ∷ rest) =
      let done = λ (base : ℕ). run take_of called most (take d rest) base in
      let otherwise = λ (base : ℕ). run take_of called most (take o (drop d rest)) base in
      turns_followed (λ base. take_of test (done base) (otherwise base)) (λ base. run take_of called most (drop o (drop d rest)) base)
      (takes test done otherwise (run_turns called each most (take d rest)) (run_turns called each most (take o (drop d rest))))
      (run_turns called each most (drop o (drop d rest)))

  list_turns : (tables : List (List Statement)) (depth list : ℕ) → Turns (λ base. run_list take_of tables depth list base)
  list_turns tables zero list = turns_nothing
  list_turns tables (suc depth) list =
      run_turns (run_list take_of tables depth) (λ callee. list_turns tables depth callee) (length (table_at tables list)) (table_at tables list)

-- ---- what turns is turned

rotates_zero : (base : ℕ) → rotate_left w64 0 base ≡ 0
rotates_zero base = λ i. bit_or (zero-mul (2 ^ (base % 64)) i % 2 ^ 64) (zero-div (2 ^ ((64 - base % 64) % 64)) i)

or_shl : (x y k : ℕ) → bit_or x y * 2 ^ k ≡ bit_or (x * 2 ^ k) (y * 2 ^ k)
or_shl x y k = sym (add-zero (bit_or x y * 2 ^ k)) ∙ sym (or_block k x y 0 0 (pow_pos k) (pow_pos k)) ∙ (λ i. bit_or (add-zero (x * 2 ^ k) i) (add-zero (y * 2 ^ k) i))

or_exchanged : (a b c d : ℕ) → bit_or (bit_or a b) (bit_or c d) ≡ bit_or (bit_or a c) (bit_or b d)
or_exchanged a b c d =
    or_or a b (bit_or c d) ∙ ap (bit_or a) (sym (or_or b c d) ∙ ap (λ x. bit_or x d) (or_comm b c) ∙ or_or c b d) ∙ sym (or_or a c (bit_or b d))

rotates_or : (x y base : ℕ) → rotate_left w64 (bit_or x y) base ≡ bit_or (rotate_left w64 x base) (rotate_left w64 y base)
rotates_or x y base =
    let k = base % 64 in
    let j = (64 - base % 64) % 64 in
    (λ i. bit_or ((ap (λ n. n % 2 ^ 64) (or_shl x y k) ∙ or_mod (x * 2 ^ k) (y * 2 ^ k) 64) i) (or_shr x y j i))
    ∙ or_exchanged (x * 2 ^ k % 2 ^ 64) (y * 2 ^ k % 2 ^ 64) (x / 2 ^ j) (y / 2 ^ j)

-- one number, moved up by so many places, within 64 and past them
up_within : (m k : ℕ) → m + k < 64 → 2 ^ m * 2 ^ k % 2 ^ 64 ≡ 2 ^ (m + k)
up_within m k h = ap (λ x. x % 2 ^ 64) (sym (pow-add 2 m k)) ∙ mod-eq_of_lt (pow_below (m + k) 64 h)

up_past : (m k r : ℕ) → m + k ≡ r + 64 → 2 ^ m * 2 ^ k % 2 ^ 64 ≡ 0
up_past m k r e =
    ap (λ x. x % 2 ^ 64) (sym (pow-add 2 m k) ∙ ap (λ i. 2 ^ i) e ∙ pow-add 2 r 64 ∙ sym (add-zero (2 ^ r * 2 ^ 64))) ∙ mod_low (2 ^ r) 64 0 (pow_pos 64)

down_within : (m j r : ℕ) → m ≡ r + j → 2 ^ m / 2 ^ j ≡ 2 ^ r
down_within m j r e = ap (λ x. x / 2 ^ j) (ap (λ i. 2 ^ i) e ∙ pow-add 2 r j ∙ sym (add-zero (2 ^ r * 2 ^ j))) ∙ shr_high (2 ^ r) j 0 (pow_pos j)

rotates_by : (m k j : ℕ) → m < 64 → k < 64 → j ≡ (64 - k) % 64 → bit_or (2 ^ m * 2 ^ k % 2 ^ 64) (2 ^ m / 2 ^ j) ≡ 2 ^ ((k + m) % 64)
rotates_by m k j low small e =
    elim (cases_lt (m + k) 64) [
      | inl within ↦ elim (cases_eq k 0) [
        | inl none ↦
            let same : m + k ≡ m = omega arith in
            let here : m ≡ m + j = omega arith in
            let at : m ≡ (k + m) % 64 = omega arith in
            (λ i. bit_or ((up_within m k within ∙ ap (λ n. 2 ^ n) same) i) (down_within m j m here i)) ∙ or_self (2 ^ m) ∙ ap (λ n. 2 ^ n) at
        | inr some ↦
            let at : m + k ≡ (k + m) % 64 = omega arith in
            (λ i. bit_or (up_within m k within i) (div-eq_of_lt (pow_below m j (omega arith)) i)) ∙ or_zero_r (2 ^ (m + k)) ∙ ap (λ n. 2 ^ n) at
      ]
      | inr past ↦
          let r = m + k - 64 in
          let above : m + k ≡ r + 64 = omega arith in
          let here : m ≡ r + j = omega arith in
          let at : r ≡ (k + m) % 64 = omega arith in
          (λ i. bit_or (up_past m k r above i) (down_within m j r here i)) ∙ or_zero_l (2 ^ r) ∙ ap (λ n. 2 ^ n) at
    ]

rotates_one : (n base : ℕ) → rotate_left w64 (2 ^ (n % 64)) base ≡ 2 ^ ((base + n) % 64)
rotates_one n base =
    let at : (base % 64 + n % 64) % 64 ≡ (base + n) % 64 = omega arith in
    rotates_by (n % 64) (base % 64) ((64 - base % 64) % 64) (omega arith) (omega arith) refl ∙ ap (λ k. 2 ^ k) at

rotates : (base : ℕ) (ns : List ℕ) → rotate_left w64 (set_from 0 ns) base ≡ set_from base ns
rotates base [] = rotates_zero base
rotates base (n ∷ ns) =
    let at : 0 + n ≡ n = omega arith in
    ap (λ m. rotate_left w64 (bit_or (2 ^ (m % 64)) (set_from 0 ns)) base) at
    ∙ rotates_or (2 ^ (n % 64)) (set_from 0 ns) base
    ∙ ap (λ x. bit_or x (rotate_left w64 (set_from 0 ns) base)) (rotates_one n base)
    ∙ ap (bit_or (2 ^ ((base + n) % 64))) (rotates base ns)

is_turned : (f : ℕ → Reached) → Turns f → (base : ℕ) → f base ≡ turned (f 0) base
is_turned f t base =
    t.is base ∙ ap (λ (s : ℕ). let r : Reached = record { set = s; goes_on = t.goes } in r) (sym (rotates base t.numbers))
    ∙ ap (λ r. turned r base) (sym (t.is 0))

pub list_is_turned : (class : Class) (tests : List (Formula Test)) (tables : List (List Statement)) (depth list base : ℕ)
    → flow_of_list class tests tables depth list base ≡ flow_turned (flow_of_list class tests tables depth list 0) base
list_is_turned class tests tables depth list base =
    let may = λ (test : ℕ). may_take (judged class tests test) in
    let must = λ (test : ℕ). must_take (judged class tests test) in
    let first = is_turned (λ b. run_list may tables depth list b) (list_turns may (λ test f g t u. turns_may (judged class tests test) f g t u) tables depth list) base in
    let second = is_turned (λ b. run_list must tables depth list b) (list_turns must (λ test f g t u. turns_must (judged class tests test) f g t u) tables depth list) base in
    ap (λ (r : Reached). let x : Flow = record { may = r; must = run_list must tables depth list base } in x) first
    ∙ ap (λ (r : Reached). let x : Flow = record { may = turned (run_list may tables depth list 0) base; must = r } in x) second

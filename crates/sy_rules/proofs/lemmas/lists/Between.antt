-- Whatever the tests say that a class leaves open, a list executes all that it must, and nothing that it may not.
use Rattle.std.proofs.Common.{◌≡◌, ℕ, zero, suc, Bool, true, false, ◌||◌, ◌&&◌, List, [], ◌∷◌, length, take, drop, bit_or, refl, sym, ap, ◌∙◌}
use Rattle.std.specs.Prelude.{IfSome, Option, Some, None}
use Rattle.std.specs.Int.Bits.{or_self, or_zero_l}
use Rattle.std.proofs.lemmas.Bool.{true≢false}
use Rattle.std.proofs.lemmas.Nat.{or_comm}
use Rattle.sy_wire.specs.declared.class.Class.{Class}
use Rattle.sy_select.specs.declared.condition.Test.{Test}
use Rattle.sy_select.specs.declared.verdict.Verdict.{Verdict}
use Rattle.sy_select.specs.declared.verdict.Verdict.TheVariants.{Yes, No, Either}
use Rattle.sy_select.specs.Truth.{Formula}
use Rattle.sy_rules.specs.declared.lists.flow.Flow.{Flow}
use Rattle.sy_rules.specs.declared.lists.statement.Statement.{Statement}
use Rattle.sy_rules.specs.declared.lists.statement.Statement.TheVariants as statement
use Rattle.sy_rules.specs.declared.lists.walk.Reached.{Reached}
use Rattle.sy_rules.specs.internal.ClassFlows.{AreMet, IsMet, met_list}
use Rattle.sy_rules.specs.internal.FlowWalk.{flow_of_list, judged, may_take, must_take}
use Rattle.sy_rules.specs.internal.TableWalk.{followed_by, nothing, one, place, run, run_list, stopped, take_met}
use Rattle.sy_rules.specs.internal.Tables.{table_at}
use Rattle.sy_rules.proofs.lemmas.lists.Sets.{or_or}

-- one executes no more than the other, and goes on only where that does
record Below (low high : Reached) : Type 0 where
  pub set : bit_or low.set high.set ≡ high.set
  pub goes : low.goes_on ≡ true → high.goes_on ≡ true

same_below : (r : Reached) → Below r r
same_below r = record { set = or_self r.set; goes = λ e. e }

-- a set within another is within that and more
more_within : (x y z : ℕ) → bit_or x y ≡ y → bit_or x (bit_or y z) ≡ bit_or y z
more_within x y z e = sym (or_or x y z) ∙ ap (λ s. bit_or s z) e

other_within : (x y z : ℕ) → bit_or x y ≡ y → bit_or x (bit_or z y) ≡ bit_or z y
other_within x y z e = ap (bit_or x) (or_comm z y) ∙ more_within x y z e ∙ or_comm y z

both_within : (a b c d : ℕ) → bit_or a b ≡ b → bit_or c d ≡ d → bit_or (bit_or a c) (bit_or b d) ≡ bit_or b d
both_within a b c d e f = or_or a c (bit_or b d) ∙ ap (bit_or a) (other_within c d b f) ∙ more_within a b d e

followed_below : (a b c d : Reached) → Below a b → Below c d → Below (followed_by a c) (followed_by b d)
followed_below a b c d p q = by a.set b.set a.goes_on b.goes_on p.set p.goes
  where
    by : (x y : ℕ) (g h : Bool) → bit_or x y ≡ y → (g ≡ true → h ≡ true)
        → let a : Reached = record { set = x; goes_on = g } in let b : Reached = record { set = y; goes_on = h } in Below (followed_by a c) (followed_by b d)
    by x y true true e f = record { set = both_within x y c.set d.set e q.set; goes = q.goes }
    by x y true false e f = absurd (true≢false (sym (f refl)))
    by x y false true e f = record { set = more_within x y d.set e; goes = λ no. absurd (true≢false (sym no)) }
    by x y false false e f = record { set = e; goes = λ no. absurd (true≢false (sym no)) }

both_true : (p q r : Bool) → (p ≡ true → r ≡ true) → (p && q) ≡ true → r ≡ true
both_true true q r f e = f refl
both_true false q r f e = absurd (true≢false (sym e))

both_true_second : (p q r : Bool) → (q ≡ true → r ≡ true) → (p && q) ≡ true → r ≡ true
both_true_second true q r f e = f e
both_true_second false q r f e = absurd (true≢false (sym e))

either_true : (g p q : Bool) → (g ≡ true → p ≡ true) → g ≡ true → (p || q) ≡ true
either_true g true q f e = refl
either_true g false q f e = absurd (true≢false (sym (f e)))

either_true_second : (g p q : Bool) → (g ≡ true → q ≡ true) → g ≡ true → (p || q) ≡ true
either_true_second g true q f e = refl
either_true_second g false q f e = f e

must_below : (v : Verdict) (m : Bool) (a b c d : Reached) → IsMet v m → Below a c → Below b d → Below (must_take v a b) (take_met m c d)
must_below Yes true a b c d is p q = p
must_below Yes false a b c d is p q = absurd (true≢false (sym is))
must_below No true a b c d is p q = absurd (true≢false is)
must_below No false a b c d is p q = q
must_below Either true a b c d is p q = record { set = or_zero_l c.set; goes = both_true a.goes_on b.goes_on c.goes_on p.goes }
must_below Either false a b c d is p q = record { set = or_zero_l d.set; goes = both_true_second a.goes_on b.goes_on d.goes_on q.goes }

below_may : (v : Verdict) (m : Bool) (a b c d : Reached) → IsMet v m → Below a c → Below b d → Below (take_met m a b) (may_take v c d)
below_may Yes true a b c d is p q = p
below_may Yes false a b c d is p q = absurd (true≢false (sym is))
below_may No true a b c d is p q = absurd (true≢false is)
below_may No false a b c d is p q = q
below_may Either true a b c d is p q = record { set = more_within a.set c.set d.set p.set; goes = either_true a.goes_on c.goes_on d.goes_on p.goes }
below_may Either false a b c d is p q = record { set = other_within b.set d.set c.set q.set; goes = either_true_second b.goes_on c.goes_on d.goes_on q.goes }

-- ---- walks

module _ (low high : ℕ → Reached → Reached → Reached) (takes : (test : ℕ) (a b c d : Reached) → Below a c → Below b d → Below (low test a b) (high test c d)) where
  run_below : (f g : ℕ → ℕ → Reached) → ((l base : ℕ) → Below (f l base) (g l base)) → (most : ℕ) (statements : List Statement) (base : ℕ)
      → Below (run low f most statements base) (run high g most statements base)
  run_below f g each zero statements base = same_below nothing
  run_below f g each (suc most) [] base = same_below nothing
  run_below f g each (suc most) (statement.Run a n ∷ rest) base = followed_below _ _ _ _ (same_below (one (place base n))) (run_below f g each most rest base)
  run_below f g each (suc most) (statement.Post l n ∷ rest) base = followed_below _ _ _ _ (same_below (one (place base n))) (run_below f g each most rest base)
  run_below f g each (suc most) (statement.Call l n ∷ rest) base = followed_below _ _ _ _ (each l (place base n)) (run_below f g each most rest base)
  run_below f g each (suc most) (statement.Stop ∷ rest) base = same_below stopped
  run_below f g each (suc most) (statement.If t d o ∷ rest) base =
      followed_below _ _ _ _
      (takes t _ _ _ _ (run_below f g each most (take d rest) base) (run_below f g each most (take o (drop d rest)) base))
      (run_below f g each most (drop o (drop d rest)) base)

  list_below : (tables : List (List Statement)) (depth l base : ℕ) → Below (run_list low tables depth l base) (run_list high tables depth l base)
  list_below tables zero l base = same_below nothing
  list_below tables (suc depth) l base =
      run_below (run_list low tables depth) (run_list high tables depth) (λ callee b. list_below tables depth callee b) (length (table_at tables l)) (table_at tables l) base

-- ---- where may and must are the same

goes_same : (g h : Bool) → (g ≡ true → h ≡ true) → (h ≡ true → g ≡ true) → h ≡ g
goes_same true true f e = refl
goes_same true false f e = f refl
goes_same false true f e = sym (e refl)
goes_same false false f e = refl

between : (low middle high same : Reached) → Below low middle → Below middle high → low ≡ same → high ≡ same → middle ≡ same
between low middle high same p q e f =
    let under : bit_or same.set middle.set ≡ middle.set = ap (λ (r : Reached). bit_or r.set middle.set) (sym e) ∙ p.set in
    let over : bit_or middle.set same.set ≡ same.set = ap (λ (r : Reached). bit_or middle.set r.set) (sym f) ∙ q.set ∙ ap (λ (r : Reached). r.set) f in
    let set : middle.set ≡ same.set = sym under ∙ or_comm same.set middle.set ∙ over in
    let goes : middle.goes_on ≡ same.goes_on = goes_same same.goes_on middle.goes_on
    (λ t. p.goes (ap (λ (r : Reached). r.goes_on) e ∙ t)) (λ t. sym (ap (λ (r : Reached). r.goes_on) f) ∙ q.goes t) in
    λ i. let r : Reached = record { set = set i; goes_on = goes i } in r

pub list_decided : (class : Class) (tests : List (Formula Test)) (tables : List (List Statement)) (depth l base : ℕ) (flow : Flow) (found : Option Reached)
    → flow_of_list class tests tables depth l base ≡ flow → IfSome found (λ reached. (flow.may ≡ reached) × (flow.must ≡ reached))
    → IfSome found (λ reached. (met : ℕ → Bool) → AreMet (judged class tests) met → met_list met tables depth l base ≡ reached)
list_decided class tests tables depth l base flow None is same = tt
list_decided class tests tables depth l base flow (Some reached) is same = λ met are.
    let judge = judged class tests in
    between (run_list (λ test. must_take (judge test)) tables depth l base) (met_list met tables depth l base) (run_list (λ test. may_take (judge test)) tables depth l base) reached
    (list_below (λ test. must_take (judge test)) (λ test. take_met (met test)) (λ test a b c d p q. must_below (judge test) (met test) a b c d (are test) p q) tables depth l base)
    (list_below (λ test. take_met (met test)) (λ test. may_take (judge test)) (λ test a b c d p q. below_may (judge test) (met test) a b c d (are test) p q) tables depth l base)
    (ap (λ (f : Flow). f.must) is ∙ same.1) (ap (λ (f : Flow). f.may) is ∙ same.0)

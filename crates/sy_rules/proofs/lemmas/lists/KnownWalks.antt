-- What walks by verdicts tell of walks under admitted valuations: of one walk after another, and of the two blocks of a test.
use Rattle.std.proofs.Common.{◌≡◌, ◌⊎◌, ◌≤◌, ◌<◌, ◌==◌, ℕ, Bool, true, false, ◌||◌, ◌&&◌, not, if◌then◌else◌, List, ◌++◌, Option, refl, sym, ap, subst, ◌∙◌, inl, inr, arith}
use Rattle.std.proofs.lemmas.Bool.{cases_lt, true≢false}
use Rattle.std.proofs.lemmas.List.Folds.{list_any-append}
use Rattle.sy_select.specs.declared.condition.Test.{Test}
use Rattle.sy_select.specs.declared.verdict.Verdict.{Verdict}
use Rattle.sy_select.specs.declared.verdict.Verdict.TheVariants.{Yes, No, Either}
use Rattle.sy_select.specs.Truth as truth
use Rattle.sy_select.specs.Truth.{Formula, Valuation, behind, IsVerdict}
use Rattle.sy_select.proofs.ExprLaws.{some_valuation}
use Rattle.sy_select.proofs.Valuations.{must_front, can_front}
use Rattle.sy_rules.specs.internal.Flow.{may_of, must_of}
use Rattle.sy_rules.specs.lists.Body.{Walk, ◌then◌, is_in}
use Rattle.sy_rules.proofs.lemmas.lists.Admitted.{Able, Sure, Reported, able_both, able_by, able_first, able_second, always, both_may, both_must, in_may, in_must, sure_by, sure_first, sure_second, reported_by, reported_same}
use Rattle.sy_rules.proofs.lemmas.lists.WorkLaws.{Within, behind_behind}

-- ---- one walk after another

then_on : (a b : Walk) → (a then b).goes_on ≡ (a.goes_on && b.goes_on)
then_on a b = on a.executed a.goes_on b
  where
    on : (xs : List ℕ) (g : Bool) (b : Walk) → ((record { executed = xs; goes_on = g }) then b).goes_on ≡ (g && b.goes_on)
    on xs true b = refl
    on xs false b = refl

or-nothing : (a : Bool) → a ≡ (a || false)
or-nothing true = refl
or-nothing false = refl

then_in : (j : ℕ) (a b : Walk) → is_in j (a then b).executed ≡ (is_in j a.executed || (a.goes_on && is_in j b.executed))
then_in j a b = into a.executed a.goes_on b
  where
    into : (xs : List ℕ) (g : Bool) (b : Walk) → is_in j ((record { executed = xs; goes_on = g }) then b).executed ≡ (is_in j xs || (g && is_in j b.executed))
    into xs true b = list_any-append (λ n. n == j) xs b.executed
    into xs false b = or-nothing (is_in j xs)

out_of : (n m j : ℕ) (w : Walk) → Within n m w → ((n ≤ j) × (j < m) → ⊥) → is_in j w.executed ≡ false
out_of n m j w inside out = by (is_in j w.executed) (inside j)
  where
    by : (b : Bool) → (b ≡ true → (n ≤ j) × (j < m)) → b ≡ false
    by true h = absurd (out (h refl))
    by false h = refl

-- What two walks by verdicts tell of the walks under all admitted valuations: whether they may and must go on, and which occurrences they may
-- and must execute.
pub record Known (k : Test → Option Bool) (ts : List Test) (walks : Valuation → Walk) (may must : Walk) : Type 0 where
  pub may_on : Reported k ts (λ v. (walks v).goes_on) true may.goes_on
  pub must_on : Reported k ts (λ v. (walks v).goes_on) false must.goes_on
  pub mays : (j : ℕ) → Reported k ts (λ v. is_in j (walks v).executed) true (is_in j may.executed)
  pub musts : (j : ℕ) → Reported k ts (λ v. is_in j (walks v).executed) false (is_in j must.executed)

module _ (k : Test → Option Bool) where
  pub known_same : (ts : List Test) (w : Walk) → Known k ts (λ v. w) w w
  known_same ts w = record {
    may_on = reported_same k ts true w.goes_on;
    must_on = reported_same k ts false w.goes_on;
    mays = λ j. reported_same k ts true (is_in j w.executed);
    musts = λ j. reported_same k ts false (is_in j w.executed);
  }

  apart : (n m l j : ℕ) (A B : Valuation → Walk) → ((v : Valuation) → Within n m (A v)) → ((v : Valuation) → Within m l (B v))
      → ((v : Valuation) → is_in j (A v).executed ≡ false) ⊎ ((v : Valuation) → is_in j (B v).executed ≡ false)
  apart n m l j A B a b =
      elim (cases_lt j m) [
        | inl less ↦ inr (λ v. out_of m l j (B v) (b v) (λ h. let x = h.0 in omega arith))
        | inr more ↦ inl (λ v. out_of n m j (A v) (a v) (λ h. let x = h.1 in omega arith))
      ]

  pub known_then : (ts us : List Test) (n m l : ℕ) (A B : Valuation → Walk) (a a' b b' : Walk) → ((v : Valuation) → Within n m (A v)) → ((v : Valuation) → Within m l (B v))
      → Known k ts A a a' → Known k us B b b' → Known k (ts ++ us) (λ v. A v then B (behind ts v)) (a then b) (a' then b')
  known_then ts us n m l A B a a' b b' wa wb x y = record {
    may_on = reported_by k (ts ++ us) _ _ true _ _ (λ v. sym (then_on (A v) (B (behind ts v)))) (sym (then_on a b)) (both_may k ts us _ _ _ _ x.may_on y.may_on);
    must_on = reported_by k (ts ++ us) _ _ false _ _ (λ v. sym (then_on (A v) (B (behind ts v)))) (sym (then_on a' b')) (both_must k ts us _ _ _ _ x.must_on y.must_on);
    mays = λ j. reported_by k (ts ++ us) _ _ true _ _ (λ v. sym (then_in j (A v) (B (behind ts v)))) (sym (then_in j a b)) (in_may k ts us _ _ _ _ _ _ (x.mays j) x.may_on (y.mays j));
    musts = λ j. reported_by k (ts ++ us) _ _ false _ _ (λ v. sym (then_in j (A v) (B (behind ts v)))) (sym (then_in j a' b')) (in_must k ts us _ _ _ _ _ _ (apart n m l j A B wa wb) (x.musts j) x.must_on (y.musts j));
  }

  -- ---- a test and its two blocks

  module _ (xs ds os : List Test) (x : Valuation → Bool) (D O : Valuation → Walk) where
    abbrev taken : Valuation → Walk
    taken v = if x v then D (behind xs v) else O (behind (xs ++ ds) v)

    pick_yes : (q : Walk → Bool) (b : Bool) (v : Valuation) → (x v ≡ true) × (q (D (behind xs v)) ≡ b) → q (taken v) ≡ b
    pick_yes q b v h = ap (λ c. q (if c then D (behind xs v) else O (behind (xs ++ ds) v))) h.0 ∙ h.1

    pick_no : (q : Walk → Bool) (b : Bool) (v : Valuation) → (x v ≡ false) × (q (O (behind (xs ++ ds) v)) ≡ b) → q (taken v) ≡ b
    pick_no q b v h = ap (λ c. q (if c then D (behind xs v) else O (behind (xs ++ ds) v))) h.0 ∙ h.1

    pick_any : (q : Walk → Bool) (b : Bool) (v : Valuation) → q (D (behind xs v)) ≡ b → q (O (behind (xs ++ ds) v)) ≡ b → q (taken v) ≡ b
    pick_any q b v h g = by (x v)
      where
        by : (c : Bool) → q (if c then D (behind xs v) else O (behind (xs ++ ds) v)) ≡ b
        by true = h
        by false = g

    further : (P : Valuation → Type 0) (v : Valuation) → P (behind ds (behind xs v)) → P (behind (xs ++ ds) v)
    further P v p = subst P (behind_behind xs ds v) p

    able_yes : (q : Walk → Bool) (b : Bool) → Able k xs (λ v. x v ≡ true) → Able k ds (λ v. q (D v) ≡ b) → Able k (xs ++ (ds ++ os)) (λ v. q (taken v) ≡ b)
    able_yes q b h a =
        able_by k (xs ++ (ds ++ os)) (λ v. (x v ≡ true) × (q (D (behind xs v)) ≡ b)) (λ v. q (taken v) ≡ b) (pick_yes q b)
        (able_both k xs (ds ++ os) (λ v. x v ≡ true) (λ v. q (D v) ≡ b) h (able_first k ds os (λ v. q (D v) ≡ b) a))

    able_no : (q : Walk → Bool) (b : Bool) → Able k xs (λ v. x v ≡ false) → Able k os (λ v. q (O v) ≡ b) → Able k (xs ++ (ds ++ os)) (λ v. q (taken v) ≡ b)
    able_no q b h a =
        able_by k (xs ++ (ds ++ os)) (λ v. (x v ≡ false) × (q (O (behind ds (behind xs v))) ≡ b)) (λ v. q (taken v) ≡ b)
        (λ v p. pick_no q b v (p.0, further (λ w. q (O w) ≡ b) v p.1))
        (able_both k xs (ds ++ os) (λ v. x v ≡ false) (λ v. q (O (behind ds v)) ≡ b) h (able_second k ds os (λ v. q (O v) ≡ b) a))

    sure_done : (P : Valuation → Type 0) → Sure k ds P → Sure k (xs ++ (ds ++ os)) (λ v. P (behind xs v))
    sure_done P a = sure_second k xs (ds ++ os) P (sure_first k ds os P a)

    sure_otherwise : (P : Valuation → Type 0) → Sure k os P → Sure k (xs ++ (ds ++ os)) (λ v. P (behind (xs ++ ds) v))
    sure_otherwise P a = sure_by k (xs ++ (ds ++ os)) (λ v. P (behind ds (behind xs v))) (λ v. P (behind (xs ++ ds) v)) (further P)
        (sure_second k xs (ds ++ os) (λ v. P (behind ds v)) (sure_second k ds os P a))

    sure_yes : (q : Walk → Bool) (b : Bool) → Sure k xs (λ v. x v ≡ true) → Sure k ds (λ v. q (D v) ≡ b) → Sure k (xs ++ (ds ++ os)) (λ v. q (taken v) ≡ b)
    sure_yes q b h a us v admitted = pick_yes q b v (sure_first k xs (ds ++ os) (λ v. x v ≡ true) h us v admitted, sure_done (λ v. q (D v) ≡ b) a us v admitted)

    sure_no : (q : Walk → Bool) (b : Bool) → Sure k xs (λ v. x v ≡ false) → Sure k os (λ v. q (O v) ≡ b) → Sure k (xs ++ (ds ++ os)) (λ v. q (taken v) ≡ b)
    sure_no q b h a us v admitted = pick_no q b v (sure_first k xs (ds ++ os) (λ v. x v ≡ false) h us v admitted, sure_otherwise (λ v. q (O v) ≡ b) a us v admitted)

    sure_any : (q : Walk → Bool) (b : Bool) → Sure k ds (λ v. q (D v) ≡ b) → Sure k os (λ v. q (O v) ≡ b) → Sure k (xs ++ (ds ++ os)) (λ v. q (taken v) ≡ b)
    sure_any q b a c us v admitted = pick_any q b v (sure_done (λ v. q (D v) ≡ b) a us v admitted) (sure_otherwise (λ v. q (O v) ≡ b) c us v admitted)

    reported_yes : (q : Walk → Bool) (b p : Bool) → Able k xs (λ v. x v ≡ true) → Sure k xs (λ v. x v ≡ true) → Reported k ds (λ v. q (D v)) b p → Reported k (xs ++ (ds ++ os)) (λ v. q (taken v)) b p
    reported_yes q b p able sure t = (λ h. able_yes q b able (t.0 h), λ h. sure_yes q (not b) sure (t.1 h))

    reported_no : (q : Walk → Bool) (b p : Bool) → Able k xs (λ v. x v ≡ false) → Sure k xs (λ v. x v ≡ false) → Reported k os (λ v. q (O v)) b p → Reported k (xs ++ (ds ++ os)) (λ v. q (taken v)) b p
    reported_no q b p able sure t = (λ h. able_no q b able (t.0 h), λ h. sure_no q (not b) sure (t.1 h))

    known_yes : (a a' : Walk) → Able k xs (λ v. x v ≡ true) → Sure k xs (λ v. x v ≡ true) → Known k ds D a a' → Known k (xs ++ (ds ++ os)) taken a a'
    known_yes a a' able sure known = record {
      may_on = reported_yes (λ w. w.goes_on) true a.goes_on able sure known.may_on;
      must_on = reported_yes (λ w. w.goes_on) false a'.goes_on able sure known.must_on;
      mays = λ j. reported_yes (λ w. is_in j w.executed) true (is_in j a.executed) able sure (known.mays j);
      musts = λ j. reported_yes (λ w. is_in j w.executed) false (is_in j a'.executed) able sure (known.musts j);
    }

    known_no : (b b' : Walk) → Able k xs (λ v. x v ≡ false) → Sure k xs (λ v. x v ≡ false) → Known k os O b b' → Known k (xs ++ (ds ++ os)) taken b b'
    known_no b b' able sure known = record {
      may_on = reported_no (λ w. w.goes_on) true b.goes_on able sure known.may_on;
      must_on = reported_no (λ w. w.goes_on) false b'.goes_on able sure known.must_on;
      mays = λ j. reported_no (λ w. is_in j w.executed) true (is_in j b.executed) able sure (known.mays j);
      musts = λ j. reported_no (λ w. is_in j w.executed) false (is_in j b'.executed) able sure (known.musts j);
    }

    -- where both blocks can be taken
    module _ (yes : Able k xs (λ v. x v ≡ true)) (no : Able k xs (λ v. x v ≡ false)) where
      any_may : (q : Walk → Bool) (f g : Bool) → Reported k ds (λ v. q (D v)) true f → Reported k os (λ v. q (O v)) true g → Reported k (xs ++ (ds ++ os)) (λ v. q (taken v)) true (f || g)
      any_may q true g F G = (λ h. able_yes q true yes (F.0 refl), λ h. absurd (true≢false h))
      any_may q false g F G = (λ h. able_no q true no (G.0 h), λ h. sure_any q false (F.1 refl) (G.1 h))

      any_must : (q : Walk → Bool) (f g : Bool) → Reported k ds (λ v. q (D v)) false f → Reported k os (λ v. q (O v)) false g → Reported k (xs ++ (ds ++ os)) (λ v. q (taken v)) false (f && g)
      any_must q true g F G = (λ h. able_no q false no (G.0 h), λ h. sure_any q true (F.1 refl) (G.1 h))
      any_must q false g F G = (λ h. able_yes q false yes (F.0 refl), λ h. absurd (true≢false (sym h)))

      none_must : (q : Walk → Bool) → ((v : Valuation) → q (D v) ≡ false) ⊎ ((v : Valuation) → q (O v) ≡ false) → Reported k (xs ++ (ds ++ os)) (λ v. q (taken v)) false false
      none_must q (inl none) = (λ h. able_yes q false yes (always k ds (λ v. q (D v) ≡ false) none), λ h. absurd (true≢false (sym h)))
      none_must q (inr none) = (λ h. able_no q false no (always k os (λ v. q (O v) ≡ false) none), λ h. absurd (true≢false (sym h)))

      known_any : (n m l : ℕ) (a a' b b' : Walk) → ((v : Valuation) → Within n m (D v)) → ((v : Valuation) → Within m l (O v)) → Known k ds D a a' → Known k os O b b'
          → Known k (xs ++ (ds ++ os)) taken (may_of Either a b) (must_of Either a' b')
      known_any n m l a a' b b' wd wo d o = record {
        may_on = any_may (λ w. w.goes_on) a.goes_on b.goes_on d.may_on o.may_on;
        must_on = any_must (λ w. w.goes_on) a'.goes_on b'.goes_on d.must_on o.must_on;
        mays = λ j. reported_by k (xs ++ (ds ++ os)) (λ v. is_in j (taken v).executed) (λ v. is_in j (taken v).executed) true _ _ (λ v. refl) (sym (list_any-append (λ n. n == j) a.executed b.executed))
            (any_may (λ w. is_in j w.executed) (is_in j a.executed) (is_in j b.executed) (d.mays j) (o.mays j));
        musts = λ j. none_must (λ w. is_in j w.executed) (apart n m l j D O wd wo);
      }

  sure_truth : (x : Formula Test) (b : Bool) → truth.Must k x b → Sure k (truth.occurrences x) (λ v. truth.truth x v ≡ b)
  sure_truth x b must us v h = must_front k x b us v must h

  able_truth : (x : Formula Test) (b : Bool) → truth.Can k x b → Able k (truth.occurrences x) (λ v. truth.truth x v ≡ b)
  able_truth x b can = record { values = can.values; admitted = can.admitted; is = can_front k x b can }

  able_sure : (x : Formula Test) (b : Bool) → truth.Must k x b → truth.Can k x b
  able_sure x b must = let some = some_valuation k (truth.occurrences x) in record { values = some.0; admitted = some.1; is = must some.0 some.1 }

  pub known_choice : (x : Formula Test) (r : Verdict) (ds os : List Test) (n m l : ℕ) (D O : Valuation → Walk) (a a' b b' : Walk) → IsVerdict k x r
      → ((v : Valuation) → Within n m (D v)) → ((v : Valuation) → Within m l (O v)) → Known k ds D a a' → Known k os O b b'
      → Known k (truth.occurrences x ++ (ds ++ os)) (λ v. if truth.truth x v then D (behind (truth.occurrences x) v) else O (behind (truth.occurrences x ++ ds) v)) (may_of r a b) (must_of r a' b')
  known_choice x Yes ds os n m l D O a a' b b' is wd wo d o =
      known_yes (truth.occurrences x) ds os (truth.truth x) D O a a' (able_truth x true (able_sure x true is)) (sure_truth x true is) d
  known_choice x No ds os n m l D O a a' b b' is wd wo d o =
      known_no (truth.occurrences x) ds os (truth.truth x) D O b b' (able_truth x false (able_sure x false is)) (sure_truth x false is) o
  known_choice x Either ds os n m l D O a a' b b' is wd wo d o =
      known_any (truth.occurrences x) ds os (truth.truth x) D O (able_truth x true is.0) (able_truth x false is.1) n m l a a' b b' wd wo d o

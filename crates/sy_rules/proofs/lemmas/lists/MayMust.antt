-- The two walks by verdicts over a text find exactly what a class may and must execute of it.
use Rattle.std.proofs.Common.{◌≡◌, ◌+◌, ℕ, Bool, true, false, if◌then◌else◌, List, [], ◌++◌, Option, refl, sym, ap, subst, ◌∙◌, arith, append_assoc, append-nil}
use Rattle.std.specs.Prelude.{◌↔◌}
use Rattle.std.proofs.lemmas.Bool.{true≢false}
use Rattle.sy_wire.specs.declared.class.Class.{Class}
use Rattle.sy_select.specs.declared.condition.Test.{Test}
use Rattle.sy_select.specs.declared.verdict.Verdict.{Verdict}
use Rattle.sy_select.specs.Properties.{known}
use Rattle.sy_select.specs.Truth as truth
use Rattle.sy_select.specs.Truth.{Formula, Valuation, Admits, behind, IsVerdict}
use Rattle.sy_rules.specs.internal.Flow.{may_of, must_of, may_flow, must_flow}
use Rattle.sy_rules.specs.lists.Body.{Body, count, nothing, one, stopped, tests, walk, executed, is_in}
use Rattle.sy_rules.specs.lists.Work.{May, Must}
use Rattle.sy_rules.proofs.lemmas.lists.Admitted.{Able}
use Rattle.sy_rules.proofs.lemmas.lists.KnownWalks.{Known, known_choice, known_same, known_then}
use Rattle.sy_rules.proofs.lemmas.lists.WorkLaws.{Within, within, within_choice, within_more, within_one}

module _ (k : Test → Option Bool) (judge : Formula Test → Verdict) (right : (x : Formula Test) → IsVerdict k x (judge x)) where
  flows : (s : Body) (n : ℕ) → Known k (tests s) (walk s n) (may_flow judge s n) (must_flow judge s n)
  flows Body.End n = known_same k [] nothing
  flows (Body.Run a rest) n =
      known_then k [] (tests rest) n (n + 1) (n + 1 + count rest) (λ v. one n) (walk rest (n + 1)) (one n) (one n) (may_flow judge rest (n + 1)) (must_flow judge rest (n + 1))
      (λ v. within_one n) (within rest (n + 1)) (known_same k [] (one n)) (flows rest (n + 1))
  flows (Body.Post l rest) n =
      known_then k [] (tests rest) n (n + 1) (n + 1 + count rest) (λ v. one n) (walk rest (n + 1)) (one n) (one n) (may_flow judge rest (n + 1)) (must_flow judge rest (n + 1))
      (λ v. within_one n) (within rest (n + 1)) (known_same k [] (one n)) (flows rest (n + 1))
  flows (Body.Stop rest) n = known_same k (tests rest) stopped
  flows (Body.If x done otherwise rest) n =
      let xs = truth.occurrences x in
      let ds = tests done in
      let os = tests otherwise in
      let m = n + count done in
      let l = m + count otherwise in
      let D = walk done n in
      let O = walk otherwise m in
      let block = λ (v : Valuation). if truth.truth x v then D (behind xs v) else O (behind (xs ++ ds) v) in
      let inside : (v : Valuation) → Within n l (block v) =
      λ v. within_choice n l (truth.truth x v) (D (behind xs v)) (O (behind (xs ++ ds) v))
      (within_more n n m l (D (behind xs v)) (within done n (behind xs v)) (omega arith) (omega arith))
      (within_more n m l l (O (behind (xs ++ ds) v)) (within otherwise m (behind (xs ++ ds) v)) (omega arith) (omega arith)) in
      let two = known_choice k x (judge x) ds os n m l D O (may_flow judge done n) (must_flow judge done n) (may_flow judge otherwise m) (must_flow judge otherwise m) (right x)
      (within done n) (within otherwise m) (flows done n) (flows otherwise m) in
      let all = known_then k (xs ++ (ds ++ os)) (tests rest) n l (l + count rest) block (walk rest l) (may_of (judge x) (may_flow judge done n) (may_flow judge otherwise m)) (must_of (judge x) (must_flow judge done n) (must_flow judge otherwise m))
      (may_flow judge rest l) (must_flow judge rest l) inside (within rest l) two (flows rest l) in
      let same : (xs ++ (ds ++ os)) ++ tests rest ≡ xs ++ (ds ++ (os ++ tests rest)) = append_assoc xs (ds ++ os) (tests rest) ∙ ap (λ r. xs ++ r) (append_assoc ds os (tests rest)) in
      subst (λ ts. Known k ts (walk (Body.If x done otherwise rest) n) (may_flow judge (Body.If x done otherwise rest) n) (must_flow judge (Body.If x done otherwise rest) n)) same all

-- ---- what a class may and must execute

whole : (k : Test → Option Bool) (ts : List Test) (v : Valuation) → Admits k ts v → Admits k (ts ++ []) v
whole k ts v h = subst (λ us. Admits k us v) (sym (append-nil ts)) h

flag_of : (A : Type 0) (b : Bool) → (b ≡ false → A → ⊥) → A → b ≡ true
flag_of A true f a = refl
flag_of A false f a = absurd (f refl a)

module _ (class : Class) (judge : Formula Test → Verdict) (right : (x : Formula Test) → IsVerdict (known class) x (judge x)) (s : Body) (j : ℕ) where
  abbrev k : Test → Option Bool
  k = known class

  facts : Known k (tests s) (walk s 0) (may_flow judge s 0) (must_flow judge s 0)
  facts = flows k judge right s 0

  able_may : Able k (tests s) (λ v. is_in j (walk s 0 v).executed ≡ true) → May s class j
  able_may a = record { values = a.values; admitted = a.admitted; executes = ap (λ v. is_in j (executed s v)) (sym (append-nil a.values)) ∙ a.is [] }

  pub may_is : (is_in j (may_flow judge s 0).executed ≡ true) ↔ May s class j
  may_is = (
    λ h. able_may ((facts.mays j).0 h),
    flag_of (May s class j) (is_in j (may_flow judge s 0).executed) (λ h may. true≢false (sym may.executes ∙ (facts.mays j).1 h [] may.values (whole k (tests s) may.values may.admitted))),
  )

  pub must_is : (is_in j (must_flow judge s 0).executed ≡ true) ↔ Must s class j
  must_is = (
    λ h v a. (facts.musts j).1 h [] v (whole k (tests s) v a),
    flag_of (Must s class j) (is_in j (must_flow judge s 0).executed)
        (λ h must. let a = (facts.musts j).0 h in true≢false (sym (must a.values a.admitted) ∙ ap (λ v. is_in j (executed s v)) (sym (append-nil a.values)) ∙ a.is [])),
  )

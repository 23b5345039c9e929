-- What some, and what all admitted valuations of a list of tests have, of lists one after another.
use Rattle.std.proofs.Common.{◌≡◌, ◌⊎◌, Bool, true, false, ◌||◌, ◌&&◌, not, List, ◌++◌, Option, refl, sym, ap, subst, ◌∙◌, inl, inr, append_assoc}
use Rattle.std.proofs.Math.Bool.{or-true, and-false}
use Rattle.std.proofs.lemmas.Bool.{true≢false}
use Rattle.sy_select.specs.declared.condition.Test.{Test}
use Rattle.sy_select.specs.Truth.{Valuation, Admits, behind}
use Rattle.sy_select.proofs.ExprLaws.{some_valuation}
use Rattle.sy_select.proofs.Valuations.{admits_append, admits_behind, behind_append}

-- a fact that all admitted valuations of these tests have, whatever follows them
abbrev pub Sure : (Test → Option Bool) → List Test → (Valuation → Type 0) → Type 0
Sure k ts P = (us : List Test) (v : Valuation) → Admits k (ts ++ us) v → P v

-- some admitted valuation of these tests has it, whatever follows
pub record Able (k : Test → Option Bool) (ts : List Test) (P : Valuation → Type 0) : Type 0 where
  pub values : Valuation
  pub admitted : Admits k ts values
  pub is : (w : Valuation) → P (values ++ w)

-- What a flag tells of a truth value under the admitted valuations: with b = true whether it may be true, with b = false whether it must be.
abbrev pub Reported : (Test → Option Bool) → List Test → (Valuation → Bool) → Bool → Bool → Type 0
Reported k ts f b flag = (flag ≡ b → Able k ts (λ v. f v ≡ b)) × (flag ≡ not b → Sure k ts (λ v. f v ≡ not b))

module _ (k : Test → Option Bool) where
  pub able_by : (ts : List Test) (P Q : Valuation → Type 0) → ((v : Valuation) → P v → Q v) → Able k ts P → Able k ts Q
  able_by ts P Q f a = record { values = a.values; admitted = a.admitted; is = λ w. f (a.values ++ w) (a.is w) }

  pub sure_by : (ts : List Test) (P Q : Valuation → Type 0) → ((v : Valuation) → P v → Q v) → Sure k ts P → Sure k ts Q
  sure_by ts P Q f a us v h = f v (a us v h)

  pub always : (ts : List Test) (P : Valuation → Type 0) → ((v : Valuation) → P v) → Able k ts P
  always ts P f = let some = some_valuation k ts in record { values = some.0; admitted = some.1; is = λ w. f (some.0 ++ w) }

  pub able_both : (ts us : List Test) (P Q : Valuation → Type 0) → Able k ts P → Able k us Q → Able k (ts ++ us) (λ v. P v × Q (behind ts v))
  able_both ts us P Q a b = record {
    values = a.values ++ b.values;
    admitted = admits_append k ts us a.values b.values a.admitted b.admitted;
    is = λ w.
        let split : a.values ++ (b.values ++ w) ≡ (a.values ++ b.values) ++ w = sym (append_assoc a.values b.values w) in
        let after : b.values ++ w ≡ behind ts ((a.values ++ b.values) ++ w) = sym (behind_append k ts a.values (b.values ++ w) a.admitted) ∙ ap (behind ts) split in
        (subst P split (a.is (b.values ++ w)), subst Q after (b.is w));
  }

  cut : (ts us rs : List Test) (v : Valuation) → Admits k ((ts ++ us) ++ rs) v → Admits k (ts ++ (us ++ rs)) v
  cut ts us rs v h = subst (λ xs. Admits k xs v) (append_assoc ts us rs) h

  pub sure_first : (ts us : List Test) (P : Valuation → Type 0) → Sure k ts P → Sure k (ts ++ us) P
  sure_first ts us P a rs v h = a (us ++ rs) v (cut ts us rs v h)

  pub sure_second : (ts us : List Test) (Q : Valuation → Type 0) → Sure k us Q → Sure k (ts ++ us) (λ v. Q (behind ts v))
  sure_second ts us Q b rs v h = b rs (behind ts v) (admits_behind k ts (us ++ rs) v (cut ts us rs v h))

  pub able_first : (ts us : List Test) (P : Valuation → Type 0) → Able k ts P → Able k (ts ++ us) P
  able_first ts us P a = able_by (ts ++ us) _ P (λ v p. p.0) (able_both ts us P (λ v. Unit {0}) a (always us (λ v. Unit {0}) (λ v. tt)))

  pub able_second : (ts us : List Test) (Q : Valuation → Type 0) → Able k us Q → Able k (ts ++ us) (λ v. Q (behind ts v))
  able_second ts us Q b = able_by (ts ++ us) _ (λ v. Q (behind ts v)) (λ v p. p.1) (able_both ts us (λ v. Unit {0}) Q (always ts (λ v. Unit {0}) (λ v. tt)) b)

  -- ---- what flags tell

  pub reported_same : (ts : List Test) (b c : Bool) → Reported k ts (λ v. c) b c
  reported_same ts b c = (λ h. always ts (λ v. c ≡ b) (λ v. h), λ h us v a. h)

  pub reported_by : (ts : List Test) (f g : Valuation → Bool) (b p q : Bool) → ((v : Valuation) → f v ≡ g v) → p ≡ q → Reported k ts f b p → Reported k ts g b q
  reported_by ts f g b p q e same t = (
    λ h. able_by ts (λ v. f v ≡ b) (λ v. g v ≡ b) (λ v r. sym (e v) ∙ r) (t.0 (same ∙ h)),
    λ h. sure_by ts (λ v. f v ≡ not b) (λ v. g v ≡ not b) (λ v r. sym (e v) ∙ r) (t.1 (same ∙ h)),
  )

  -- ---- two parts, the second where the first goes on

  module _ (ts us : List Test) (f g : Valuation → Bool) where
    pub both_may : (p q : Bool) → Reported k ts f true p → Reported k us g true q → Reported k (ts ++ us) (λ v. f v && g (behind ts v)) true (p && q)
    both_may true q F G = (
      λ h. able_by (ts ++ us) _ _ (λ v e. ap (λ r. r && g (behind ts v)) e.0 ∙ e.1) (able_both ts us (λ v. f v ≡ true) (λ v. g v ≡ true) (F.0 refl) (G.0 h)),
      λ h. sure_by (ts ++ us) _ _ (λ v e. ap (λ r. f v && r) e ∙ and-false (f v)) (sure_second ts us (λ v. g v ≡ false) (G.1 h)),
    )
    both_may false q F G = (
      λ h. absurd (true≢false (sym h)),
      λ h. sure_by (ts ++ us) _ _ (λ v e. ap (λ r. r && g (behind ts v)) e) (sure_first ts us (λ v. f v ≡ false) (F.1 refl)),
    )

    pub both_must : (p q : Bool) → Reported k ts f false p → Reported k us g false q → Reported k (ts ++ us) (λ v. f v && g (behind ts v)) false (p && q)
    both_must true q F G = (
      λ h. able_by (ts ++ us) _ _ (λ v e. ap (λ r. f v && r) e ∙ and-false (f v)) (able_second ts us (λ v. g v ≡ false) (G.0 h)),
      λ h rs v a. ap (λ r. r && g (behind ts v)) (sure_first ts us (λ v. f v ≡ true) (F.1 refl) rs v a) ∙ sure_second ts us (λ v. g v ≡ true) (G.1 h) rs v a,
    )
    both_must false q F G = (
      λ h. able_by (ts ++ us) _ _ (λ v e. ap (λ r. r && g (behind ts v)) e) (able_first ts us (λ v. f v ≡ false) (F.0 refl)),
      λ h. absurd (true≢false (sym h)),
    )

  -- e or then c and d, where e and c are of the first part
  module _ (ts us : List Test) (e c d : Valuation → Bool) where
    pub in_may : (p q r : Bool) → Reported k ts e true p → Reported k ts c true q → Reported k us d true r → Reported k (ts ++ us) (λ v. e v || (c v && d (behind ts v))) true (p || (q && r))
    in_may true q r E C D = (
      λ h. able_by (ts ++ us) _ _ (λ v is. ap (λ b. b || (c v && d (behind ts v))) is) (able_first ts us (λ v. e v ≡ true) (E.0 refl)),
      λ h. absurd (true≢false h),
    )
    in_may false q r E C D =
        let later = both_may ts us c d q r C D in (
          λ h. able_by (ts ++ us) _ _ (λ v is. ap (λ b. e v || b) is ∙ or-true (e v)) (later.0 h),
          λ h us2 v a. ap (λ b. b || (c v && d (behind ts v))) (sure_first ts us (λ v. e v ≡ false) (E.1 refl) us2 v a) ∙ later.1 h us2 v a,
        )

    -- where one of the two is never true
    pub in_must : (p q r : Bool) → ((v : Valuation) → e v ≡ false) ⊎ ((v : Valuation) → d v ≡ false)
        → Reported k ts e false p → Reported k ts c false q → Reported k us d false r → Reported k (ts ++ us) (λ v. e v || (c v && d (behind ts v))) false (p || (q && r))
    in_must true q r one E C D = (
      λ h. absurd (true≢false h),
      λ h us2 v a. ap (λ b. b || (c v && d (behind ts v))) (sure_first ts us (λ v. e v ≡ true) (E.1 refl) us2 v a),
    )
    in_must false q r (inl none) E C D =
        let later = both_must ts us c d q r C D in (
          λ h. able_by (ts ++ us) _ _ (λ v is. ap (λ b. b || (c v && d (behind ts v))) (none v) ∙ is) (later.0 h),
          λ h us2 v a. ap (λ b. e v || b) (later.1 h us2 v a) ∙ or-true (e v),
        )
    in_must false q r (inr none) E C D =
        let later = both_must ts us c d q r C D in (
          λ h. able_by (ts ++ us) _ _ (λ v is. ap (λ b. b || (c v && d (behind ts v))) is ∙ ap (λ b. c v && b) (none (behind ts v)) ∙ and-false (c v)) (able_first ts us (λ v. e v ≡ false) (E.0 refl)),
          λ h us2 v a. ap (λ b. e v || b) (later.1 h us2 v a) ∙ or-true (e v),
        )

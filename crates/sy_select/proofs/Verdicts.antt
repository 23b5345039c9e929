-- The walk by three values finds exactly what the admitted valuations give, and the walk by what each test says is the truth under that valuation.
use Rattle.std.proofs.Common.{◌≡◌, Bool, true, false, ◌||◌, ◌&&◌, not, List, [], ◌∷◌, ◌++◌, Option, Some, None, length, refl, sym, ap, subst, ◌∙◌, append_assoc, append-nil}
use Rattle.std.proofs.Math.Bool.{or-true, and-false}
use Rattle.std.proofs.lemmas.List.{map-append, length-map, drop_at}
use Rattle.sy_select.specs.declared.verdict.Verdict.{Verdict}
use Rattle.sy_select.specs.declared.verdict.Verdict.TheVariants.{Yes, No, Either}
use Rattle.sy_select.specs.Truth.{Formula, Valuation, first, behind, occurrences, truth, valuation, Agrees, Admits, Can, Must, IsVerdict, opposite}
use Rattle.sy_select.proofs.Valuations.{admits_append, admits_behind, behind_append}
use Rattle.sy_select.specs.internal.Walk.{holds, verdict, or_of, and_of, of_known}

module _ {T : Type 0} (k : T → Option Bool) where
  -- ---- what is known of an expression, whatever stands after it

  -- all admitted valuations give it this truth value
  abbrev Sure : Formula T → Bool → Type 0
  Sure x b = (ts : List T) (v : Valuation) → Admits k (occurrences x ++ ts) v → truth x v ≡ b

  -- some admitted valuation does
  record Able (x : Formula T) (b : Bool) : Type 0 where
    values : Valuation
    admitted : Admits k (occurrences x) values
    is : (w : Valuation) → truth x (values ++ w) ≡ b

  abbrev Walked : Formula T → Verdict → Type 0
  Walked x Yes = Sure x true × Able x true
  Walked x No = Sure x false × Able x false
  Walked x Either = Able x true × Able x false

  -- an expression of two parts, cut before what stands after it
  cut : (x y : Formula T) (ts : List T) (v : Valuation) → Admits k ((occurrences x ++ occurrences y) ++ ts) v → Admits k (occurrences x ++ (occurrences y ++ ts)) v
  cut x y ts v h = subst (λ us. Admits k us v) (append_assoc (occurrences x) (occurrences y) ts) h

  right : (x y : Formula T) (b : Bool) (ts : List T) (v : Valuation) → Sure y b → Admits k ((occurrences x ++ occurrences y) ++ ts) v → truth y (behind (occurrences x) v) ≡ b
  right x y b ts v sure h = sure ts (behind (occurrences x) v) (admits_behind k (occurrences x) (occurrences y ++ ts) v (cut x y ts v h))

  joined : (x y : Formula T) (p q : Bool) (f : Bool → Bool → Bool) (a : Able x p) (b : Able y q) (w : Valuation)
      → f (truth x ((a.values ++ b.values) ++ w)) (truth y (behind (occurrences x) ((a.values ++ b.values) ++ w))) ≡ f p q
  joined x y p q f a b w =
      let split : (a.values ++ b.values) ++ w ≡ a.values ++ (b.values ++ w) = append_assoc a.values b.values w in
      let front : truth x ((a.values ++ b.values) ++ w) ≡ p = ap (truth x) split ∙ a.is (b.values ++ w) in
      let back : truth y (behind (occurrences x) ((a.values ++ b.values) ++ w)) ≡ q =
      ap (λ v. truth y (behind (occurrences x) v)) split ∙ ap (truth y) (behind_append k (occurrences x) a.values (b.values ++ w) a.admitted) ∙ b.is w in
      ap (λ r. f r (truth y (behind (occurrences x) ((a.values ++ b.values) ++ w)))) front ∙ ap (f p) back

  able_or : (x y : Formula T) (p q : Bool) → Able x p → Able y q → Able (Formula.Or x y) (p || q)
  able_or x y p q a b = record {
    values = a.values ++ b.values;
    admitted = admits_append k (occurrences x) (occurrences y) a.values b.values a.admitted b.admitted;
    is = λ w. joined x y p q (λ r s. r || s) a b w;
  }

  able_and : (x y : Formula T) (p q : Bool) → Able x p → Able y q → Able (Formula.And x y) (p && q)
  able_and x y p q a b = record {
    values = a.values ++ b.values;
    admitted = admits_append k (occurrences x) (occurrences y) a.values b.values a.admitted b.admitted;
    is = λ w. joined x y p q (λ r s. r && s) a b w;
  }

  or_left : (x y : Formula T) → Sure x true → Sure (Formula.Or x y) true
  or_left x y a ts v h = ap (λ r. r || truth y (behind (occurrences x) v)) (a (occurrences y ++ ts) v (cut x y ts v h))

  or_right : (x y : Formula T) → Sure y true → Sure (Formula.Or x y) true
  or_right x y b ts v h = ap (λ r. truth x v || r) (right x y true ts v b h) ∙ or-true (truth x v)

  or_both : (x y : Formula T) → Sure x false → Sure y false → Sure (Formula.Or x y) false
  or_both x y a b ts v h = ap (λ r. r || truth y (behind (occurrences x) v)) (a (occurrences y ++ ts) v (cut x y ts v h)) ∙ right x y false ts v b h

  and_left : (x y : Formula T) → Sure x false → Sure (Formula.And x y) false
  and_left x y a ts v h = ap (λ r. r && truth y (behind (occurrences x) v)) (a (occurrences y ++ ts) v (cut x y ts v h))

  and_right : (x y : Formula T) → Sure y false → Sure (Formula.And x y) false
  and_right x y b ts v h = ap (λ r. truth x v && r) (right x y false ts v b h) ∙ and-false (truth x v)

  and_both : (x y : Formula T) → Sure x true → Sure y true → Sure (Formula.And x y) true
  and_both x y a b ts v h = ap (λ r. r && truth y (behind (occurrences x) v)) (a (occurrences y ++ ts) v (cut x y ts v h)) ∙ right x y true ts v b h

  walked_or : (x y : Formula T) (r s : Verdict) → Walked x r → Walked y s → Walked (Formula.Or x y) (or_of r s)
  walked_or x y Yes Yes a b = (or_left x y a.0, able_or x y true true a.1 b.1)
  walked_or x y Yes No a b = (or_left x y a.0, able_or x y true false a.1 b.1)
  walked_or x y Yes Either a b = (or_left x y a.0, able_or x y true true a.1 b.0)
  walked_or x y No Yes a b = (or_right x y b.0, able_or x y false true a.1 b.1)
  walked_or x y No No a b = (or_both x y a.0 b.0, able_or x y false false a.1 b.1)
  walked_or x y No Either a b = (able_or x y false true a.1 b.0, able_or x y false false a.1 b.1)
  walked_or x y Either Yes a b = (or_right x y b.0, able_or x y true true a.0 b.1)
  walked_or x y Either No a b = (able_or x y true false a.0 b.1, able_or x y false false a.1 b.1)
  walked_or x y Either Either a b = (able_or x y true true a.0 b.0, able_or x y false false a.1 b.1)

  walked_and : (x y : Formula T) (r s : Verdict) → Walked x r → Walked y s → Walked (Formula.And x y) (and_of r s)
  walked_and x y No No a b = (and_left x y a.0, able_and x y false false a.1 b.1)
  walked_and x y No Yes a b = (and_left x y a.0, able_and x y false true a.1 b.1)
  walked_and x y No Either a b = (and_left x y a.0, able_and x y false true a.1 b.0)
  walked_and x y Yes No a b = (and_right x y b.0, able_and x y true false a.1 b.1)
  walked_and x y Yes Yes a b = (and_both x y a.0 b.0, able_and x y true true a.1 b.1)
  walked_and x y Yes Either a b = (able_and x y true true a.1 b.0, able_and x y true false a.1 b.1)
  walked_and x y Either No a b = (and_right x y b.0, able_and x y true false a.0 b.1)
  walked_and x y Either Yes a b = (able_and x y true true a.0 b.1, able_and x y false true a.1 b.1)
  walked_and x y Either Either a b = (able_and x y true true a.0 b.0, able_and x y false false a.1 b.1)

  sure_not : (x : Formula T) (b : Bool) → Sure x b → Sure (Formula.Not x) (not b)
  sure_not x b a ts v h = ap not (a ts v h)

  able_not : (x : Formula T) (b : Bool) → Able x b → Able (Formula.Not x) (not b)
  able_not x b a = record { values = a.values; admitted = a.admitted; is = λ w. ap not (a.is w) }

  walked_not : (x : Formula T) (r : Verdict) → Walked x r → Walked (Formula.Not x) (opposite r)
  walked_not x Yes a = (sure_not x true a.0, able_not x true a.1)
  walked_not x No a = (sure_not x false a.0, able_not x false a.1)
  walked_not x Either a = (able_not x false a.1, able_not x true a.0)

  -- a test that is known, and a free one
  agreed : (t : T) (o : Option Bool) (b : Bool) → k t ≡ o → Agrees o b → Agrees (k t) b
  agreed t o b is h = subst (λ p. Agrees p b) (sym is) h

  known_value : (t : T) (b : Bool) (ts : List T) (v : Valuation) → k t ≡ Some b → Admits k (t ∷ ts) v → first v ≡ b
  known_value t b ts [] is h = absurd h
  known_value t b ts (c ∷ v) is h = subst (λ o. Agrees o c) is h.0

  able_test : (t : T) (b : Bool) → Agrees (k t) b → Able (Formula.Test t) b
  able_test t b h = record { values = b ∷ []; admitted = (h, tt); is = λ w. refl }

  walked_test : (t : T) (o : Option Bool) → k t ≡ o → Walked (Formula.Test t) (of_known o)
  walked_test t None is = (able_test t true (agreed t None true is tt), able_test t false (agreed t None false is tt))
  walked_test t (Some true) is = (λ ts v h. known_value t true ts v is h, able_test t true (agreed t (Some true) true is refl))
  walked_test t (Some false) is = (λ ts v h. known_value t false ts v is h, able_test t false (agreed t (Some false) false is refl))

  walked : (x : Formula T) → Walked x (verdict k x)
  walked (Formula.Test t) = walked_test t (k t) refl
  walked (Formula.Not x) = walked_not x (verdict k x) (walked x)
  walked (Formula.Or x y) = walked_or x y (verdict k x) (verdict k y) (walked x) (walked y)
  walked (Formula.And x y) = walked_and x y (verdict k x) (verdict k y) (walked x) (walked y)
  walked Formula.Never = (λ ts v h. refl, record { values = []; admitted = tt; is = λ w. refl })
  walked Formula.Always = (λ ts v h. refl, record { values = []; admitted = tt; is = λ w. refl })

  must : (x : Formula T) (b : Bool) → Sure x b → Must k x b
  must x b a v h = a [] v (subst (λ ts. Admits k ts v) (sym (append-nil (occurrences x))) h)

  can : (x : Formula T) (b : Bool) → Able x b → Can k x b
  can x b a = record { values = a.values; admitted = a.admitted; is = ap (truth x) (sym (append-nil a.values)) ∙ a.is [] }

  found : (x : Formula T) (r : Verdict) → Walked x r → IsVerdict k x r
  found x Yes a = must x true a.0
  found x No a = must x false a.0
  found x Either a = (can x true a.0, can x false a.1)

  pub verdict_is : (x : Formula T) → IsVerdict k x (verdict k x)
  verdict_is x = found x (verdict k x) (walked x)

-- ---- the truth under what each test says

module _ {T : Type 0} (s : T → Bool) where
  halves : (x y : Formula T) (w : Valuation) → valuation s (occurrences x ++ occurrences y) ++ w ≡ valuation s (occurrences x) ++ (valuation s (occurrences y) ++ w)
  halves x y w = ap (λ v. v ++ w) (map-append s (occurrences x) (occurrences y)) ∙ append_assoc (valuation s (occurrences x)) (valuation s (occurrences y)) w

  second : (x y : Formula T) (w : Valuation) → behind (occurrences x) (valuation s (occurrences x ++ occurrences y) ++ w) ≡ valuation s (occurrences y) ++ w
  second x y w = ap (behind (occurrences x)) (halves x y w) ∙ drop_at (valuation s (occurrences x)) (valuation s (occurrences y) ++ w) (length (occurrences x)) (length-map (occurrences x) s)

  pub truth_before : (x : Formula T) (w : Valuation) → holds s x ≡ truth x (valuation s (occurrences x) ++ w)
  truth_before (Formula.Test t) w = refl
  truth_before (Formula.Not x) w = ap not (truth_before x w)
  truth_before (Formula.Or x y) w =
      ap (λ r. r || holds s y) (truth_before x (valuation s (occurrences y) ++ w) ∙ ap (truth x) (sym (halves x y w)))
      ∙ ap (λ r. truth x (valuation s (occurrences x ++ occurrences y) ++ w) || r) (truth_before y w ∙ ap (truth y) (sym (second x y w)))
  truth_before (Formula.And x y) w =
      ap (λ r. r && holds s y) (truth_before x (valuation s (occurrences y) ++ w) ∙ ap (truth x) (sym (halves x y w)))
      ∙ ap (λ r. truth x (valuation s (occurrences x ++ occurrences y) ++ w) && r) (truth_before y w ∙ ap (truth y) (sym (second x y w)))
  truth_before Formula.Never w = refl
  truth_before Formula.Always w = refl

  pub truth_is : (x : Formula T) → holds s x ≡ truth x (valuation s (occurrences x))
  truth_is x = truth_before x [] ∙ ap (truth x) (append-nil (valuation s (occurrences x)))

-- The archives that are named for a class.
use Rattle.std.proofs.Common.{◌≡◌, ℕ, suc, Bool, true, false, not, ◌&&◌, ◌||◌, ◌==◌, List, [], ◌∷◌, refl, sym, ap, subst, ◌∙◌, arith, inl, inr, eqb-true, eq-eqb, get_or}
use Rattle.std.specs.Prelude.{Contains, if◌then◌else◌, ◌⊎◌, ◌≢◌}
use Rattle.std.specs.List.{list_any}
use Rattle.std.proofs.lemmas.Bool.{cases_Bool, false≢true}
use Rattle.std.proofs.lemmas.List.Elements.{Contains-get_or}
use Rattle.std.proofs.lemmas.List.Kept.{AllPairs-cons}
use Rattle.sy_rules.specs.Whole.{AreDifferent}
use Rattle.sy_wire.specs.declared.class.Class.{Class}
use Rattle.sy_site.specs.Sites.{Protection, SiteAction, archives_from, asks_for, same_action}

first_true : (a b : Bool) → (a && b) ≡ true → a ≡ true
first_true true b e = refl
first_true false b e = e

second_true : (a b : Bool) → (a && b) ≡ true → b ≡ true
second_true true b e = e
second_true false b e = absurd (false≢true e)

is_false : (b : Bool) → not b ≡ true → b ≡ false
is_false true e = absurd (false≢true e)
is_false false e = refl

both_true : (a b : Bool) → a ≡ true → b ≡ false → (a && not b) ≡ true
both_true true false e f = refl
both_true true true e f = absurd (false≢true (sym f))
both_true false b e f = absurd (false≢true e)

either : (a b : Bool) → (a || b) ≡ true → (a ≡ true) ⊎ (b ≡ true)
either true b e = inl refl
either false b e = inr e

neither : (a b : Bool) → (a || b) ≡ false → (a ≡ false) × (b ≡ false)
neither true b e = absurd (false≢true (sym e))
neither false b e = (refl, e)

-- ---- one action

same_is : (a b : SiteAction) → same_action a b ≡ true → a ≡ b
same_is a b e =
    let relay = eqb-true a.relay b.relay (first_true (a.relay == b.relay) (a.action == b.action) e) in
    let action = eqb-true a.action b.action (second_true (a.relay == b.relay) (a.action == b.action) e) in
    λ i. record { relay = relay i; action = action i }

same_self : (a : SiteAction) → same_action a a ≡ true
same_self a = rw (eq-eqb a.relay a.relay refl, eq-eqb a.action a.action refl) refl

-- ---- one more protect line

abbrev is_new : List SiteAction → Protection → Class → Bool
is_new before p class = asks_for p class && not (list_any (same_action p.archive) before)

abbrev rest : Bool → List SiteAction → Protection → List Protection → Class → List SiteAction
rest b before p ps class = if b then p.archive ∷ archives_from (p.archive ∷ before) ps class else archives_from before ps class

abbrev IsNamed : List Protection → Class → SiteAction → Type 0
IsNamed ps class a = (p : Protection) × Contains ps p × (asks_for p class ≡ true) × (p.archive ≡ a)

module _ (class : Class) where
  named_first : (before : List SiteAction) (p : Protection) (ps : List Protection) (a : SiteAction) (b : Bool) → is_new before p class ≡ b
      → (Contains (archives_from (p.archive ∷ before) ps class) a → IsNamed ps class a) → (Contains (archives_from before ps class) a → IsNamed ps class a)
      → Contains (rest b before p ps class) a → IsNamed (p ∷ ps) class a
  named_first before p ps a true new with_it without (ℕ.zero, l, is) =
      (p, (0, omega arith, refl), first_true (asks_for p class) (not (list_any (same_action p.archive) before)) new, is)
  named_first before p ps a true new with_it without (ℕ.suc k, l, is) =
      let h = with_it (k, omega (arith, l), is) in (h.0, (suc h.1.0, omega (arith, h.1.1), h.1.2), h.2, h.3)
  named_first before p ps a false new with_it without found =
      let h = without found in (h.0, (suc h.1.0, omega (arith, h.1.1), h.1.2), h.2, h.3)

  pub named : (before : List SiteAction) (ps : List Protection) (a : SiteAction) → Contains (archives_from before ps class) a → IsNamed ps class a
  named before [] a (k, l, is) = absurd (omega (arith, l))
  named before (p ∷ ps) a there = named_first before p ps a (is_new before p class) refl (named (p.archive ∷ before) ps a) (named before ps a) there

  abbrev IsHad : List SiteAction → List SiteAction → SiteAction → Type 0
  IsHad all before a = Contains all a ⊎ (list_any (same_action a) before ≡ true)

  had_first : (before : List SiteAction) (q : Protection) (ps : List Protection) (p : Protection) → asks_for p class ≡ true → (b : Bool)
      → is_new before q class ≡ b
      → (Contains ps p → IsHad (archives_from (q.archive ∷ before) ps class) (q.archive ∷ before) p.archive)
      → (Contains ps p → IsHad (archives_from before ps class) before p.archive)
      → Contains (q ∷ ps) p → IsHad (rest b before q ps class) before p.archive
  had_first before q ps p asks true new with_it without (ℕ.zero, l, is) = inl (0, omega arith, ap (λ x. x.archive) is)
  had_first before q ps p asks true new with_it without (ℕ.suc k, l, is) =
      elim (with_it (k, omega (arith, l), is)) [
        | inl found ↦ inl (suc found.0, omega (arith, found.1), found.2)
        | inr before_it ↦
            elim (either (same_action p.archive q.archive) (list_any (same_action p.archive) before) before_it) [
              | inl same ↦ inl (0, omega arith, sym (same_is p.archive q.archive same))
              | inr old ↦ inr old
            ]
      ]
  had_first before q ps p asks false old with_it without (ℕ.zero, l, is) =
      elim (cases_Bool (list_any (same_action p.archive) before)) [
        | inl had ↦ inr had
        | inr fresh ↦
            let is_so : is_new before p class ≡ true = both_true (asks_for p class) (list_any (same_action p.archive) before) asks fresh in
            absurd (false≢true (sym old ∙ subst (λ x. is_new before x class ≡ true) (sym is) is_so))
      ]
  had_first before q ps p asks false old with_it without (ℕ.suc k, l, is) = without (k, omega (arith, l), is)

  pub all_named : (before : List SiteAction) (ps : List Protection) (p : Protection) → Contains ps p → asks_for p class ≡ true
      → IsHad (archives_from before ps class) before p.archive
  all_named before [] p (k, l, is) asks = absurd (omega (arith, l))
  all_named before (q ∷ ps) p there asks =
      had_first before q ps p asks (is_new before q class) refl (λ t. all_named (q.archive ∷ before) ps p t asks) (λ t. all_named before ps p t asks) there

  fresh_first : (before : List SiteAction) (p : Protection) (ps : List Protection) (a : SiteAction) (b : Bool) → is_new before p class ≡ b
      → (Contains (archives_from (p.archive ∷ before) ps class) a → list_any (same_action a) (p.archive ∷ before) ≡ false)
      → (Contains (archives_from before ps class) a → list_any (same_action a) before ≡ false)
      → Contains (rest b before p ps class) a → list_any (same_action a) before ≡ false
  fresh_first before p ps a true new with_it without (ℕ.zero, l, is) =
      subst (λ x. list_any (same_action x) before ≡ false) is
      (is_false (list_any (same_action p.archive) before) (second_true (asks_for p class) (not (list_any (same_action p.archive) before)) new))
  fresh_first before p ps a true new with_it without (ℕ.suc k, l, is) =
      (neither (same_action a p.archive) (list_any (same_action a) before) (with_it (k, omega (arith, l), is))).1
  fresh_first before p ps a false old with_it without found = without found

  fresh : (before : List SiteAction) (ps : List Protection) (a : SiteAction) → Contains (archives_from before ps class) a
      → list_any (same_action a) before ≡ false
  fresh before [] a (k, l, is) = absurd (omega (arith, l))
  fresh before (p ∷ ps) a there = fresh_first before p ps a (is_new before p class) refl (fresh (p.archive ∷ before) ps a) (fresh before ps a) there

  differs : (before : List SiteAction) (ps : List Protection) (p : Protection) (a : SiteAction)
      → Contains (archives_from (p.archive ∷ before) ps class) a → p.archive ≡ a → ⊥
  differs before ps p a there same =
      let apart = (neither (same_action a p.archive) (list_any (same_action a) before) (fresh (p.archive ∷ before) ps a there)).0 in
      false≢true (sym apart ∙ subst (λ x. same_action a x ≡ true) (sym same) (same_self a))

  once_first : (before : List SiteAction) (p : Protection) (ps : List Protection) (b : Bool) → AreDifferent (archives_from (p.archive ∷ before) ps class)
      → AreDifferent (archives_from before ps class) → AreDifferent (rest b before p ps class)
  once_first before p ps true with_it without =
      AllPairs-cons (λ x y. x ≢ y) p.archive (archives_from (p.archive ∷ before) ps class)
      (λ k d l. differs before ps p (get_or (archives_from (p.archive ∷ before) ps class) k d) (Contains-get_or (archives_from (p.archive ∷ before) ps class) k d l))
      with_it
  once_first before p ps false with_it without = without

  pub each_once : (before : List SiteAction) (ps : List Protection) → AreDifferent (archives_from before ps class)
  each_once before [] = λ i j d low high. absurd (omega (arith, high))
  each_once before (p ∷ ps) = once_first before p ps (is_new before p class) (each_once (p.archive ∷ before) ps) (each_once before ps)

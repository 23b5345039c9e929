-- Spare actions' own lists.
use Rattle.std.proofs.Common.{◌≡◌, ℕ, Bool, true, false, List, [], ◌∷◌, Option, Some, None, refl, sym, subst, ap, ◌∙◌}
use Rattle.std.specs.Prelude.{slice_get}
use Rattle.sy_rules.specs.declared.lists.occurrence.Occurrence.{Occurrence}
use Rattle.sy_rules.specs.declared.lists.occurrence.Occurrence.TheVariants as occurrence
use Rattle.sy_rules.specs.PlanValue.{Plan}
use Rattle.sy_rules.specs.Whole.{body_at, owner_at}
use Rattle.sy_rules.proofs.lemmas.plan.OwnLists.{occurs_alone, owner_runs}
use Rattle.sy_board.specs.relay.Plans.{occurrence_at}
use Rattle.sy_board.specs.relay.Spares.{is_spare_occurrence, is_spare_own, is_spare_owner}

only_one : (x is : Occurrence) (k : ℕ) → slice_get (x ∷ []) k ≡ Some is → is ≡ x
only_one x is ℕ.zero e = cc
only_one x is (ℕ.suc k) e = absurd (cc)

module _ (plan : Plan) (spares : List ℕ) where
  -- such a list has nothing but its action
  pub own_is_spare : (list k : ℕ) (is : Occurrence) → is_spare_own plan spares list ≡ true → occurrence_at plan list k ≡ Some is
      → is_spare_occurrence plan spares is ≡ true
  own_is_spare list k is spare found = go (owner_at plan list) refl spare
    where
      go : (owner : Option ℕ) → owner_at plan list ≡ owner → is_spare_owner spares owner ≡ true → is_spare_occurrence plan spares is ≡ true
      go None e s = absurd (cc)
      go (Some action) e s =
          let alone = occurs_alone (body_at plan list) action (owner_runs plan list action e) in
          let same = only_one (occurrence.Run action) is k (sym (ap (λ os. slice_get os k) alone) ∙ found) in
          subst (λ o. is_spare_occurrence plan spares o ≡ true) (sym same) s

  -- so a list with an occurrence that isn't spare is none
  pub firm_list : (list k : ℕ) (is : Occurrence) → occurrence_at plan list k ≡ Some is → is_spare_occurrence plan spares is ≡ false
      → is_spare_own plan spares list ≡ false
  firm_list list k is found firm = go (is_spare_own plan spares list) refl
    where
      go : (b : Bool) → is_spare_own plan spares list ≡ b → is_spare_own plan spares list ≡ false
      go true e = (let s = own_is_spare list k is e found in absurd (cc))
      go false e = e

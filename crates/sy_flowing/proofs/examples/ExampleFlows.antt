-- The example's site flows.
use Rattle.std.proofs.Common.{◌≡◌, ℕ, ◌<◌, List, [], ◌∷◌, subst, arith, Some}
use Rattle.std.specs.Prelude.{slice_get}
use Rattle.sy_wire.specs.declared.class.Class.{Class}
use Rattle.sy_rules.specs.declared.lists.occurrence.Occurrence.{Occurrence}
use Rattle.sy_site.specs.Sites.{plan_at}
use Rattle.sy_board.specs.relay.Plans.{occurrences_at}
use Rattle.sy_site.specs.machine.Examples.{example_site}
use Rattle.sy_flowing.specs.Flowing.{HoldsPosts, IsFlowing, SiteList, SiteQueue, input_list, input_queue}
use Rattle.sy_flowing.specs.Heights.{AreFitNumbers, FallsBy, HeightRow, height_by}
use Rattle.sy_site.proofs.machine.ExampleWhole.{example_is_lawful}
use Rattle.sy_flowing.proofs.numbers.Heights.{fit_flows}
use Rattle.sy_site.proofs.machine.Spread.{some_same}

abbrev row : ℕ → ℕ → ℕ → HeightRow
row relay queue number = record { at = record { relay = relay; queue = queue }; number = number }

-- height edge 1 3, height edge 2 2, height hub 0 1, height hub 1 1, height mirror 0 0
abbrev pub example_rows : List HeightRow
example_rows = row 0 1 3 ∷ row 0 2 2 ∷ row 1 0 1 ∷ row 1 1 1 ∷ row 2 0 0 ∷ []

abbrev height : SiteQueue → ℕ
height = height_by example_rows

-- how many lists still follow, for every class
abbrev left : Class → SiteList → ℕ
left class list = count list.relay list.list
  where
    count : ℕ → ℕ → ℕ
    count ℕ.zero ℕ.zero = 0
    count ℕ.zero (ℕ.suc ℕ.zero) = 4
    count ℕ.zero (ℕ.suc (ℕ.suc l)) = 3
    count (ℕ.suc ℕ.zero) ℕ.zero = 2
    count (ℕ.suc ℕ.zero) (ℕ.suc l) = 1
    count (ℕ.suc (ℕ.suc r)) l = 0

-- posts into the queue of hub's spare action don't wait, so hub's main queue doesn't wait for it
never_holds : HoldsPosts (plan_at example_site 1) 1 → ⊥
never_holds holds = let e = holds.waits in absurd (cc)

module _ (class : Class) where
  -- what an occurrence of each list does
  falls_at : (relay list number : ℕ) (is : Occurrence) → slice_get (occurrences_at (plan_at example_site relay) list) number ≡ Some is
      → FallsBy example_site height (left class) relay list is
  falls_at ℕ.zero ℕ.zero number is e = absurd (cc)
  falls_at ℕ.zero (ℕ.suc ℕ.zero) ℕ.zero is e = subst (FallsBy example_site height (left class) 0 1) (some_same e) ((λ holds. omega arith), omega arith)
  falls_at ℕ.zero (ℕ.suc ℕ.zero) (ℕ.suc k) is e = absurd (cc)
  falls_at ℕ.zero (ℕ.suc (ℕ.suc ℕ.zero)) ℕ.zero is e =
      subst (FallsBy example_site height (left class) 0 2) (some_same e) (λ to leads.
      subst (λ z. (height (input_queue example_site z) < 2) × (left class (input_list example_site z) < 3)) (some_same leads) (omega arith, omega arith))
  falls_at ℕ.zero (ℕ.suc (ℕ.suc ℕ.zero)) (ℕ.suc k) is e = absurd (cc)
  falls_at ℕ.zero (ℕ.suc (ℕ.suc (ℕ.suc l))) number is e = absurd (cc)
  falls_at (ℕ.suc ℕ.zero) ℕ.zero ℕ.zero is e = subst (FallsBy example_site height (left class) 1 0) (some_same e) (λ to leads. absurd (cc))
  falls_at (ℕ.suc ℕ.zero) ℕ.zero (ℕ.suc ℕ.zero) is e =
      subst (FallsBy example_site height (left class) 1 0) (some_same e) ((λ holds. absurd (never_holds holds)), omega arith)
  falls_at (ℕ.suc ℕ.zero) ℕ.zero (ℕ.suc (ℕ.suc k)) is e = absurd (cc)
  falls_at (ℕ.suc ℕ.zero) (ℕ.suc ℕ.zero) ℕ.zero is e =
      subst (FallsBy example_site height (left class) 1 1) (some_same e) (λ to leads.
      subst (λ z. (height (input_queue example_site z) < 1) × (left class (input_list example_site z) < 1)) (some_same leads) (omega arith, omega arith))
  falls_at (ℕ.suc ℕ.zero) (ℕ.suc ℕ.zero) (ℕ.suc k) is e = absurd (cc)
  falls_at (ℕ.suc ℕ.zero) (ℕ.suc (ℕ.suc l)) number is e = absurd (cc)
  falls_at (ℕ.suc (ℕ.suc ℕ.zero)) ℕ.zero ℕ.zero is e = subst (FallsBy example_site height (left class) 2 0) (some_same e) (λ to leads. absurd (cc))
  falls_at (ℕ.suc (ℕ.suc ℕ.zero)) ℕ.zero (ℕ.suc k) is e = absurd (cc)
  falls_at (ℕ.suc (ℕ.suc ℕ.zero)) (ℕ.suc l) number is e = absurd (cc)
  falls_at (ℕ.suc (ℕ.suc (ℕ.suc r))) list number is e = absurd (cc)

pub example_is_fit : AreFitNumbers example_site height left
example_is_fit class relay list number is there list_there used does = falls_at class relay list number is does.found

pub example_flows : IsFlowing example_site
example_flows = fit_flows example_site example_is_lawful height left example_is_fit

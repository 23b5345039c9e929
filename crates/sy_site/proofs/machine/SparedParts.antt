-- Where a message is that comes to its archive by a spare action alone: what is flagged, and all that is as promised.
use Rattle.std.proofs.Common.{◌≡◌, ℕ, ◌==◌, Bool, true, false, [], ◌∷◌, refl, subst, ap, arith, Some, None, ◌∙◌}
use Rattle.std.specs.Prelude.{◌≢◌, ◌||◌}
use Rattle.std.specs.List.{Contains}
use Rattle.std.proofs.lemmas.Bool.{eqb-true}
use Rattle.sy_wire.specs.declared.class.Class.{Class}
use Rattle.sy_wire.specs.Messages.{Said}
use Rattle.sy_chain.specs.Entries.{Entry}
use Rattle.sy_rules.specs.declared.lists.occurrence.Occurrence.{Occurrence}
use Rattle.sy_rules.specs.declared.lists.occurrence.Occurrence.TheVariants as occurrence
use Rattle.sy_rules.specs.Whole.{AreDifferent}
use Rattle.sy_rules.proofs.lemmas.plan.Different.{one_differs}
use Rattle.sy_board.specs.relay.Cells.{Cell, at, hand}
use Rattle.sy_board.proofs.relay.Keeps.{Each}
use Rattle.sy_site.specs.Sites.{SiteAction, does_spare, plan_at}
use Rattle.sy_site.specs.machine.States.{Arrival, Copy, SiteState, is_flagged_at, is_flagged_on}
use Rattle.sy_site.specs.machine.Reach.{occurrence_at}
use Rattle.sy_site.specs.machine.Safety.{Heads, IsCopyOf, Left}
use Rattle.sy_site.specs.machine.Examples.{audit, edge_input, example_message, up}
use Rattle.sy_site.specs.machine.Counterexamples.{Holds, Part, spared_site}
use Rattle.sy_site.proofs.machine.EdgeRun as edge
use Rattle.sy_site.proofs.machine.ExampleWhole.{two_differ}
use Rattle.sy_site.proofs.machine.Parts.{none_there, of_nothing, of_one, of_one_entry}
use Rattle.sy_site.proofs.machine.SparedRun as spared
use Rattle.sy_site.proofs.machine.Spread.{action_elim, some_same}

-- ---- all that edge does is spare

pub only_spare : (number : ℕ) (is : Occurrence) → occurrence_at spared_site 0 1 number ≡ Some is → does_spare spared_site 0 is ≡ false → ⊥
only_spare ℕ.zero is found firm =
    let same : occurrence.Run 0 ≡ is = some_same found in
    let spare : true ≡ false = ap (does_spare spared_site 0) same ∙ firm in
    absurd (cc)
only_spare (ℕ.suc k) is found firm = absurd (cc)

-- ---- where a message isn't

module _ (state : SiteState) where
  -- an entry that is flagged, or heads nowhere
  abbrev pub Idle : ℕ → Cell → Entry → Type 0
  Idle relay cell e = (copy : IsCopyOf state.copies 0 e.tag) → is_flagged_at spared_site relay e.list copy.copy ≡ false
      → Heads spared_site audit e.message relay e.list (Left.StillDue e.due) → ⊥

  -- what is flagged on a link or in a file
  abbrev pub Spare : SiteAction → ℕ → Type 0
  Spare action tag = (copy : IsCopyOf state.copies 0 tag) → is_flagged_on spared_site action copy.copy ≡ false → ⊥

module _ (class : Class) where
  -- ---- before the spare action

  abbrev pub s1 : SiteState
  s1 = spared.s1 class

  -- where nothing heads anywhere from edge
  pub held_before : ((message : Said) (left : Left) → Heads spared_site audit message 0 1 left → ⊥) → (relay : ℕ) (cell : Cell)
      → Each (Idle s1 relay cell) (at (s1.relays relay) cell)
  held_before nowhere relay cell = go (0 == relay) refl
    where
      go : (b : Bool) → (0 == relay) ≡ b → Each (Idle s1 relay cell) (at (s1.relays relay) cell)
      go true e = subst (λ z. Each (Idle s1 z cell) (at (s1.relays z) cell)) (eqb-true 0 relay e)
          (of_one_entry (plan_at spared_site 0) (Idle s1 0) (hand 0 0) (edge.node class 0)
          (λ copy plain heads. nowhere (example_message class) (Left.StillDue 1) heads) cell)
      go false e = rw e (of_nothing (plan_at spared_site relay) (Idle s1 relay) cell)

  -- ---- on its link

  abbrev pub s4 : SiteState
  s4 = spared.s4 class

  -- the first copy is flagged there
  on_up : (copy : Copy) → spared.copy class (0 ∷ []) false ≡ copy → is_flagged_on spared_site up copy ≡ false → ⊥
  on_up copy same plain = let flagged : true ≡ false = ap (is_flagged_on spared_site up) same ∙ plain in absurd (cc)

  pub passed_on_the_link : (action : SiteAction) → Each (Spare s4 action) (s4.passed action)
  passed_on_the_link =
      (action_elim (λ action. Each (Spare s4 action)) (λ a. []) up (0 ∷ []) ((λ copy plain. on_up copy.copy (some_same copy.is) plain), tt) (λ action. tt))

  pub held_on_the_link : (relay : ℕ) (cell : Cell) → Each (Idle s4 relay cell) (at (s4.relays relay) cell)
  held_on_the_link relay cell = go (0 == relay) refl
    where
      go : (b : Bool) → (0 == relay) ≡ b → Each (Idle s4 relay cell) (at (s4.relays relay) cell)
      go true e = subst (λ z. Each (Idle s4 z cell) (at (s4.relays z) cell)) (eqb-true 0 relay e) (of_nothing (plan_at spared_site 0) (Idle s4 0) cell)
      go false e = rw e (of_nothing (plan_at spared_site relay) (Idle s4 relay) cell)

  -- ---- behind it: the second copy is flagged

  flagged : (copy : Copy) (also : Bool) → spared.copy class (0 ∷ 1 ∷ []) true ≡ copy → (copy.flag || also) ≡ false → ⊥
  flagged copy also same plain = let flag : true ≡ false = ap (λ (z : Copy). z.flag || also) same ∙ plain in absurd (cc)

  abbrev pub s5 : SiteState
  s5 = spared.s5 class

  pub passed_behind : (action : SiteAction) → Each (Spare s5 action) (s5.passed action)
  passed_behind =
      (action_elim (λ action. Each (Spare s5 action)) s4.passed up [] tt
      (action_elim (λ action. Each (Spare s5 action)) (λ a. []) up (0 ∷ []) ((λ copy plain. on_up copy.copy (some_same copy.is) plain), tt) (λ action. tt)))

  pub held_behind : (relay : ℕ) (cell : Cell) → Each (Idle s5 relay cell) (at (s5.relays relay) cell)
  held_behind relay cell = go (0 == relay) (1 == relay) refl refl
    where
      go : (a b : Bool) → (0 == relay) ≡ a → (1 == relay) ≡ b → Each (Idle s5 relay cell) (at (s5.relays relay) cell)
      go true b e f = subst (λ z. Each (Idle s5 z cell) (at (s5.relays z) cell)) (eqb-true 0 relay e) (of_nothing (plan_at spared_site 0) (Idle s5 0) cell)
      go false true e f = subst (λ z. Each (Idle s5 z cell) (at (s5.relays z) cell)) (eqb-true 1 relay f)
          (of_one_entry (plan_at spared_site 1) (Idle s5 1) (hand 0 0) (spared.node class)
          (λ copy plain heads. flagged copy.copy _ (some_same copy.is) plain) cell)
      go false false e f = rw (e, f) (of_nothing (plan_at spared_site relay) (Idle s5 relay) cell)

  -- ---- in the archive

  abbrev pub s8 : SiteState
  s8 = spared.s8 class

  pub passed_in_the_archive : (action : SiteAction) → Each (Spare s8 action) (s8.passed action)
  passed_in_the_archive =
      (action_elim (λ action. Each (Spare s8 action)) s5.passed audit (1 ∷ []) ((λ copy plain. flagged copy.copy _ (some_same copy.is) plain), tt)
      (action_elim (λ action. Each (Spare s8 action)) s4.passed up [] tt
      (action_elim (λ action. Each (Spare s8 action)) (λ a. []) up (0 ∷ []) ((λ copy plain. on_up copy.copy (some_same copy.is) plain), tt) (λ action. tt))))

  pub held_in_the_archive : (relay : ℕ) (cell : Cell) → Each (Idle s8 relay cell) (at (s8.relays relay) cell)
  held_in_the_archive relay cell = go (0 == relay) (1 == relay) refl refl
    where
      go : (a b : Bool) → (0 == relay) ≡ a → (1 == relay) ≡ b → Each (Idle s8 relay cell) (at (s8.relays relay) cell)
      go true b e f = subst (λ z. Each (Idle s8 z cell) (at (s8.relays z) cell)) (eqb-true 0 relay e) (of_nothing (plan_at spared_site 0) (Idle s8 0) cell)
      go false true e f = subst (λ z. Each (Idle s8 z cell) (at (s8.relays z) cell)) (eqb-true 1 relay f) (of_nothing (plan_at spared_site 1) (Idle s8 1) cell)
      go false false e f = rw (e, f) (of_nothing (plan_at spared_site relay) (Idle s8 relay) cell)

  -- ---- all else

  abbrev pub arrival : Arrival
  arrival = record { message = example_message class; origin = edge_input }

  pub two_trails : (tag : ℕ) (copy : IsCopyOf s5.copies 0 tag) → AreDifferent copy.copy.trail
  two_trails ℕ.zero copy = subst (λ (z : Copy). AreDifferent z.trail) (some_same copy.is) (one_differs 0)
  two_trails (ℕ.suc ℕ.zero) copy = subst (λ (z : Copy). AreDifferent z.trail) (some_same copy.is) (two_differ 0 1 (λ e. omega (arith, e)))
  two_trails (ℕ.suc (ℕ.suc k)) copy = (let none : None ≡ Some copy.copy = copy.is in absurd (cc))

  -- of a state with one arrival and no loss, in which no copy came to a relay twice
  pub others : (state : SiteState) → state.arrivals ≡ arrival ∷ [] → state.losses ≡ []
      → ((tag : ℕ) (copy : IsCopyOf state.copies 0 tag) → AreDifferent copy.copy.trail) → (other : Part) → other ≢ Part.Kept → Holds spared_site state other
  others state one none trails Part.Kept differs = absurd (differs refl)
  others state one none trails Part.NotLost differs = of_one spared_site state arrival one Part.NotLost
      (λ loss there c plain. none_there loss (subst (λ z. Contains z loss) none there))
  others state one none trails Part.HeldOnce differs = of_one spared_site state arrival one Part.HeldOnce
      (λ relay cell entry there c. trails entry.tag c)
  others state one none trails Part.PassedOnce differs = of_one spared_site state arrival one Part.PassedOnce (λ action tag there c. trails tag c)

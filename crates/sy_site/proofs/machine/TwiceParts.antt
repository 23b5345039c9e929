-- What holds of a message that came to a relay twice: all else that is promised of it.
use Rattle.std.proofs.Common.{◌≡◌, ℕ, ◌==◌, Bool, true, false, [], ◌∷◌, refl, sym, subst, arith, inl, inr, Some}
use Rattle.std.specs.Prelude.{◌≢◌, slice_get}
use Rattle.std.specs.List.{Contains}
use Rattle.std.proofs.lemmas.Bool.{eqb-true}
use Rattle.sy_wire.specs.declared.class.Class.{Class}
use Rattle.sy_rules.specs.Whole.{AreDifferent}
use Rattle.sy_rules.proofs.lemmas.plan.Different.{one_differs}
use Rattle.sy_board.specs.relay.Cells.{Cell, at, hand}
use Rattle.sy_board.proofs.relay.Keeps.{Each}
use Rattle.sy_board.proofs.relay.Marks.{empty_everywhere}
use Rattle.sy_site.specs.Sites.{SiteAction, plan_at}
use Rattle.sy_site.specs.machine.States.{Arrival, Copy}
use Rattle.sy_site.specs.machine.Safety.{Heads, IsCopyOf, IsWrittenOrHeads, Left, forwards, writes}
use Rattle.sy_site.specs.machine.Examples.{audit, edge_input, example_message, hub_input, hub_plan}
use Rattle.sy_site.specs.machine.Counterexamples.{Holds, Part, again, to_hub, twice_plan, twice_site}
use Rattle.sy_site.proofs.machine.DueSets.{lowest}
use Rattle.sy_site.proofs.machine.ExampleSound.{only_audit_is_named}
use Rattle.sy_site.proofs.machine.Naming.{each_in}
use Rattle.sy_site.proofs.machine.Parts.{none_there, of_one}
use Rattle.sy_site.proofs.machine.Spread.{action_elim, some_same}
use Rattle.sy_site.proofs.machine.TwiceRun as twice

module _ (class : Class) where
  abbrev arrival : Arrival
  arrival = record { message = example_message class; origin = edge_input }

  -- ---- held at edge the second time

  at_hub : Heads twice_site audit (example_message class) 1 0 Left.All
  at_hub = writes 0 (record { number = 0; member = refl; found = refl; firm = refl }) refl

  held_heads : IsWrittenOrHeads twice_site (twice.s5 class) audit 0
  held_heads = inr (inl (record {
    relay = 0;
    cell = hand 1 0;
    entry = twice.node class 1 1 1;
    there = (0, omega arith, refl);
    copy = record { copy = twice.copy class (0 ∷ 0 ∷ []); is = refl; numbered = refl };
    plain = refl;
    heads = forwards 1 hub_input (record { number = 0; member = lowest.member; found = refl; firm = refl }) refl at_hub;
  }))

  -- what is on a link is the first copy
  first_on_links : (action : SiteAction) → Each (λ tag. tag ≡ 0) ((twice.s5 class).passed action)
  first_on_links = action_elim (λ action. Each (λ tag. tag ≡ 0)) _ again [] tt
      (action_elim (λ action. Each (λ tag. tag ≡ 0)) (λ action. []) again (0 ∷ []) (refl, tt) (λ action. tt))

  first_once : (tag : ℕ) → tag ≡ 0 → (c : IsCopyOf (twice.s5 class).copies 0 tag) → AreDifferent c.copy.trail
  first_once tag is c =
      let at : slice_get (twice.s5 class).copies 0 ≡ Some c.copy = subst (λ z. slice_get (twice.s5 class).copies z ≡ Some c.copy) is c.is in
      subst (λ (y : Copy). AreDifferent y.trail) (some_same at) (one_differs 0)

  pub held_others : (other : Part) → other ≢ Part.HeldOnce → Holds twice_site (twice.s5 class) other
  held_others Part.Kept differs = of_one twice_site (twice.s5 class) arrival refl Part.Kept
      (λ archive named. subst (λ z. IsWrittenOrHeads twice_site (twice.s5 class) z 0) (sym (only_audit_is_named class archive named)) held_heads)
  held_others Part.NotLost differs = of_one twice_site (twice.s5 class) arrival refl Part.NotLost (λ loss there c plain. none_there loss there)
  held_others Part.HeldOnce differs = absurd (differs refl)
  held_others Part.PassedOnce differs = of_one twice_site (twice.s5 class) arrival refl Part.PassedOnce
      (λ action tag there c. first_once tag (each_in (λ t. t ≡ 0) ((twice.s5 class).passed action) (first_on_links action) tag there) c)

  -- ---- on the link to hub

  sent_heads : IsWrittenOrHeads twice_site (twice.s8 class) audit 0
  sent_heads = inr (inr (record {
    link = to_hub;
    to = hub_input;
    leads = refl;
    tag = 1;
    there = (0, omega arith, refl);
    copy = record { copy = twice.copy class (0 ∷ 0 ∷ []); is = refl; numbered = refl };
    plain = refl;
    heads = at_hub;
  }))

  sent_held : (relay : ℕ) (cell : Cell) → at ((twice.s8 class).relays relay) cell ≡ []
  sent_held relay cell = go (0 == relay) refl
    where
      go : (b : Bool) → (0 == relay) ≡ b → at ((twice.s8 class).relays relay) cell ≡ []
      go true e = subst (λ z. at ((twice.s8 class).relays z) cell ≡ []) (eqb-true 0 relay e) (empty_everywhere twice_plan cell)
      go false e = rw e (empty_everywhere (plan_at twice_site relay) cell)

  pub sent_others : (other : Part) → other ≢ Part.PassedOnce → Holds twice_site (twice.s8 class) other
  sent_others Part.Kept differs = of_one twice_site (twice.s8 class) arrival refl Part.Kept
      (λ archive named. subst (λ z. IsWrittenOrHeads twice_site (twice.s8 class) z 0) (sym (only_audit_is_named class archive named)) sent_heads)
  sent_others Part.NotLost differs = of_one twice_site (twice.s8 class) arrival refl Part.NotLost (λ loss there c plain. none_there loss there)
  sent_others Part.HeldOnce differs = of_one twice_site (twice.s8 class) arrival refl Part.HeldOnce
      (λ relay cell entry there c. absurd (none_there entry (subst (λ z. Contains z entry) (sent_held relay cell) there)))
  sent_others Part.PassedOnce differs = absurd (differs refl)

  -- ---- in the archive

  written : IsWrittenOrHeads twice_site (twice.s12 class) audit 0
  written = inl (record {
    tag = 2;
    there = (0, omega arith, refl);
    copy = record { copy = twice.copy class (0 ∷ 0 ∷ 1 ∷ []); is = refl; numbered = refl };
    plain = refl;
  })

  written_held : (relay : ℕ) (cell : Cell) → at ((twice.s12 class).relays relay) cell ≡ []
  written_held relay cell = go (0 == relay) (1 == relay) refl refl
    where
      go : (a b : Bool) → (0 == relay) ≡ a → (1 == relay) ≡ b → at ((twice.s12 class).relays relay) cell ≡ []
      go true b e f = subst (λ z. at ((twice.s12 class).relays z) cell ≡ []) (eqb-true 0 relay e) (empty_everywhere twice_plan cell)
      go false true e f = subst (λ z. at ((twice.s12 class).relays z) cell ≡ []) (eqb-true 1 relay f) (empty_everywhere hub_plan cell)
      go false false e f = rw (e, f) (empty_everywhere (plan_at twice_site relay) cell)

  pub written_others : (other : Part) → other ≢ Part.PassedOnce → Holds twice_site (twice.s12 class) other
  written_others Part.Kept differs = of_one twice_site (twice.s12 class) arrival refl Part.Kept
      (λ archive named. subst (λ z. IsWrittenOrHeads twice_site (twice.s12 class) z 0) (sym (only_audit_is_named class archive named)) written)
  written_others Part.NotLost differs = of_one twice_site (twice.s12 class) arrival refl Part.NotLost (λ loss there c plain. none_there loss there)
  written_others Part.HeldOnce differs = of_one twice_site (twice.s12 class) arrival refl Part.HeldOnce
      (λ relay cell entry there c. absurd (none_there entry (subst (λ z. Contains z entry) (written_held relay cell) there)))
  written_others Part.PassedOnce differs = absurd (differs refl)

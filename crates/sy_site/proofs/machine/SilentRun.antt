-- A run in which nothing is executed of a message.
use Rattle.std.proofs.Common.{◌≡◌, ℕ, true, false, [], ◌∷◌, refl, sym, subst, arith, inl, inr}
use Rattle.std.specs.Prelude.{◌≢◌}
use Rattle.std.specs.Int.{bit_at}
use Rattle.std.specs.List.{Contains}
use Rattle.std.proofs.lemmas.Nat.Bits.{bit_at-zero}
use Rattle.sy_wire.specs.declared.class.Class.{Class}
use Rattle.sy_wire.specs.Messages.{Said}
use Rattle.sy_chain.specs.Entries.{Entry}
use Rattle.sy_rules.specs.lists.Body.{is_in}
use Rattle.sy_rules.specs.lists.Sets.{Bits}
use Rattle.sy_rules.specs.PlanValue.{Plan}
use Rattle.sy_rules.proofs.lemmas.plan.Different.{one_differs}
use Rattle.sy_board.specs.relay.Cells as cells
use Rattle.sy_board.specs.relay.Cells.{Cell, RelayState, at, set_cell, hand}
use Rattle.sy_board.specs.relay.Steps.{Takes}
use Rattle.sy_board.proofs.relay.Keeps.{Each, Everywhere}
use Rattle.sy_board.proofs.relay.Marks.{empty_everywhere}
use Rattle.sy_board.proofs.relay.SetCells.{set_cell_elim}
use Rattle.sy_site.specs.Sites.{SiteAction, plan_at}
use Rattle.sy_site.specs.machine.Safety.{Heads, IsHeld, IsWrittenOrHeads, Left, forwards, posts, writes}
use Rattle.sy_site.specs.machine.States.{Arrival, Copy, SiteState, opening, with_relay}
use Rattle.sy_site.specs.machine.Steps.{Runs, SiteEvent, SiteStep}
use Rattle.sy_site.specs.machine.Examples.{audit, edge_input, example_message}
use Rattle.sy_site.specs.machine.Counterexamples.{Holds, Part, silent_events, silent_plan, silent_site}
use Rattle.sy_site.proofs.machine.Marks.{relay_elim}
use Rattle.sy_site.proofs.machine.Naming.{each_in}
use Rattle.sy_site.proofs.machine.Parts.{none_there, of_one, one_trail}

none_set : (k : ℕ) → bit_at 0 k ≡ 1 → ⊥
none_set k e = let z = bit_at-zero k in omega (arith, e, z)

none_due : Bits (λ k. is_in k [] ≡ true) 0
none_due k = ((λ e. absurd (none_set k e)), (λ h. absurd (cc)))

-- what has nothing due heads nowhere
heads_nowhere : (archive : SiteAction) (message : Said) (relay list due : ℕ) → due ≡ 0
    → Heads silent_site archive message relay list (Left.StillDue due) → ⊥
heads_nowhere archive message relay list due e (writes action has is) = none_set has.number (subst (λ d. bit_at d has.number ≡ 1) e has.member)
heads_nowhere archive message relay list due e (forwards action to has leads on) =
    none_set has.number (subst (λ d. bit_at d has.number ≡ 1) e has.member)
heads_nowhere archive message relay list due e (posts to has on) = none_set has.number (subst (λ d. bit_at d has.number ≡ 1) e has.member)

module _ (class : Class) where
  abbrev node : Entry
  node = record { message = example_message class; list = 1; input = 0; due = 0; tag = 0 }

  abbrev r0 : RelayState
  r0 = cells.opening silent_plan

  abbrev r1 : RelayState
  r1 = set_cell r0 (hand 0 0) (node ∷ [])

  takes1 : Takes silent_plan r0 0 0 node false r1
  takes1 = record {
    there =
        (omega arith, omega arith);
    made = record { input_is = refl; list = refl; due = none_due };
    free = refl;
    discarded = refl;
    after = refl;
  }

  abbrev copy : Copy
  copy = record { number = 0; message = example_message class; origin = edge_input; trail = 0 ∷ []; flag = false }

  abbrev s0 : SiteState
  s0 = opening silent_site

  abbrev pub s1 : SiteState
  s1 = record {
    relays = with_relay s0.relays 0 r1;
    copies = copy ∷ [];
    passed = λ a. [];
    losses = [];
    arrivals = record { message = example_message class; origin = edge_input } ∷ [];
  }

  step1 : SiteStep silent_site s0 (SiteEvent.TakeNew edge_input 0 (example_message class)) s1
  step1 = record { node = node; message = refl; tag = refl; step = record { state = r1; outs = []; step = (false, takes1, refl); after = refl } }

  pub silent_run : Runs silent_site (silent_events class) s1
  silent_run = (s1, step1, refl)

  nothing_held : (plan : Plan) → Everywhere (λ cell entry. entry.due ≡ 0) (cells.opening plan)
  nothing_held plan cell = subst (Each (λ (entry : Entry). entry.due ≡ 0)) (sym (empty_everywhere plan cell)) tt

  nothing_due : (relay : ℕ) → Everywhere (λ cell entry. entry.due ≡ 0) (s1.relays relay)
  nothing_due = relay_elim (λ relay. Everywhere (λ cell entry. entry.due ≡ 0)) s0.relays 0 r1
      (set_cell_elim (λ cell. Each (λ (entry : Entry). entry.due ≡ 0)) r0 (hand 0 0) (node ∷ []) (refl, tt) (nothing_held silent_plan))
      (λ relay. nothing_held (plan_at silent_site relay))

  due_is_0 : (relay : ℕ) (cell : Cell) (entry : Entry) → Contains (at (s1.relays relay) cell) entry → entry.due ≡ 0
  due_is_0 relay cell entry there = each_in (λ (entry : Entry). entry.due ≡ 0) (at (s1.relays relay) cell) (nothing_due relay cell) entry there

  not_held : IsHeld silent_site s1 audit 0 → ⊥
  not_held held =
      heads_nowhere audit held.entry.message held.relay held.entry.list held.entry.due (due_is_0 held.relay held.cell held.entry held.there) held.heads

  pub not_kept : IsWrittenOrHeads silent_site s1 audit 0 → ⊥
  not_kept (inl written) = none_there written.tag written.there
  not_kept (inr (inl held)) = not_held held
  not_kept (inr (inr on)) = none_there on.tag on.there

  abbrev arrival : Arrival
  arrival = record { message = example_message class; origin = edge_input }

  pub others : (other : Part) → other ≢ Part.Kept → Holds silent_site s1 other
  others Part.Kept differs = absurd (differs refl)
  others Part.NotLost differs = of_one silent_site s1 arrival refl Part.NotLost (λ loss there c plain. none_there loss there)
  others Part.HeldOnce differs = of_one silent_site s1 arrival refl Part.HeldOnce
      (λ relay cell entry there c. one_trail copy entry.tag (one_differs 0) c)
  others Part.PassedOnce differs = of_one silent_site s1 arrival refl Part.PassedOnce
      (λ action tag there c. one_trail copy tag (one_differs 0) c)

-- What holds of the one message that came in, of its copies, and of a relay's one entry.
use Rattle.std.proofs.Common.{◌≡◌, ℕ, [], ◌∷◌, refl, sym, subst, arith, Some}
use Rattle.std.specs.Prelude.{slice_get}
use Rattle.std.specs.List.{Contains}
use Rattle.sy_rules.specs.Whole.{AreDifferent}
use Rattle.sy_chain.specs.Entries.{Entry}
use Rattle.sy_rules.specs.PlanValue.{Plan}
use Rattle.sy_board.specs.relay.Cells as cells
use Rattle.sy_board.specs.relay.Cells.{Cell, at, set_cell}
use Rattle.sy_board.proofs.relay.Keeps.{Each}
use Rattle.sy_board.proofs.relay.Marks.{empty_everywhere}
use Rattle.sy_board.proofs.relay.SetCells.{set_cell_elim}
use Rattle.sy_site.specs.Sites.{Site}
use Rattle.sy_site.specs.machine.States.{Arrival, Copy, SiteState}
use Rattle.sy_site.specs.machine.Safety.{IsCopyOf}
use Rattle.sy_site.specs.machine.Counterexamples.{Holds, Part, Says}
use Rattle.sy_site.proofs.machine.Spread.{some_same}

pub none_there : {A : Type 0} (x : A) → Contains [] x → ⊥
none_there x (k, l, is) = omega (arith, l)

only : {A : Type 0} (x : A) (number : ℕ) (y : A) → slice_get (x ∷ []) number ≡ Some y → (number ≡ 0) × (x ≡ y)
only x ℕ.zero y e = (refl, some_same e)
only x (ℕ.suc k) y e = absurd (cc)

pub of_one : (site : Site) (state : SiteState) (a : Arrival) → state.arrivals ≡ a ∷ [] → (part : Part) → Says site state 0 a.message.class part
    → Holds site state part
of_one site state a is part says number arrival at protected entered =
    let h = only a number arrival (subst (λ z. slice_get z number ≡ Some arrival) is at) in
    subst (λ n. Says site state n arrival.message.class part) (sym h.0) (subst (λ (z : Arrival). Says site state 0 z.message.class part) h.1 says)

-- where there is one copy, each trail is its
pub one_trail : (x : Copy) (tag : ℕ) → AreDifferent x.trail → (copy : IsCopyOf (x ∷ []) 0 tag) → AreDifferent copy.copy.trail
one_trail x tag different copy = subst (λ (y : Copy). AreDifferent y.trail) (only x tag copy.copy copy.is).1 different

-- nothing is held before the first message, so anything holds of what is
pub of_nothing : (plan : Plan) (P : Cell → Entry → Type 0) (cell : Cell) → Each (P cell) (at (cells.opening plan) cell)
of_nothing plan P cell = subst (Each (P cell)) (sym (empty_everywhere plan cell)) tt

-- what holds of the one entry that a relay has
pub of_one_entry : (plan : Plan) (P : Cell → Entry → Type 0) (place : Cell) (entry : Entry) → P place entry → (cell : Cell)
    → Each (P cell) (at (set_cell (cells.opening plan) place (entry ∷ [])) cell)
of_one_entry plan P place entry p = set_cell_elim (λ cell. Each (P cell)) (cells.opening plan) place (entry ∷ []) (p, tt) (of_nothing plan P)

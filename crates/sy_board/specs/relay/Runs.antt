-- Many jobs of a worker at once: the runs of one action that stand next, one after the other.
use Rattle.std.specs.Prelude.{◌≡◌, ◌≢◌, ◌⊎◌, ℕ, List, [], ◌∷◌, Some, slice_get}
use Rattle.sy_wire.specs.Messages.{Said}
use Rattle.sy_chain.specs.Entries.{Entry}
use Rattle.sy_rules.specs.declared.lists.occurrence.Occurrence.TheVariants as occurrence
use Rattle.sy_rules.specs.lists.Sets.{IsLowest}
use Rattle.sy_rules.specs.PlanValue.{Plan}
use Rattle.sy_board.specs.relay.Plans.{occurrences_at}

-- the lowest occurrence due of the entry is a run of this action, and this is left without it
pub record BeginsWith (plan : Plan) (action : ℕ) (entry : Entry) (left : ℕ) : Type 0 where
  pub number : ℕ
  pub first : IsLowest entry.due number left
  pub found : slice_get (occurrences_at plan entry.list) number ≡ Some (occurrence.Run action)

-- The messages of the first entries, so many at most, each of which begins with a run of this action: up to the first that begins with something
-- else, and no further than the first that has more due behind its run.
abbrev pub AreRuns : Plan → ℕ → ℕ → List Entry → List Said → Type 0
AreRuns plan action ℕ.zero entries messages = messages ≡ []
AreRuns plan action (ℕ.suc most) [] messages = messages ≡ []
AreRuns plan action (ℕ.suc most) (entry ∷ others) messages =
    (((left : ℕ) → BeginsWith plan action entry left → ⊥) × (messages ≡ []))
    ⊎ ((left : ℕ) × (behind : List Said) × BeginsWith plan action entry left × (messages ≡ entry.message ∷ behind)
    × (left ≢ 0 → behind ≡ []) × (left ≡ 0 → AreRuns plan action most others behind))

-- A guard's value, and its table.
use Rattle.std.specs.Prelude.{◌≡◌, ℕ, ◌+◌, ◌*◌, ◌<◌, Bool, true, false, if◌then◌else◌, nat_lt, List, length, slice_index_or, slice_set}
use Rattle.sy_wire.specs.declared.class.Class.{Class}
use Rattle.sy_board.specs.declared.relay.guard.Guard.TheInside.{Inside}
use Rattle.sy_board.specs.relay.Totals.{GuardState, Pairs, guards}

abbrev pub guard_inside : Inside → GuardState
guard_inside g = record { pairs = g.pairs.items; spares = g.spares.items }

abbrev pub place : ℕ → Class → ℕ
place input class = 192 * input + 8 * class.facility + class.severity

abbrev pub marked : List Bool → ℕ → Class → List Bool
marked table input class = if nat_lt input 64 then slice_set table (place input class) true else table

-- it tells of each input below 64 and each class whether it is among the pairs
pub record IsTable (pairs : Pairs) (table : List Bool) : Type 0 where
  pub size : length table ≡ 12288
  pub reports : (input : ℕ) (class : Class) → input < 64 → slice_index_or table (place input class) false ≡ guards pairs input class

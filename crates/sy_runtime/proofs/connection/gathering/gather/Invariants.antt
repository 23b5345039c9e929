use Rattle.std.proofs.Common.{◌≡◌, false, List, ℕ}
use Rattle.sy_runtime.specs.Connections.{Counts, Kept}
use Rattle.sy_runtime.specs.internal.Held.{Holds}
use Rattle.sy_runtime.proofs.connection.gathering.gather.Given as goal

abbrev pub invariant-loop : goal.invariant-loop
invariant-loop l =
    ((read : List ℕ) (end : Counts) (reported : Kept) → Holds read end reported l.fn.batch.items l.fn.framer.left → Holds read end reported l.batch.items l.framer.left)
    × (l.framer.has_failed ≡ false)

use Rattle.std.proofs.Common.{◌≡◌, map, take, length}
use Rattle.sy_runtime.proofs.stopping.are_made.Given as goal

abbrev pub invariant-loop-hatch : goal.invariant-loop-hatch
invariant-loop-hatch g l =
    (l.place ≡ l.hatch-index) × (length l.actions ≡ length l.hatches)
    × (map (λ c. c.done) (take l.hatch-index l.actions) ≡ map (λ h. h.made) (take l.hatch-index l.hatches))

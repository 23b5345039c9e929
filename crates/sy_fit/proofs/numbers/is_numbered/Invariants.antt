use Rattle.std.proofs.Common.{ℕ, ◌<◌, ◌-◌}
use Rattle.sy_fit.specs.internal.Inners.{IsLowerBy}
use Rattle.sy_fit.proofs.numbers.is_numbered.Given as goal

abbrev pub invariant-loop-post : goal.invariant-loop-post
invariant-loop-post l = (post : ℕ) → post < l.next → IsLowerBy l.site l.class l.part l.rows l.inner l.number post

abbrev pub decreases-loop-post : goal.decreases-loop-post
decreases-loop-post l = 64 - l.next

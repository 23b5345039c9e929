use Rattle.std.proofs.Common.{◌≡◌, ℕ, ◌<◌, false}
use Rattle.std.specs.List.{list_any}
use Rattle.sy_site.specs.Sites.{plan_at}
use Rattle.sy_checker.specs.internal.Discarding.{discards}
use Rattle.sy_checker.proofs.kinds.discarding.is_discarding.Given as goal

abbrev pub invariant-loop-relay : goal.invariant-loop-relay
invariant-loop-relay l = (k : ℕ) → k < l.relay → list_any discards (plan_at l.site k).queues ≡ false

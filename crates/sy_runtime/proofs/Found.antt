-- What a worker finds to do.
use Rattle.std.proofs.Common.{◌≡◌, ◌<◌, ◌≤◌, ℕ, inl, inr, List, length, min, arith, sym, ◌∙◌}
use Rattle.std.proofs.lemmas.Bool.Decides.{nat_tests}
use Rattle.sy_chain.specs.Entries.{Entry}
use Rattle.sy_rules.specs.Whole.{IsWhole}
use Rattle.sy_board.specs.relay.Boards.{BoardState, GrabIs, NothingWaits}
use Rattle.sy_board.specs.relay.Plans.{queue_of_worker}

some_of : (batch waits : ℕ) → 1 ≤ batch → 0 < waits → min batch waits ≡ 0 → ⊥
some_of batch waits b n e = grind (arith, nat_tests)

-- nothing was grabbed only where nothing waits
pub nothing_waits : (old new : BoardState) (w count : ℕ) (lost : List Entry) → IsWhole old.plan → w < length old.plan.workers → GrabIs count lost old w new → count ≡ 0
    → (new ≡ old) × NothingWaits old w
nothing_waits old new w count lost whole there (inl (same, waits, none, is)) zero = (same, waits)
nothing_waits old new w count lost whole there (inr (grabs, counted, is)) zero =
    let queue : queue_of_worker old.plan w < length old.plan.queues = whole.worker_queues w 0 there in
    let least = (whole.queue_ranges (queue_of_worker old.plan w) _ queue).batch_least in
    absurd (some_of _ _ least grabs.some (sym counted ∙ zero))

-- How long queues become (this profile's own).
use Rattle.std.specs.Prelude.{ℕ, ◌≤◌}
use Rattle.sy_board.specs.relay.Cells.{waiting}
use Rattle.sy_board.specs.relay.Feeders as feeders
use Rattle.sy_board.specs.relay.Plans.{parameters_at}
use Rattle.sy_site.specs.Sites.{Site, plan_at}
use Rattle.sy_site.specs.machine.States.{SiteState}

-- The length bound, of each relay: a queue whose feeders are all full-delay feeders, and whose full-delay mark isn't off, is no longer than that mark.
abbrev pub IsWithinMarks : Site → SiteState → Type 0
IsWithinMarks site state = (relay : ℕ) → feeders.IsWithinMarks (plan_at site relay) (state.relays relay)

-- No queue is longer than its size.
abbrev pub IsWithinSizes : Site → SiteState → Type 0
IsWithinSizes site state = (relay queue : ℕ)
    → waiting (state.relays relay) queue ≤ (parameters_at (plan_at site relay) queue).size

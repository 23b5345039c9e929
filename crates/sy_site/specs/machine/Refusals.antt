-- Events that are no steps, each refused for one reason alone (this profile's own).
use Rattle.std.specs.Prelude.{ℕ, List, [], ◌∷◌, ◌++◌, codes, take, None}
use Rattle.sy_wire.specs.declared.class.Class.{Class}
use Rattle.sy_rules.specs.declared.parameters.settings.FlowControl.TheVariants as control
use Rattle.sy_rules.specs.PlanValue.{Plan}
use Rattle.sy_board.specs.relay.Steps.{Event}
use Rattle.sy_site.specs.Sites.{Site}
use Rattle.sy_site.specs.machine.States.{SiteState}
use Rattle.sy_site.specs.machine.Steps.{Runs, SiteEvent, SiteStep}
use Rattle.sy_site.specs.machine.Examples.{edge_input, example_message, example_queue, narrow_events, narrow_plan, narrow_site, relay_of, waiting_queue}

-- behind a run of these events this one is no step
abbrev pub IsRefusedAfter : Site → List SiteEvent → SiteEvent → Type 0
IsRefusedAfter site events event = (state : SiteState) × Runs site events state × ((new : SiteState) → SiteStep site state event new → ⊥)

-- In the narrow site a worker still has the third message while a fourth one waits in its queue.
abbrev pub busy_events : Class → List SiteEvent
busy_events class =
    take 9 (narrow_events class) ++ SiteEvent.TakeNew edge_input 0 (example_message class) ∷ SiteEvent.Inside 0 (Event.Enter 0 0) ∷ []

-- A queue of this size, with a full-delay mark of 1: one message is in it, and another one in a hand.
abbrev pub marked_plan : ℕ → Plan
marked_plan size = record narrow_plan {
  inputs = record { port = 6514; flow = control.Full; list = 0; queue = 0; unread_file = None } ∷ [];
  queues = example_queue size 1 ∷ example_queue 1 0 ∷ [];
}

abbrev pub marked_site : ℕ → Site
marked_site size = record narrow_site { relays = relay_of (codes "edge") (marked_plan size) ∷ [] }

abbrev pub marked_events : Class → List SiteEvent
marked_events class = take 3 (narrow_events class)

-- The narrow site, but posts into its second queue wait: it has this size, and a full-delay mark of 1.
abbrev pub holding_plan : ℕ → Plan
holding_plan size = record narrow_plan { queues = example_queue 1 0 ∷ waiting_queue size 1 ∷ [] }

abbrev pub holding_site : ℕ → Site
holding_site size = record narrow_site { relays = relay_of (codes "edge") (holding_plan size) ∷ [] }

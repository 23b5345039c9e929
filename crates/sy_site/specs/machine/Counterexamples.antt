-- Small sites, which aren't sound, with runs that end in states that aren't safe, or not confined (this profile's own). So no part of either can be
-- left out unseen, but for reach and for what is due.
use Rattle.std.specs.Prelude.{◌≡◌, ◌≢◌, ℕ, ◌⊎◌, true, false, List, [], ◌∷◌, Some, None, codes, slice_get, take}
use Rattle.std.specs.Int.{bit_at}
use Rattle.std.specs.List.{Contains}
use Rattle.sy_wire.specs.declared.class.Class.{Class}
use Rattle.sy_chain.specs.Entries.{Entry}
use Rattle.sy_rules.specs.declared.parameters.objects.Destination.TheVariants as destination
use Rattle.sy_rules.specs.declared.parameters.settings.FlowControl.TheVariants as control
use Rattle.sy_rules.specs.declared.parameters.settings.QueueParameters.{QueueParameters}
use Rattle.sy_rules.specs.lists.Body.{Body}
use Rattle.sy_rules.specs.PlanValue.{Plan}
use Rattle.sy_rules.specs.Whole.{AreDifferent, body_at}
use Rattle.sy_rules.specs.lists.Work.{May}
use Rattle.sy_board.specs.relay.Cells.{Cell, at}
use Rattle.sy_board.specs.relay.Spares.{Scope}
use Rattle.sy_board.specs.relay.Steps.{Event}
use Rattle.sy_site.specs.Sites.{Site, SiteAction, SiteInput, archives, is_protected, plan_at, target}
use Rattle.sy_site.specs.machine.States.{Arrival, Copy, Loss, SiteState, is_flagged_at, is_flagged_loss, is_flagged_on}
use Rattle.sy_site.specs.machine.Steps.{Runs, SiteEvent}
use Rattle.sy_site.specs.machine.Reach.{Reach, list_of}
use Rattle.sy_site.specs.machine.Findings.{IsForward}
use Rattle.sy_site.specs.machine.Confinement.{AreConfined, IsFollowed, IsOfAPost, IsPlaceOf}
use Rattle.sy_site.specs.machine.Safety.{AreSafe, IsCopyOf, IsWrittenOrHeads}
use Rattle.sy_site.specs.machine.Examples.{edge_input, edge_plan, example_message, example_queue, hub_input, hub_plan, narrow_plan, relay_of, site_of_two, up, waiting_plan, waiting_queue}

-- the parts of safe
pub data Part : Type 0 where
  Kept NotLost HeldOnce PassedOnce : Part

-- what a part says of the message of this number, of this class: `IsSafe` says all four
abbrev pub Says : Site → SiteState → ℕ → Class → Part → Type 0
Says site state number class Part.Kept =
    (archive : SiteAction) → Contains (archives site class) archive → IsWrittenOrHeads site state archive number
Says site state number class Part.NotLost =
    (loss : Loss) → Contains state.losses loss → (copy : IsCopyOf state.copies number loss.copy) → is_flagged_loss site loss copy.copy ≡ false → ⊥
Says site state number class Part.HeldOnce =
    (relay : ℕ) (cell : Cell) (entry : Entry) → Contains (at (state.relays relay) cell) entry
    → (copy : IsCopyOf state.copies number entry.tag) → AreDifferent copy.copy.trail
Says site state number class Part.PassedOnce =
    (action : SiteAction) (tag : ℕ) → Contains (state.passed action) tag
    → (copy : IsCopyOf state.copies number tag) → AreDifferent copy.copy.trail

-- This part holds of each message of a protected class that came from outside at an entry.
abbrev pub Holds : Site → SiteState → Part → Type 0
Holds site state part = (number : ℕ) (arrival : Arrival) → slice_get state.arrivals number ≡ Some arrival
    → is_protected site arrival.message.class ≡ true → Contains site.entries arrival.origin
    → Says site state number arrival.message.class part

-- A run of these events ends in a state that isn't safe, for want of this part alone: the others hold there.
abbrev pub EndsUnsafe : Site → List SiteEvent → Part → Type 0
EndsUnsafe site events part =
    (state : SiteState) × Runs site events state × (AreSafe site state → ⊥) × ((other : Part) → other ≢ part → Holds site state other)

-- the parts of confinement
pub data Bound : Type 0 where
  InReach OnList MayRun AtPlace LinkLeads LinkInReach NoneLost : Bound

-- this holds of each followed copy that is held and isn't flagged
abbrev pub OfHeld : Site → Class → SiteState → (ℕ → Cell → Entry → Type 0) → Type 0
OfHeld site class state Q = (relay : ℕ) (cell : Cell) (entry : Entry) → Contains (at (state.relays relay) cell) entry
    → (copy : Copy) → IsFollowed site state class entry.tag copy → is_flagged_at site relay entry.list copy ≡ false → Q relay cell entry

-- this holds of each link of a forward that has a followed copy that isn't flagged
abbrev pub OfLinks : Site → Class → SiteState → (SiteAction → Type 0) → Type 0
OfLinks site class state Q = (link : SiteAction) (tag : ℕ) → Contains (state.passed link) tag → (copy : Copy) → IsFollowed site state class tag copy
    → is_flagged_on site link copy ≡ false → IsForward (slice_get (plan_at site link.relay).actions link.action) → Q link

-- where a relay has the entry
abbrev pub input_of : ℕ → Entry → SiteInput
input_of relay entry = record { relay = relay; input = entry.input }

-- what a part says: `AreConfined` says all seven
abbrev pub Bounds : Site → Class → SiteState → Bound → Type 0
Bounds site class state Bound.InReach = OfHeld site class state (λ relay cell entry. Reach site class Scope.Firm (input_of relay entry))
Bounds site class state Bound.OnList = OfHeld site class state (λ relay cell entry.
    (entry.list ≡ list_of site (input_of relay entry)) ⊎ IsOfAPost site class relay cell entry)
Bounds site class state Bound.MayRun = OfHeld site class state (λ relay cell entry.
    (number : ℕ) → bit_at entry.due number ≡ 1 → May (body_at (plan_at site relay) entry.list) class number)
Bounds site class state Bound.AtPlace = OfHeld site class state (λ relay cell entry.
    IsPlaceOf (plan_at site relay) cell entry.input ⊎ IsOfAPost site class relay cell entry)
Bounds site class state Bound.LinkLeads = OfLinks site class state (λ link. (to : SiteInput) × (target site link ≡ Some to))
Bounds site class state Bound.LinkInReach =
    OfLinks site class state (λ link. (to : SiteInput) → target site link ≡ Some to → Reach site class Scope.Firm to)
Bounds site class state Bound.NoneLost =
    (loss : Loss) → Contains state.losses loss → (copy : Copy) → IsFollowed site state class loss.copy copy
    → is_flagged_loss site loss copy ≡ false → ⊥

-- A run of these events ends in a state that isn't confined for a class, for want of this part alone: the others hold there.
abbrev pub EndsUnconfined : Site → Class → List SiteEvent → Bound → Type 0
EndsUnconfined site class events part =
    (state : SiteState) × Runs site events state × (AreConfined site class state → ⊥)
    × ((other : Bound) → other ≢ part → Bounds site class state other)

-- ---- a copy is lost, and its message heads for its archive all the same

-- edge may not try its forward again
abbrev pub hasty_plan : Plan
hasty_plan = record edge_plan {
  actions = record { name = codes "up"; destination = destination.Forward (codes "hub") 6515; retry = Some 0; resume_interval = 30 } ∷ [];
}

abbrev pub hasty_site : Site
hasty_site = site_of_two hasty_plan hub_plan

-- The link takes the message and fails, and edge gives it up.
abbrev pub hasty_events : Class → List SiteEvent
hasty_events class =
    SiteEvent.TakeNew edge_input 0 (example_message class)
    ∷ SiteEvent.Inside 0 (Event.Enter 0 0)
    ∷ SiteEvent.Inside 0 (Event.Grab 1)
    ∷ SiteEvent.Inside 0 (Event.GiveUp 1 true)
    ∷ []

-- ---- a message is neither written nor held where it heads for its archive, and not lost either

-- nothing is executed of what comes to edge
abbrev pub silent_plan : Plan
silent_plan = record edge_plan { lists = record { body = Body.End; queue = None } ∷ record { body = Body.End; queue = Some 1 } ∷ [] }

abbrev pub silent_site : Site
silent_site = site_of_two silent_plan hub_plan

abbrev pub silent_events : Class → List SiteEvent
silent_events class = SiteEvent.TakeNew edge_input 0 (example_message class) ∷ []

-- ---- a message comes to a relay twice, on its way to its archive

-- edge forwards what comes to its port 6514 to itself, and from there to hub
abbrev pub twice_plan : Plan
twice_plan = record {
  inputs = record { port = 6514; flow = control.Full; list = 0; queue = 0; unread_file = None } ∷ record { port = 6515; flow = control.Full; list = 1; queue = 0; unread_file = None } ∷ [];
  queues = example_queue 50000 48500 ∷ [];
  workers = 0 ∷ [];
  actions = record { name = codes "again"; destination = destination.Forward (codes "edge") 6515; retry = None; resume_interval = 30 }
      ∷ record { name = codes "up"; destination = destination.Forward (codes "hub") 6515; retry = None; resume_interval = 30 } ∷ [];
  lists = record { body = Body.Run 0 Body.End; queue = None } ∷ record { body = Body.Run 1 Body.End; queue = None } ∷ [];
  rulesets = 1;
  names = codes "RSYSLOG_DefaultRuleset" ∷ codes "on" ∷ [];
}

abbrev pub twice_site : Site
twice_site = site_of_two twice_plan hub_plan

-- the input of port 6515, the forward to it and the one to hub
abbrev pub again_input : SiteInput
again_input = record { relay = 0; input = 1 }

abbrev pub again : SiteAction
again = record { relay = 0; action = 0 }

abbrev pub to_hub : SiteAction
to_hub = record { relay = 0; action = 1 }

-- Behind the fifth of them edge holds it the second time; behind the eighth it is on the link to hub, and at the end in the archive.
abbrev pub twice_events : Class → List SiteEvent
twice_events class =
    SiteEvent.TakeNew edge_input 0 (example_message class)
    ∷ SiteEvent.Inside 0 (Event.Enter 0 0)
    ∷ SiteEvent.Inside 0 (Event.Grab 0)
    ∷ SiteEvent.Inside 0 (Event.Done 0)
    ∷ SiteEvent.TakeFrom again_input 0 again 0
    ∷ SiteEvent.Inside 0 (Event.Enter 1 0)
    ∷ SiteEvent.Inside 0 (Event.Grab 0)
    ∷ SiteEvent.Inside 0 (Event.Done 0)
    ∷ SiteEvent.TakeFrom hub_input 0 to_hub 0
    ∷ SiteEvent.Inside 1 (Event.Enter 0 0)
    ∷ SiteEvent.Inside 1 (Event.Grab 0)
    ∷ SiteEvent.Inside 1 (Event.Done 0)
    ∷ []

-- ---- a message comes to its archive by a spare action alone

-- edge's forward to hub is spare
abbrev pub spared_site : Site
spared_site = record (site_of_two edge_plan hub_plan) { policy = 2; spares = up ∷ [] }

-- Behind the fourth of them the link has the message, behind the fifth a hand of hub, at the end the archive.
abbrev pub spared_events : Class → List SiteEvent
spared_events class =
    SiteEvent.TakeNew edge_input 0 (example_message class)
    ∷ SiteEvent.Inside 0 (Event.Enter 0 0)
    ∷ SiteEvent.Inside 0 (Event.Grab 1)
    ∷ SiteEvent.Inside 0 (Event.Done 1)
    ∷ SiteEvent.TakeFrom hub_input 0 up 0
    ∷ SiteEvent.Inside 1 (Event.Enter 0 0)
    ∷ SiteEvent.Inside 1 (Event.Grab 0)
    ∷ SiteEvent.Inside 1 (Event.Done 0)
    ∷ []

-- ---- a flagged copy comes to a relay twice

-- hub writes what comes in, and forwards it back to edge, by a spare action
abbrev pub circling_plan : Plan
circling_plan = record hub_plan {
  actions = record { name = codes "audit"; destination = destination.Archive (codes "audit.log"); retry = None; resume_interval = 30 }
      ∷ record { name = codes "back"; destination = destination.Forward (codes "edge") 6514; retry = None; resume_interval = 30 } ∷ [];
  lists = record { body = Body.Run 0 (Body.Run 1 Body.End); queue = None } ∷ [];
}

abbrev pub back : SiteAction
back = record { relay = 1; action = 1 }

abbrev pub circling_site : Site
circling_site = record (site_of_two edge_plan circling_plan) { policy = 2; spares = back ∷ [] }

-- Behind the tenth of them edge holds it the second time, at the end it is on the link to hub the second time.
abbrev pub circling_events : Class → List SiteEvent
circling_events class =
    SiteEvent.TakeNew edge_input 0 (example_message class)
    ∷ SiteEvent.Inside 0 (Event.Enter 0 0)
    ∷ SiteEvent.Inside 0 (Event.Grab 1)
    ∷ SiteEvent.Inside 0 (Event.Done 1)
    ∷ SiteEvent.TakeFrom hub_input 0 up 0
    ∷ SiteEvent.Inside 1 (Event.Enter 0 0)
    ∷ SiteEvent.Inside 1 (Event.Grab 0)
    ∷ SiteEvent.Inside 1 (Event.Done 0)
    ∷ SiteEvent.Inside 1 (Event.Done 0)
    ∷ SiteEvent.TakeFrom edge_input 0 back 0
    ∷ SiteEvent.Inside 0 (Event.Enter 0 0)
    ∷ SiteEvent.Inside 0 (Event.Grab 1)
    ∷ SiteEvent.Inside 0 (Event.Done 1)
    ∷ []

-- ---- copies that aren't confined

-- edge forwards to a relay that isn't there
abbrev pub aimless_plan : Plan
aimless_plan = record edge_plan {
  actions = record { name = codes "up"; destination = destination.Forward (codes "nobody") 6515; retry = None; resume_interval = 30 } ∷ [];
}

abbrev pub aimless_site : Site
aimless_site = site_of_two aimless_plan hub_plan

-- The link takes the message.
abbrev pub aimless_events : Class → List SiteEvent
aimless_events class =
    SiteEvent.TakeNew edge_input 0 (example_message class)
    ∷ SiteEvent.Inside 0 (Event.Enter 0 0)
    ∷ SiteEvent.Inside 0 (Event.Grab 1)
    ∷ SiteEvent.Inside 0 (Event.Done 1)
    ∷ []

-- edge posts what comes in to the list that it follows already, whose queue isn't the input's and doesn't wait
abbrev pub moving_plan : Plan
moving_plan = record narrow_plan {
  inputs = record { port = 6514; flow = control.Full; list = 1; queue = 0; unread_file = None } ∷ [];
  lists = record { body = Body.End; queue = None } ∷ record { body = Body.Post 1 Body.End; queue = Some 1 } ∷ [];
  rulesets = 1;
}

abbrev pub moving_site : Site
moving_site = site_of_two moving_plan hub_plan

-- Behind the fourth of them the list's queue has the message, at the end that queue's worker.
abbrev pub moving_events : Class → List SiteEvent
moving_events class =
    SiteEvent.TakeNew edge_input 0 (example_message class)
    ∷ SiteEvent.Inside 0 (Event.Enter 0 0)
    ∷ SiteEvent.Inside 0 (Event.Grab 0)
    ∷ SiteEvent.Inside 0 (Event.Post 0)
    ∷ SiteEvent.Inside 0 (Event.Grab 1)
    ∷ []

-- edge posts what comes in to another list, of the same queue, which doesn't wait
abbrev pub changing_plan : Plan
changing_plan = record narrow_plan {
  lists = record { body = Body.Post 1 Body.End; queue = None } ∷ record { body = Body.Run 0 Body.End; queue = None } ∷ [];
  rulesets = 1;
}

abbrev pub changing_site : Site
changing_site = site_of_two changing_plan hub_plan

-- The input's queue has the message again, and it follows the other list.
abbrev pub changing_events : Class → List SiteEvent
changing_events class = take 4 (moving_events class)

-- ---- a forward that leads nowhere, beside an archive that has all

-- edge writes what comes in, and forwards it to a relay that isn't there
abbrev pub stray_plan : Plan
stray_plan = record edge_plan {
  actions = record { name = codes "audit"; destination = destination.Archive (codes "audit.log"); retry = None; resume_interval = 30 }
      ∷ record { name = codes "up"; destination = destination.Forward (codes "nobody") 6515; retry = None; resume_interval = 30 } ∷ [];
  lists = record { body = Body.End; queue = None } ∷ record { body = Body.Run 0 (Body.Run 1 Body.End); queue = Some 1 } ∷ [];
}

abbrev pub stray_site : Site
stray_site = record {
  policy = 1;
  relays = relay_of (codes "edge") stray_plan ∷ [];
  entries = edge_input ∷ [];
  whole_entries = [];
  protections = [];
  spares = [];
  outsides = [];
}

-- ---- a post into a queue that waits is lost, and its message heads for its archive all the same

-- edge posts what comes in twice to the list that forwards it, which has this queue
abbrev pub leaking_plan : QueueParameters → Plan
leaking_plan queue = record waiting_plan {
  queues = example_queue 50000 48500 ∷ example_queue 100 90 ∷ queue ∷ [];
  lists = record { body = Body.End; queue = None } ∷ record { body = Body.Post 2 (Body.Post 2 Body.End); queue = Some 1 }
      ∷ record { body = Body.Run 0 Body.End; queue = Some 2 } ∷ [];
  rulesets = 2;
  names = codes "RSYSLOG_DefaultRuleset" ∷ codes "out" ∷ codes "side" ∷ [];
}

abbrev pub leaking_site : QueueParameters → Site
leaking_site queue = site_of_two (leaking_plan queue) hub_plan

-- a queue of size 1, in which posts wait at no mark
abbrev pub unmarked_queue : QueueParameters
unmarked_queue = waiting_queue 1 0

-- one that has a mark, and discards what comes behind the first message
abbrev pub discarding_queue : QueueParameters
discarding_queue = record (waiting_queue 100 90) { discard_mark = 1; discard_severity = 0 }

-- Behind the first post the queue has the message; then the second one is to be done.
abbrev pub leaking_events : Class → Event → List SiteEvent
leaking_events class last =
    SiteEvent.TakeNew edge_input 0 (example_message class)
    ∷ SiteEvent.Inside 0 (Event.Enter 0 0)
    ∷ SiteEvent.Inside 0 (Event.Grab 1)
    ∷ SiteEvent.Inside 0 (Event.Post 1)
    ∷ SiteEvent.Inside 0 last
    ∷ []

-- ---- posts go from queue to queue in a circle

-- edge forwards what comes in, and posts it to a list that posts it back; posts into both queues wait
abbrev pub turning_plan : Plan
turning_plan = record waiting_plan {
  queues = example_queue 50000 48500 ∷ waiting_queue 100 90 ∷ waiting_queue 100 90 ∷ [];
  lists = record { body = Body.End; queue = None } ∷ record { body = Body.Run 0 (Body.Post 2 Body.End); queue = Some 1 }
      ∷ record { body = Body.Post 1 Body.End; queue = Some 2 } ∷ [];
  rulesets = 2;
  names = codes "RSYSLOG_DefaultRuleset" ∷ codes "out" ∷ codes "side" ∷ [];
}

abbrev pub turning_site : Site
turning_site = site_of_two turning_plan hub_plan

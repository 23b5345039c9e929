-- Small sites with a circle of waits, and a run of one into a state in which no step is possible any more (this profile's own).
use Rattle.std.specs.Prelude.{◌≡◌, ℕ, true, false, List, [], ◌∷◌, Some, None, codes}
use Rattle.sy_wire.specs.declared.class.Class.{Class}
use Rattle.sy_select.specs.declared.condition.ClassTest.TheVariants as decided
use Rattle.sy_select.specs.declared.condition.Test.{Test}
use Rattle.sy_select.specs.declared.condition.Test.TheVariants as test
use Rattle.sy_select.specs.Selectors.{holds}
use Rattle.sy_select.specs.Truth.{Formula}
use Rattle.sy_rules.specs.declared.parameters.objects.Destination.TheVariants as destination
use Rattle.sy_rules.specs.declared.parameters.settings.FlowControl.TheVariants as control
use Rattle.sy_rules.specs.declared.parameters.settings.QueueParameters.{QueueParameters}
use Rattle.sy_rules.specs.lists.Body.{Body}
use Rattle.sy_rules.specs.PlanValue.{Plan}
use Rattle.sy_board.specs.relay.Steps.{Event}
use Rattle.sy_site.specs.declared.site.SiteAction.{SiteAction}
use Rattle.sy_site.specs.declared.site.SiteInput.{SiteInput}
use Rattle.sy_site.specs.Sites.{Site}
use Rattle.sy_site.specs.machine.States.{SiteState}
use Rattle.sy_site.specs.machine.Steps.{SiteEvent, SiteStep}
use Rattle.sy_site.specs.machine.Examples.{edge_input, example_message, example_queue, relay_of, waiting_queue}
use Rattle.sy_flowing.specs.Flowing.{SiteQueue}

-- auth.*
abbrev pub auth_selector : List ℕ
auth_selector = 0 ∷ 0 ∷ 0 ∷ 0 ∷ 255 ∷ 0 ∷ 0 ∷ 0 ∷ 0 ∷ 0 ∷ 0 ∷ 0 ∷ 0 ∷ 0 ∷ 0 ∷ 0 ∷ 0 ∷ 0 ∷ 0 ∷ 0 ∷ 0 ∷ 0 ∷ 0 ∷ 0 ∷ []

abbrev pub is_auth : Formula Test
is_auth = Formula.Test (test.Class (decided.Selected auth_selector))

-- a class of auth.*, and one that isn't
abbrev pub IsAuth : Class → Type 0
IsAuth class = holds auth_selector class.facility class.severity ≡ true

abbrev pub IsOther : Class → Type 0
IsOther class = holds auth_selector class.facility class.severity ≡ false

-- ---- two classes in opposite directions through queues that wait

-- a queue of two in which posts wait, and each worker takes one
abbrev pub tiny_queue : QueueParameters
tiny_queue = record (waiting_queue 2 1) { batch = 1 }

-- Two rulesets, each with a queue and an input. `a` puts auth.* into the queue of `b`, and writes all else; `b` writes auth.*, and puts all else
-- into the queue of `a`.
abbrev pub jam_plan : Plan
jam_plan = record {
  inputs = record { port = 6514; flow = control.Full; list = 1; queue = 1; unread_file = None }
      ∷ record { port = 6515; flow = control.Full; list = 2; queue = 2; unread_file = None } ∷ [];
  queues = example_queue 50000 48500 ∷ tiny_queue ∷ tiny_queue ∷ [];
  workers = 0 ∷ 1 ∷ 2 ∷ [];
  actions = record { name = codes "x"; destination = destination.Archive (codes "x.log"); retry = None; resume_interval = 30 }
      ∷ record { name = codes "audit"; destination = destination.Archive (codes "y.log"); retry = None; resume_interval = 30 } ∷ [];
  lists = record { body = Body.End; queue = None }
      ∷ record { body = Body.If is_auth (Body.Post 2 Body.End) (Body.Run 0 Body.End) Body.End; queue = Some 1 }
      ∷ record { body = Body.If (Formula.Not is_auth) (Body.Post 1 Body.End) (Body.Run 1 Body.End) Body.End; queue = Some 2 } ∷ [];
  rulesets = 2;
  names = codes "RSYSLOG_DefaultRuleset" ∷ codes "a" ∷ codes "b" ∷ [];
}

abbrev pub jam_archive : SiteAction
jam_archive = record { relay = 0; action = 1 }

-- auth.* enters at the port of `a`, and is to come to the archive of `b`
abbrev pub jam_site : Site
jam_site = record {
  policy = 1;
  relays = relay_of (codes "hub") jam_plan ∷ [];
  entries = edge_input ∷ [];
  whole_entries = [];
  protections = record { selector = auth_selector; archive = jam_archive } ∷ [];
  spares = [];
  outsides = [];
}

-- the input of `b`, at which nothing protected enters
abbrev pub other_input : SiteInput
other_input = record { relay = 0; input = 1 }

abbrev pub queue_a : SiteQueue
queue_a = record { relay = 0; queue = 1 }

-- Two messages of auth.* come to `a`, and two others to `b`: the first of each is at a worker, which can't put it into the other queue, where the
-- second one of the other two has reached the mark.
abbrev pub jam_events : Class → Class → List SiteEvent
jam_events class other =
    SiteEvent.TakeNew edge_input 0 (example_message class)
    ∷ SiteEvent.Inside 0 (Event.Enter 0 0)
    ∷ SiteEvent.Inside 0 (Event.Grab 1)
    ∷ SiteEvent.TakeNew edge_input 0 (example_message class)
    ∷ SiteEvent.Inside 0 (Event.Enter 0 0)
    ∷ SiteEvent.TakeNew other_input 0 (example_message other)
    ∷ SiteEvent.Inside 0 (Event.Enter 1 0)
    ∷ SiteEvent.Inside 0 (Event.Grab 2)
    ∷ SiteEvent.TakeNew other_input 0 (example_message other)
    ∷ SiteEvent.Inside 0 (Event.Enter 1 0)
    ∷ []

-- a take from outside
abbrev pub IsFromOutside : SiteEvent → Type 0
IsFromOutside (SiteEvent.TakeNew input hand message) = Unit {0}
IsFromOutside _ = ⊥

-- No step is possible but a take from outside.
abbrev pub IsStuck : Site → SiteState → Type 0
IsStuck site state = (event : SiteEvent) (new : SiteState) → SiteStep site state event new → IsFromOutside event

-- ---- one message of an unprotected class goes round for ever

-- `a` writes auth.*, and puts all else into the queue of `b`, which puts everything into the queue of `a`
abbrev pub round_plan : Plan
round_plan = record {
  inputs = record { port = 6514; flow = control.Full; list = 1; queue = 1; unread_file = None } ∷ [];
  queues = example_queue 50000 48500 ∷ waiting_queue 100 90 ∷ waiting_queue 100 90 ∷ [];
  workers = 0 ∷ 1 ∷ 2 ∷ [];
  actions = record { name = codes "audit"; destination = destination.Archive (codes "audit.log"); retry = None; resume_interval = 30 } ∷ [];
  lists = record { body = Body.End; queue = None }
      ∷ record { body = Body.If (Formula.Not is_auth) (Body.Post 2 Body.End) (Body.Run 0 Body.End) Body.End; queue = Some 1 }
      ∷ record { body = Body.Post 1 Body.End; queue = Some 2 } ∷ [];
  rulesets = 2;
  names = codes "RSYSLOG_DefaultRuleset" ∷ codes "a" ∷ codes "b" ∷ [];
}

abbrev pub round_site : Site
round_site = record jam_site {
  relays = relay_of (codes "hub") round_plan ∷ [];
  protections = record { selector = auth_selector; archive = record { relay = 0; action = 0 } } ∷ [];
}

-- One message that isn't of auth.* comes to `a`.
abbrev pub round_events : Class → List SiteEvent
round_events other = SiteEvent.TakeNew edge_input 0 (example_message other) ∷ SiteEvent.Inside 0 (Event.Enter 0 0) ∷ []

-- ---- two classes in opposite directions through queues that don't wait

abbrev pub lossy_queue : QueueParameters
lossy_queue = record tiny_queue { waits = false }

abbrev pub lossy_site : Site
lossy_site = record jam_site {
  relays = relay_of (codes "hub") (record jam_plan { queues = example_queue 50000 48500 ∷ lossy_queue ∷ lossy_queue ∷ [] }) ∷ [];
  protections = [];
}

-- Small sites with runs, so that it is seen that the definitions are not empty (this profile's own).
use Rattle.std.specs.Prelude.{ℕ, true, false, List, [], ◌∷◌, Some, None, codes}
use Rattle.sy_wire.specs.declared.class.Class.{Class}
use Rattle.sy_wire.specs.Messages.{Said}
use Rattle.sy_rules.specs.declared.parameters.objects.Destination.TheVariants as destination
use Rattle.sy_rules.specs.declared.parameters.settings.FlowControl.TheVariants as control
use Rattle.sy_rules.specs.declared.parameters.settings.QueueParameters.{QueueParameters}
use Rattle.sy_rules.specs.lists.Body.{Body}
use Rattle.sy_rules.specs.PlanValue.{Plan}
use Rattle.sy_board.specs.relay.Steps.{Event}
use Rattle.sy_site.specs.declared.site.host.Host.TheVariants as host
use Rattle.sy_site.specs.Sites.{Relay, Site, SiteInput, SiteAction, loopback}
use Rattle.sy_site.specs.machine.Steps.{SiteEvent}

-- a message of a class
abbrev pub example_message : Class → Said
example_message class = record {
  raw = codes "<34>1 - - - - - -";
  class = class;
  hostname = [];
  app_name = [];
  procid = [];
  msgid = [];
  msg = [];
}

-- a queue of this size, with this full-delay mark
abbrev pub example_queue : ℕ → ℕ → QueueParameters
example_queue size mark = record {
  size = size;
  batch = 1024;
  full_delay_mark = mark;
  light_delay_mark = 0;
  discard_mark = 0;
  discard_severity = 8;
  timeout_enqueue = 2000;
  workers = 1;
  waits = false;
}

-- the same, in which posts wait
abbrev pub waiting_queue : ℕ → ℕ → QueueParameters
waiting_queue size mark = record (example_queue size mark) { waits = true }

-- ---- a message comes to its archive

-- edge forwards what comes to its port 6514 to hub: through the queue of the ruleset `out`
abbrev pub edge_plan : Plan
edge_plan = record {
  inputs = record { port = 6514; flow = control.Full; list = 1; queue = 1; unread_file = None } ∷ [];
  queues = example_queue 50000 48500 ∷ example_queue 100 90 ∷ [];
  workers = 0 ∷ 1 ∷ [];
  actions = record { name = codes "up"; destination = destination.Forward (codes "hub") 6515; retry = None; resume_interval = 30 } ∷ [];
  lists = record { body = Body.End; queue = None } ∷ record { body = Body.Run 0 Body.End; queue = Some 1 } ∷ [];
  rulesets = 1;
  names = codes "RSYSLOG_DefaultRuleset" ∷ codes "out" ∷ [];
}

-- edge does so through that action's own queue, which waits, besides
abbrev pub waiting_plan : Plan
waiting_plan = record {
  inputs = record { port = 6514; flow = control.Full; list = 1; queue = 1; unread_file = None } ∷ [];
  queues = example_queue 50000 48500 ∷ example_queue 100 90 ∷ waiting_queue 100 90 ∷ [];
  workers = 0 ∷ 1 ∷ 2 ∷ [];
  actions = record { name = codes "up"; destination = destination.Forward (codes "hub") 6515; retry = None; resume_interval = 30 } ∷ [];
  lists = record { body = Body.End; queue = None } ∷ record { body = Body.Post 2 Body.End; queue = Some 1 }
      ∷ record { body = Body.Run 0 Body.End; queue = Some 2 } ∷ [];
  rulesets = 1;
  names = codes "RSYSLOG_DefaultRuleset" ∷ codes "out" ∷ codes "up" ∷ [];
}

-- hub writes what comes to its port 6515 into a file
abbrev pub hub_plan : Plan
hub_plan = record {
  inputs = record { port = 6515; flow = control.Full; list = 0; queue = 0; unread_file = None } ∷ [];
  queues = example_queue 50000 48500 ∷ [];
  workers = 0 ∷ [];
  actions = record { name = codes "audit"; destination = destination.Archive (codes "audit.log"); retry = None; resume_interval = 30 } ∷ [];
  lists = record { body = Body.Run 0 Body.End; queue = None } ∷ [];
  rulesets = 0;
  names = codes "RSYSLOG_DefaultRuleset" ∷ [];
}

-- hub forwards it to mirror too, through that action's own queue, without a second try
abbrev pub copying_plan : Plan
copying_plan = record {
  inputs = record { port = 6515; flow = control.Full; list = 0; queue = 0; unread_file = None } ∷ [];
  queues = example_queue 50000 48500 ∷ example_queue 1000 970 ∷ [];
  workers = 0 ∷ 1 ∷ [];
  actions = record { name = codes "audit"; destination = destination.Archive (codes "audit.log"); retry = None; resume_interval = 30 }
      ∷ record { name = codes "copy"; destination = destination.Forward (codes "mirror") 6520; retry = Some 0; resume_interval = 30 } ∷ [];
  lists = record { body = Body.Run 0 (Body.Post 1 Body.End); queue = None } ∷ record { body = Body.Run 1 Body.End; queue = Some 1 } ∷ [];
  rulesets = 0;
  names = codes "RSYSLOG_DefaultRuleset" ∷ codes "copy" ∷ [];
}

-- mirror writes it, without a second try either
abbrev pub mirror_plan : Plan
mirror_plan = record {
  inputs = record { port = 6520; flow = control.On; list = 0; queue = 0; unread_file = None } ∷ [];
  queues = example_queue 50000 0 ∷ [];
  workers = 0 ∷ [];
  actions = record { name = codes "log"; destination = destination.Archive (codes "mirror.log"); retry = Some 0; resume_interval = 30 } ∷ [];
  lists = record { body = Body.Run 0 Body.End; queue = None } ∷ [];
  rulesets = 0;
  names = codes "RSYSLOG_DefaultRuleset" ∷ [];
}

abbrev pub edge_input : SiteInput
edge_input = record { relay = 0; input = 0 }

abbrev pub hub_input : SiteInput
hub_input = record { relay = 1; input = 0 }

abbrev pub mirror_input : SiteInput
mirror_input = record { relay = 2; input = 0 }

abbrev pub up : SiteAction
up = record { relay = 0; action = 0 }

abbrev pub audit : SiteAction
audit = record { relay = 1; action = 0 }

abbrev pub copying : SiteAction
copying = record { relay = 1; action = 1 }

-- a relay that is reached and listens at 127.0.0.1
abbrev pub relay_of : List ℕ → Plan → Relay
relay_of name plan = record { name = name; host = host.Address loopback; listens = Some loopback; plan = plan }

-- edge and hub with these plans: messages of facility auth enter at edge and are to come to the archive of hub
abbrev pub site_of_two : Plan → Plan → Site
site_of_two edge hub = record {
  policy = 1;
  relays = relay_of (codes "edge") edge ∷ relay_of (codes "hub") hub ∷ [];
  entries = edge_input ∷ [];
  whole_entries = [];
  protections = record {
    selector = 0 ∷ 0 ∷ 0 ∷ 0 ∷ 255 ∷ 0 ∷ 0 ∷ 0 ∷ 0 ∷ 0 ∷ 0 ∷ 0 ∷ 0 ∷ 0 ∷ 0 ∷ 0 ∷ 0 ∷ 0 ∷ 0 ∷ 0 ∷ 0 ∷ 0 ∷ 0 ∷ 0 ∷ [];
    archive = audit;
  } ∷ [];
  spares = [];
  outsides = [];
}

-- edge has a queue that waits besides, mirror is the third relay, and hub's forward to it is spare
abbrev pub example_site : Site
example_site = record (site_of_two edge_plan copying_plan) {
  policy = 2;
  relays = relay_of (codes "edge") waiting_plan ∷ relay_of (codes "hub") copying_plan ∷ relay_of (codes "mirror") mirror_plan ∷ [];
  spares = copying ∷ [];
  outsides = [];
}

-- It comes to a hand of edge, into the queue, to the worker, into the action's queue, to its worker; the link fails, but took it all the same, and takes it
-- once more; hub takes it from the second place of the link, writes it, and puts it into the spare action's queue, from which it is forwarded to mirror;
-- mirror takes it, and gives it up.
abbrev pub example_events : Class → List SiteEvent
example_events class =
    SiteEvent.TakeNew edge_input 0 (example_message class)
    ∷ SiteEvent.Inside 0 (Event.Enter 0 0)
    ∷ SiteEvent.Inside 0 (Event.Grab 1)
    ∷ SiteEvent.Inside 0 (Event.Post 1)
    ∷ SiteEvent.Inside 0 (Event.Grab 2)
    ∷ SiteEvent.Inside 0 (Event.Fail 2 true)
    ∷ SiteEvent.Inside 0 (Event.Done 2)
    ∷ SiteEvent.TakeFrom hub_input 0 up 1
    ∷ SiteEvent.Inside 1 (Event.Enter 0 0)
    ∷ SiteEvent.Inside 1 (Event.Grab 0)
    ∷ SiteEvent.Inside 1 (Event.Done 0)
    ∷ SiteEvent.Inside 1 (Event.Post 0)
    ∷ SiteEvent.Inside 1 (Event.Grab 1)
    ∷ SiteEvent.Inside 1 (Event.Done 1)
    ∷ SiteEvent.TakeFrom mirror_input 0 copying 0
    ∷ SiteEvent.Inside 2 (Event.Enter 0 0)
    ∷ SiteEvent.Inside 2 (Event.Grab 0)
    ∷ SiteEvent.Inside 2 (Event.GiveUp 0 false)
    ∷ []

-- ---- a relay that loses messages

-- Two queues of size 1: what comes to port 6514 is put into the second one, from which an action is tried twice.
abbrev pub narrow_plan : Plan
narrow_plan = record {
  inputs = record { port = 6514; flow = control.Off; list = 0; queue = 0; unread_file = None } ∷ [];
  queues = example_queue 1 0 ∷ example_queue 1 0 ∷ [];
  workers = 0 ∷ 1 ∷ [];
  actions = record { name = codes "log"; destination = destination.Archive (codes "a.log"); retry = Some 1; resume_interval = 30 } ∷ [];
  lists = record { body = Body.Post 1 Body.End; queue = None } ∷ record { body = Body.Run 0 Body.End; queue = Some 1 } ∷ [];
  rulesets = 0;
  names = codes "RSYSLOG_DefaultRuleset" ∷ codes "log" ∷ [];
}

abbrev pub narrow_site : Site
narrow_site = record {
  policy = 1;
  relays = relay_of (codes "edge") narrow_plan ∷ [];
  entries = edge_input ∷ [];
  whole_entries = [];
  protections = [];
  spares = [];
  outsides = [];
}

-- The second message finds the first queue full, the third the second one; the first one is given up after two failures.
abbrev pub narrow_events : Class → List SiteEvent
narrow_events class =
    SiteEvent.TakeNew edge_input 0 (example_message class)
    ∷ SiteEvent.Inside 0 (Event.Enter 0 0)
    ∷ SiteEvent.TakeNew edge_input 1 (example_message class)
    ∷ SiteEvent.Inside 0 (Event.Expire 0 1)
    ∷ SiteEvent.Inside 0 (Event.Grab 0)
    ∷ SiteEvent.Inside 0 (Event.Post 0)
    ∷ SiteEvent.TakeNew edge_input 0 (example_message class)
    ∷ SiteEvent.Inside 0 (Event.Enter 0 0)
    ∷ SiteEvent.Inside 0 (Event.Grab 0)
    ∷ SiteEvent.Inside 0 (Event.PostLost 0 false)
    ∷ SiteEvent.Inside 0 (Event.Grab 1)
    ∷ SiteEvent.Inside 0 (Event.Fail 1 false)
    ∷ SiteEvent.Inside 0 (Event.GiveUp 1 false)
    ∷ []

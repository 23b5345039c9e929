-- What events say of the site machine, and why one may be refused (this profile's own).
use Rattle.std.specs.Prelude.{List, map}
use Rattle.std.specs.Arc.{arc_value}
use Rattle.sy_board.specs.relay.Boards.{is_no_memory}
use Rattle.sy_board.specs.relay.Steps as steps
use Rattle.sy_site.specs.machine.States as states
use Rattle.sy_site.specs.machine.Steps.{SiteEvent}
use Rattle.sy_replay.specs.declared.event.Event as declared
use Rattle.sy_replay.specs.declared.event.Event.TheVariants as an
use Rattle.sy_replay.specs.declared.event.RelayEvent.{RelayEvent}
use Rattle.sy_replay.specs.declared.event.RelayEvent.TheVariants as event
use Rattle.sy_replay.specs.declared.event.Cause.{Cause}
use Rattle.sy_replay.specs.declared.event.Cause.TheVariants as cause
use Rattle.sy_replay.specs.declared.event.Loss.{Loss}

-- the relay's step of an event inside it
abbrev pub step_of : RelayEvent → steps.Event
step_of (event.Enter input hand) = steps.Event.Enter input hand
step_of (event.Expire input hand) = steps.Event.Expire input hand
step_of (event.Grab worker) = steps.Event.Grab worker
step_of (event.Done worker) = steps.Event.Done worker
step_of (event.Fail worker took) = steps.Event.Fail worker took
step_of (event.GiveUp worker took) = steps.Event.GiveUp worker took
step_of (event.Post worker) = steps.Event.Post worker
step_of (event.PostLost worker why) = steps.Event.PostLost worker (is_no_memory why)

-- the site's step of an event
abbrev pub site_event : declared.Event → SiteEvent
site_event (an.TakeNew relay input hand message) = SiteEvent.TakeNew (record { relay = relay; input = input }) hand (arc_value message)
site_event (an.TakeFrom relay input hand from action place) =
    SiteEvent.TakeFrom (record { relay = relay; input = input }) hand (record { relay = from; action = action }) place
site_event (an.Inside relay inside) = SiteEvent.Inside relay (step_of inside)

abbrev pub cause_of : Cause → steps.Cause
cause_of cause.Take = steps.Cause.Take
cause_of cause.Expire = steps.Cause.Expire
cause_of cause.Grab = steps.Cause.Grab
cause_of (cause.GiveUp action) = steps.Cause.GiveUp action
cause_of (cause.Post list) = steps.Cause.Post list
cause_of (cause.PostLost list) = steps.Cause.PostLost list

abbrev pub loss_of : Loss → states.Loss
loss_of l = record { copy = l.copy; relay = l.relay; list = l.list; cause = cause_of l.cause }

abbrev pub losses_of : List Loss → List states.Loss
losses_of losses = map loss_of losses

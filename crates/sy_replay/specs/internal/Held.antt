-- What a replay holds inside.
use Rattle.sy_site.specs.Sites.{Site}
use Rattle.sy_site.specs.machine.States.{SiteState}
use Rattle.sy_site.specs.machine.Steps.{SiteEvent}
use Rattle.sy_replay.specs.declared.event.Illegal.{Illegal}
use Rattle.sy_replay.specs.declared.replay.Held.{Held}
use Rattle.sy_replay.specs.Events.{losses_of}
use Rattle.sy_replay.specs.States.{Applies, Contents, IsIllegalAt, state_in}
use Rattle.sy_replay.specs.internal.States.{AreOf}

abbrev pub contents_of : Held → Contents
contents_of held = record {
  parts = held.parts.items;
  copies = held.copies.items;
  losses = losses_of held.losses.items;
  arrivals = held.arrivals.items;
}

abbrev pub state_held : Held → SiteState
state_held held = state_in (contents_of held)

-- Each site of these relays makes the step.
abbrev pub Steps : Held → SiteEvent → Held → Type 0
Steps old event new = (site : Site) → AreOf site old.parts.items → Applies site (contents_of old) event (contents_of new)

abbrev pub IsNoStep : Illegal → Held → SiteEvent → Type 0
IsNoStep why old event = (site : Site) → AreOf site old.parts.items → IsIllegalAt why site (contents_of old) event

-- What an object by itself says of queues and actions.
use Rattle.std.specs.Prelude.{Bool, true, false, Option, Some, None}
use Rattle.sy_rules.specs.declared.parameters.kind.Kind.{Kind}
use Rattle.sy_rules.specs.declared.parameters.kind.Kind.TheVariants as kind
use Rattle.sy_rules.specs.declared.parameters.settings.QueueParameters.{QueueParameters}
use Rattle.sy_rules.specs.parameters.Objects.{AreInRange}

-- ---- queues

-- the kinds of objects that may have a queue
abbrev pub takes_queue : Kind → Bool
takes_queue kind.MainQueue = true
takes_queue kind.Ruleset = true
takes_queue kind.Action = true
takes_queue kind.Archive = true
takes_queue kind.Forward = true
takes_queue _ = false

abbrev pub IsQueueInRange : Option QueueParameters → Type 0
IsQueueInRange None = Unit {0}
IsQueueInRange (Some q) = AreInRange q

abbrev pub is_action : Kind → Bool
is_action kind.Action = true
is_action kind.Archive = true
is_action kind.Forward = true
is_action _ = false

-- Sites of which no queue discards messages.
use Rattle.std.specs.Prelude.{◌≡◌, ℕ, ◌<◌, ◌&&◌, ◌⊎◌, Bool, nat_lt}
use Rattle.sy_wire.specs.declared.class.Class.{Class}
use Rattle.sy_rules.specs.declared.parameters.settings.QueueParameters.{QueueParameters}
use Rattle.sy_board.specs.relay.Kinds.{MayDiscard}
use Rattle.sy_site.specs.Sites.{Site, plan_at}

-- It discards messages of some severity at some mark.
abbrev pub discards : QueueParameters → Bool
discards queue = nat_lt queue.discard_severity 8 && nat_lt 0 queue.discard_mark

-- no queue of the site discards a message of any class
abbrev pub DiscardsNone : Site → Type 0
DiscardsNone site = (relay queue : ℕ) (class : Class) → class.severity < 8 → MayDiscard (plan_at site relay) class queue → ⊥

-- What was found clean for the class is clean for all up to this severity: its own, or the greatest where no queue discards.
abbrev pub IsCleanUpTo : Site → Class → ℕ → Type 0
IsCleanUpTo site class severity = (severity ≡ class.severity) ⊎ ((severity ≡ 7) × DiscardsNone site)

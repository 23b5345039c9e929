-- What the parts of a search for findings say.
use Rattle.std.specs.Prelude.{ℕ}
use Rattle.sy_rules.specs.declared.parameters.settings.QueueParameters.{QueueParameters}
use Rattle.sy_board.specs.relay.Feeders as feeders
use Rattle.sy_board.specs.relay.Kinds as kinds
use Rattle.sy_site.specs.Sites.{Site, SiteInput, plan_at}

-- ---- kinds 1 to 7, and 10: what may be wrong at one input

-- the parameters of the input's queue
abbrev pub queue_of : Site → SiteInput → QueueParameters
queue_of site input = kinds.queue_of (plan_at site input.relay) input.input

-- some feeder of the queue, of any class, isn't a full-delay feeder
abbrev pub IsFedFreely : Site → ℕ → ℕ → Type 0
IsFedFreely site relay queue = feeders.IsFedFreely (plan_at site relay) queue

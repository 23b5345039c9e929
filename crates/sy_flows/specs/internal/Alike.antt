-- Classes that execute the same.
use Rattle.std.specs.Prelude.{◌≡◌, ℕ, ◌↔◌, true}
use Rattle.sy_wire.specs.declared.class.Class.{Class}
use Rattle.sy_rules.specs.declared.lists.occurrence.Occurrence.{Occurrence}
use Rattle.sy_site.specs.Sites.{Site, plan_at}
use Rattle.sy_flows.specs.declared.flows.executed.Executed.{Executed}
use Rattle.sy_flows.specs.Flows.{Does, is_used}

-- Messages of both classes execute the same of each list that they may come to.
abbrev pub AreAlike : Site → Class → Class → Type 0
AreAlike site one other = (which : Executed) (relay list number : ℕ) (is : Occurrence) → is_used (plan_at site relay) list ≡ true
    → Does site one which relay list number is ↔ Does site other which relay list number is

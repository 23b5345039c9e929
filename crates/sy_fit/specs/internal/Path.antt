-- What one step of a path says.
use Rattle.std.specs.Prelude.{ℕ, Option, Some, None}
use Rattle.sy_wire.specs.declared.class.Class.{Class}
use Rattle.sy_site.specs.Sites.{Site}
use Rattle.sy_flows.specs.declared.lists.InnerList.{InnerList}
use Rattle.sy_flows.specs.Leads.{MustLead}

-- where it leads; none where it doesn't
abbrev pub IsMustLead : Site → Class → InnerList → ℕ → Option InnerList → Type 0
IsMustLead site class from number (Some to) = MustLead site class from number to
IsMustLead site class from number None = (to : InnerList) → MustLead site class from number to → ⊥

-- Which actions hold up protected messages: all of them, and no other.
use Rattle.std.specs.Prelude.{◌≡◌, ℕ, ◌↔◌, Contains, List, map}
use Rattle.sy_site.specs.Sites.{Site}
use Rattle.sy_warnings.specs.declared.holders.Holder.{Holder}
use Rattle.sy_warnings.specs.declared.holders.Holding.{Holding}
use Rattle.sy_warnings.specs.declared.holders.Holding.TheVariants as holding
use Rattle.sy_warnings.specs.Holding.{IsBottleneck, IsSharedWorker}

-- what is said: of which relay, of which action, and how it holds up protected messages
abbrev pub says : Holder → ℕ × ℕ × Holding
says holder = (holder.relay, holder.action, holder.holding)

-- the action holds them up so
abbrev pub Holds : Site → ℕ → ℕ → Holding → Type 0
Holds site relay action holding.SharedWorker = IsSharedWorker site relay action
Holds site relay action holding.Bottleneck = IsBottleneck site relay action

abbrev pub AreHolders : Site → List Holder → Type 0
AreHolders site found = (relay action : ℕ) (how : Holding) → Contains (map says found) (relay, action, how) ↔ Holds site relay action how

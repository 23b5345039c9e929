-- How the list of actions grows that hold up protected messages.
use Rattle.std.specs.Prelude.{◌≡◌, ℕ, ◌<◌, ◌↔◌, ◌⊎◌, Contains, List, map}
use Rattle.sy_site.specs.Sites.{Site}
use Rattle.sy_warnings.specs.declared.holders.Holder.{Holder}
use Rattle.sy_warnings.specs.declared.holders.Holding.{Holding}
use Rattle.sy_warnings.specs.Holders.{Holds, says}

abbrev pub Says : List Holder → ℕ → ℕ → Holding → Type 0
Says found relay action how = Contains (map says found) (relay, action, how)

-- that the action holds up protected messages so is put behind the others, where it does
pub record Adds (site : Site) (relay action : ℕ) (how : Holding) (old new : List Holder) : Type 0 where
  pub kept : (r a : ℕ) (h : Holding) → Says old r a h → Says new r a h
  pub has : Holds site relay action how → Says new relay action how
  pub only : (r a : ℕ) (h : Holding) → Says new r a h → Says old r a h ⊎ Holds site r a h

-- those of the relays below one, and of its actions below one
pub record AreHoldersBelow (site : Site) (relay action : ℕ) (found : List Holder) : Type 0 where
  pub sound : (r a : ℕ) (h : Holding) → Says found r a h → Holds site r a h
  pub whole : (r a : ℕ) (h : Holding) → (r < relay) ⊎ ((r ≡ relay) × (a < action)) → Holds site r a h → Says found r a h

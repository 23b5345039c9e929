-- What a site must keep so that no message of a protected class is lost but at or after a spare action, and which losses a relay guards against
-- (this profile's own).
use Rattle.std.specs.Prelude.{◌≡◌, ℕ, ◌<◌, true}
use Rattle.std.specs.List.{Contains}
use Rattle.sy_wire.specs.declared.class.Class.{Class}
use Rattle.sy_board.specs.relay.Spares.{Scope}
use Rattle.sy_site.specs.Sites.{Site, SiteInput, SiteAction, archives, is_protected}
use Rattle.sy_site.specs.machine.Findings.{HoldsAt, Kind}
use Rattle.sy_site.specs.machine.Reach.{LeadsTo, Reach, Reaches, list_of}

-- Ranks: a number for each relay, so that what an occurrence of a reached input's list reaches, by spare ones too, is at a relay of a smaller one.
pub record AreRanks (site : Site) (class : Class) (rank : ℕ → ℕ) : Type 0 where
  pub falls : (from to : SiteInput) (number : ℕ) → Reach site class Scope.Every from
      → Reaches site class Scope.Every from.relay (list_of site from) number to → rank to.relay < rank from.relay

-- Sound for one class: at no input that is reached without spare occurrences one of the kinds 1 to 7 or 10 holds, there are ranks, and each entry leads
-- to each archive that is named.
pub record IsSoundFor (site : Site) (class : Class) : Type 0 where
  pub clean : (input : SiteInput) → Reach site class Scope.Firm input → (kind : Kind) → HoldsAt site class input kind → ⊥
  pub rank : ℕ → ℕ
  pub ranks : AreRanks site class rank
  pub leads : (input : SiteInput) → Contains site.entries input → (archive : SiteAction) → Contains (archives site class) archive
      → LeadsTo site class archive input

abbrev pub IsSound : Site → Type 0
IsSound site = (class : Class) → is_protected site class ≡ true → IsSoundFor site class

-- The pairs of an input and a class whose losses a relay guards against: the class is protected, and reaches the input without spare occurrences.
pub record IsGuarded (site : Site) (relay input : ℕ) (class : Class) : Type 0 where
  pub protected : is_protected site class ≡ true
  pub reached : Reach site class Scope.Firm (record { relay = relay; input = input })

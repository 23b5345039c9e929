-- Spare actions' own lists, and what is reached with spare occurrences and without.
use Rattle.std.proofs.Common.{◌≡◌, ℕ, Bool, true, false, refl, Some}
use Rattle.std.specs.Prelude.{◌||◌}
use Rattle.sy_wire.specs.declared.class.Class.{Class}
use Rattle.sy_rules.specs.declared.lists.occurrence.Occurrence.{Occurrence}
use Rattle.sy_rules.specs.declared.lists.occurrence.Occurrence.TheVariants as occurrence
use Rattle.sy_board.specs.relay.Spares.{Scope, own, posted}
use Rattle.sy_board.proofs.relay.Spares as spares
use Rattle.sy_board.proofs.relay.Spares.{own_is_spare}
use Rattle.sy_site.specs.Sites.{Site, SiteInput, does_spare, is_spare_list, plan_at, spares_at}
use Rattle.sy_site.specs.machine.Reach.{Follows, MayDo, Reach, Reaches, entry, forwards, list_of, occurrence_at, onward, posts}

-- ---- flags

pub neither : (a b : Bool) → a || b ≡ false → (a ≡ false) × (b ≡ false)
neither true b e = absurd (cc)
neither false b e = (refl, e)

pub both_false : (a b : Bool) → a ≡ false → b ≡ false → a || b ≡ false
both_false true b e f = absurd (cc)
both_false false b e f = f

-- ---- a spare action's own list

-- it has nothing but the spare action
pub spares_all : (site : Site) (relay list k : ℕ) (is : Occurrence) → is_spare_list site relay list ≡ true → occurrence_at site relay list k ≡ Some is
    → does_spare site relay is ≡ true
spares_all site relay = own_is_spare (plan_at site relay) (spares_at site relay)

-- so a list with an occurrence that isn't spare is none
pub firm_list : (site : Site) (relay list k : ℕ) (is : Occurrence) → occurrence_at site relay list k ≡ Some is → does_spare site relay is ≡ false
    → is_spare_list site relay list ≡ false
firm_list site relay = spares.firm_list (plan_at site relay) (spares_at site relay)

-- ---- what is reached

module _ (site : Site) (class : Class) where
  -- what a list reaches that messages follow from an input on, an occurrence of the input's list reaches
  pub reaches_from : (scope : Scope) (input : SiteInput) (list : ℕ) → Follows site class scope input list → (number : ℕ) (to : SiteInput)
      → Reaches site class scope input.relay list number to → (first : ℕ) × Reaches site class scope input.relay (list_of site input) first to
  reaches_from scope input list own number to r = (number, r)
  reaches_from scope input list (posted {list = before} at follows does) number to r =
      reaches_from scope input before follows at to (posts at list number does r)

  pub goes_on : (scope : Scope) (input : SiteInput) (list : ℕ) → Reach site class scope input → Follows site class scope input list
      → (number : ℕ) (to : SiteInput) → Reaches site class scope input.relay list number to → Reach site class scope to
  goes_on scope input list reach follows number to r =
      let first = reaches_from scope input list follows number to r in onward first.0 reach first.1

  -- by every occurrence at least what is reached by those that aren't spare
  pub may_every : (relay list number : ℕ) (is : Occurrence) → MayDo site class Scope.Firm relay list number is
      → MayDo site class Scope.Every relay list number is
  may_every relay list number is m = record { may = m.may; found = m.found; in_scope = tt }

  pub reaches_every : (relay list number : ℕ) (to : SiteInput) → Reaches site class Scope.Firm relay list number to
      → Reaches site class Scope.Every relay list number to
  reaches_every relay list number to (forwards at action does leads) = forwards at action (may_every relay list at (occurrence.Run action) does) leads
  reaches_every relay list number to (posts at inner next does r) =
      posts at inner next (may_every relay list at (occurrence.Post inner) does) (reaches_every relay inner next to r)

  pub reach_every : (input : SiteInput) → Reach site class Scope.Firm input → Reach site class Scope.Every input
  reach_every input (entry is) = entry is
  reach_every input (onward {from} number before r) =
      onward number (reach_every from before) (reaches_every from.relay (list_of site from) number input r)

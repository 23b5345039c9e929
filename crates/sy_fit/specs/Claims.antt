-- What is claimed of an accepted site beside safe, each claim by itself, of every run of the site (this profile's own).
use Rattle.std.specs.Prelude.{◌≡◌, ℕ, List, true}
use Rattle.sy_wire.specs.declared.class.Class.{Class}
use Rattle.sy_site.specs.Sites.{Site, is_protected}
use Rattle.sy_site.specs.machine.Confinement.{AreConfined, RanksFall}
use Rattle.sy_site.specs.machine.Safety.{AreWrittenOrHead}
use Rattle.sy_site.specs.machine.Soundness.{AreRanks}
use Rattle.sy_site.specs.machine.States.{SiteState}
use Rattle.sy_site.specs.machine.Steps.{Runs, SiteEvent}

-- Confinement, of the copies of each protected class that came in at entries, but for those that spare actions made. They are held at inputs that the
-- class reaches without spare occurrences, are on no link but to such an input, and none is lost but by a spare occurrence.
abbrev pub StayConfined : Site → Type 0
StayConfined site = (class : Class) → is_protected site class ≡ true → (events : List SiteEvent) (state : SiteState)
    → Runs site events state → AreConfined site class state

-- Falling ranks: along the trails of these copies any ranks of their class fall. A sound site has ranks of each protected class.
abbrev pub RanksStayFalling : Site → Type 0
RanksStayFalling site = (class : Class) → is_protected site class ≡ true → (rank : ℕ → ℕ) → AreRanks site class rank
    → (events : List SiteEvent) (state : SiteState) → Runs site events state → RanksFall site class rank state

-- Written or heading there: each message of a protected class that came from outside at an entry is written to each archive that is named for its
-- class, or held where it heads there.
abbrev pub StayWrittenOrHead : Site → Type 0
StayWrittenOrHead site = (events : List SiteEvent) (state : SiteState) → Runs site events state → AreWrittenOrHead site state

-- What the functions say that look for a loop of a class, and give ranks where there is none.
use Rattle.std.specs.Prelude.{◌==◌, [], ◌≡◌, ℕ, ◌<◌, ◌≤◌, ◌+◌, ◌⊎◌, Contains, List, ◌∷◌, get_or, length, map}
use Rattle.std.specs.List.{IsDistinct}
use Rattle.sy_wire.specs.declared.class.Class.{Class}
use Rattle.sy_board.specs.relay.Spares.{Scope}
use Rattle.sy_site.specs.declared.site.SiteInput.{SiteInput}
use Rattle.sy_site.specs.Sites.{Site}
use Rattle.sy_site.specs.machine.Findings.{IsChain, IsLoop, first_is_entry}
use Rattle.sy_site.specs.machine.Findings as findings
use Rattle.sy_site.specs.machine.Reach.{Reach}
use Rattle.sy_flows.specs.declared.flows.Hop.{Hop}
use Rattle.sy_site.specs.declared.finding.WayRow.{WayRow}
use Rattle.sy_checker.specs.declared.reach.loops.Halt.{Halt}
use Rattle.sy_checker.specs.declared.reach.loops.Halt.TheVariants as halt
use Rattle.sy_checker.specs.declared.reach.loops.Unranked.{Unranked}
use Rattle.sy_checker.specs.declared.reach.loops.Unranked.TheVariants as unranked
use Rattle.sy_flows.specs.Members.{same_input}
use Rattle.sy_fit.specs.internal.Ranked.{GoesOn}

-- ---- ways

-- a way as it is found, of which loops are told
abbrev pub way_of : List WayRow → List findings.WayRow
way_of rows = map (λ row. record { input = row.input; number = row.number }) rows

-- the relays that lead on by it
abbrev pub relays_of : List findings.WayRow → List ℕ
relays_of way = map (λ row. row.input.relay) way

-- It leads from an entry to the input's relay; without rows the input is an entry.
abbrev pub IsLed : Site → Class → List findings.WayRow → SiteInput → Type 0
IsLed site class [] input = Contains site.entries input
IsLed site class (row ∷ way) input =
    first_is_entry site (row ∷ way) × (end : SiteInput) × IsChain site class (row ∷ way) end × (end.relay ≡ input.relay)

-- and meets no relay twice
pub record IsTrail (site : Site) (class : Class) (way : List findings.WayRow) (input : SiteInput) : Type 0 where
  pub led : IsLed site class way input
  pub distinct : IsDistinct ◌==◌ (relays_of way)
  pub there : (relay : ℕ) → Contains (relays_of way) relay → relay < length site.relays
  pub new : Contains (relays_of way) input.relay → ⊥

-- the relay is on the way, or is the input's
abbrev pub IsMet : List findings.WayRow → SiteInput → ℕ → Type 0
IsMet way input relay = Contains (relays_of way) relay ⊎ (relay ≡ input.relay)

-- ---- how many hops follow one another

-- So many follow one another from the relay, of those of reached inputs.
pub data Follow (site : Site) (class : Class) : ℕ → ℕ → Type 0 where
  ends : {relay : ℕ} → Follow site class relay 0
  goes_on : {from to : SiteInput} (number n : ℕ) → Reach site class Scope.Every from → GoesOn site class from number to
      → Follow site class to.relay n → Follow site class from.relay (n + 1)

-- the greatest number that do
abbrev pub IsMost : Site → Class → ℕ → ℕ → Type 0
IsMost site class relay n = Follow site class relay n × ((m : ℕ) → Follow site class relay m → m ≤ n)

-- ---- ranks so far

-- the rank of a relay, by number
abbrev pub rank_at : List ℕ → ℕ → ℕ
rank_at ranks relay = get_or ranks relay 0

-- each reached input of the relay is done
abbrev pub IsDone : Site → Class → List SiteInput → ℕ → Type 0
IsDone site class done relay = (input : SiteInput) → input.relay ≡ relay → Reach site class Scope.Every input → Contains done input

-- The rank of a relay is one more than that of a relay which an input of it reaches that is done.
pub record IsOneMore (site : Site) (class : Class) (done : List SiteInput) (ranks : List ℕ) (relay : ℕ) : Type 0 where
  pub from : SiteInput
  pub to : SiteInput
  pub number : ℕ
  pub is_done : Contains done from
  pub is_its : from.relay ≡ relay
  pub goes : GoesOn site class from number to
  pub more : rank_at ranks relay ≡ rank_at ranks to.relay + 1

-- or it is 0
abbrev pub IsLeast : Site → Class → List SiteInput → List ℕ → ℕ → Type 0
IsLeast site class done ranks relay = (rank_at ranks relay ≡ 0) ⊎ IsOneMore site class done ranks relay

-- What each input that is done reaches is at relays with all inputs done, and of a smaller rank.
pub record AreRanked (site : Site) (class : Class) (done : List SiteInput) (settled ranks : List ℕ) : Type 0 where
  pub reached : (input : SiteInput) → Contains done input → Reach site class Scope.Every input
  pub distinct : IsDistinct same_input done
  pub all_done : (relay : ℕ) → Contains settled relay → IsDone site class done relay
  pub onward : (from to : SiteInput) (number : ℕ) → Contains done from → GoesOn site class from number to → IsDone site class done to.relay
  pub falls : (from to : SiteInput) (number : ℕ) → Contains done from → GoesOn site class from number to
      → rank_at ranks to.relay < rank_at ranks from.relay
  pub least : (relay : ℕ) → IsLeast site class done ranks relay
  pub small : (relay : ℕ) → rank_at ranks relay ≤ length done
  pub many : length ranks ≡ length site.relays

-- Nothing is undone, and what is newly done is at none of these relays.
pub record DoesMore (AreLeft : ℕ → Type 0) (old new : List SiteInput) : Type 0 where
  pub kept : (input : SiteInput) → Contains old input → Contains new input
  pub only : (input : SiteInput) → Contains new input → Contains old input ⊎ (AreLeft input.relay → ⊥)

-- where each of these hops leads, all is done
abbrev pub AreFollowed : Site → Class → List SiteInput → List Hop → Type 0
AreFollowed site class done hops = (hop : Hop) → Contains hops hop → IsDone site class done hop.to.relay

-- ---- the rank that an input asks for

-- one more than the greatest of where these hops lead, 0 where there are none
pub record IsHeightOf (ranks : List ℕ) (hops : List Hop) (height : ℕ) : Type 0 where
  pub above : (hop : Hop) → Contains hops hop → rank_at ranks hop.to.relay < height
  pub least : (height ≡ 0) ⊎ ((hop : Hop) × Contains hops hop × (height ≡ rank_at ranks hop.to.relay + 1))

-- of where the input's list leads
pub record IsHeight (site : Site) (class : Class) (ranks : List ℕ) (from : SiteInput) (height : ℕ) : Type 0 where
  pub above : (to : SiteInput) (number : ℕ) → GoesOn site class from number to → rank_at ranks to.relay < height
  pub least : (height ≡ 0)
      ⊎ ((to : SiteInput) × (number : ℕ) × GoesOn site class from number to × (height ≡ rank_at ranks to.relay + 1))

-- ---- why the search ends

abbrev pub IsHalted : Site → Class → List findings.WayRow → Halt → Type 0
IsHalted site class way halt.NoMemory = Unit {0}
IsHalted site class way (halt.Loop end) = IsLoop site class way end

abbrev pub HasNoRanks : Site → Class → Unranked → Type 0
HasNoRanks site class unranked.NoMemory = Unit {0}
HasNoRanks site class (unranked.Loop way end) = IsLoop site class (way_of way.items) end

-- What the private functions say that compare ranks.
use Rattle.std.specs.Prelude.{◌≡◌, ℕ, ◌<◌, ◌==◌, List, Bool, false, if◌then◌else◌, Option, Some, None, slice_get}
use Rattle.sy_wire.specs.declared.class.Class.{Class}
use Rattle.sy_site.specs.declared.site.SiteInput.{SiteInput}
use Rattle.sy_site.specs.Sites.{Site}
use Rattle.sy_site.specs.machine.Reach.{Reach}
use Rattle.sy_flows.specs.declared.flows.executed.Executed.TheVariants as executed
use Rattle.sy_flows.specs.Hops.{LeadsBy}
use Rattle.std.specs.Str.{bytes_eq}
use Rattle.sy_site.specs.machine.Lawful.{IsInput}
use Rattle.sy_cert.specs.declared.row.Row.{Row}
use Rattle.sy_cert.specs.declared.row.Row.TheVariants as row
use Rattle.sy_fit.specs.Fit.{HasRank}
use Rattle.sy_site.specs.Names.{name_of}
use Rattle.sy_fit.specs.declared.rows.wanted.Wanted.{Wanted}
use Rattle.sy_fit.specs.declared.rows.wanted.Wanted.TheVariants as wanted

abbrev pub rank_in : Site → ℕ → Row → Option ℕ
rank_in site relay (row.Rank name rank) = if bytes_eq name (name_of site relay) then Some rank else None
rank_in site relay (row.Class class) = None
rank_in site relay (row.Reach name port) = None
rank_in site relay (row.Branch name port) = None
rank_in site relay (row.Inner name list number) = None
rank_in site relay (row.Path name port archive_relay action occurrences) = None

abbrev pub is_rank_of : ℕ → Wanted → Bool
is_rank_of relay (wanted.Rank of) = of == relay
is_rank_of relay (wanted.Class class) = false
is_rank_of relay (wanted.Reach input) = false
is_rank_of relay (wanted.Branch input) = false
is_rank_of relay (wanted.Inner inner) = false
is_rank_of relay (wanted.Path entry archive) = false

abbrev pub rank_at : Site → ℕ → Option Wanted → Option Row → Option ℕ
rank_at site relay None r = None
rank_at site relay (Some is) None = None
rank_at site relay (Some is) (Some r) = if is_rank_of relay is then rank_in site relay r else None

-- In the order of a class's rows this one stands before the rank row of the relay.
abbrev pub IsBeforeRank : ℕ → Wanted → Type 0
IsBeforeRank relay (wanted.Class class) = Unit {0}
IsBeforeRank relay (wanted.Reach input) = Unit {0}
IsBeforeRank relay (wanted.Branch input) = Unit {0}
IsBeforeRank relay (wanted.Rank of) = of < relay
IsBeforeRank relay (wanted.Inner inner) = ⊥
IsBeforeRank relay (wanted.Path entry archive) = ⊥

abbrev pub IsBeforeRankAt : ℕ → Option Wanted → Type 0
IsBeforeRankAt relay None = ⊥
IsBeforeRankAt relay (Some is) = IsBeforeRank relay is

-- the relay's rank is below, where its row stands at this place
abbrev pub IsBelowAt : Site → List Wanted → List Row → ℕ → ℕ → ℕ → Type 0
IsBelowAt site part rows relay rank place = (below : ℕ) → rank_at site relay (slice_get part place) (slice_get rows place) ≡ Some below → below < rank

abbrev pub IsBelow : Site → List Wanted → List Row → ℕ → ℕ → Type 0
IsBelow site part rows relay rank = (below : ℕ) → HasRank site part rows relay below → below < rank

-- an occurrence of an input's list reaches the other input, by spare ones too
abbrev pub GoesOn : Site → Class → SiteInput → ℕ → SiteInput → Type 0
GoesOn site class from number to = LeadsBy site class executed.Every from number to

abbrev pub FallsFrom : Site → Class → List Wanted → List Row → ℕ → SiteInput → Type 0
FallsFrom site class part rows rank from =
    (to : SiteInput) (number : ℕ) → GoesOn site class from number to → IsBelow site part rows to.relay rank

-- the input that a wanted row is about
abbrev pub input_in : Wanted → Option SiteInput
input_in (wanted.Class class) = None
input_in (wanted.Reach input) = Some input
input_in (wanted.Branch input) = Some input
input_in (wanted.Rank of) = None
input_in (wanted.Inner inner) = None
input_in (wanted.Path entry archive) = None

-- of the input of a wanted row, where it is one of the relay
abbrev pub FallsAt : Site → Class → List Wanted → List Row → ℕ → ℕ → Wanted → Type 0
FallsAt site class part rows relay rank is =
    (from : SiteInput) → input_in is ≡ Some from → from.relay ≡ relay → FallsFrom site class part rows rank from

abbrev pub IsInputThere : Site → Wanted → Type 0
IsInputThere site is = (from : SiteInput) → input_in is ≡ Some from → IsInput site from

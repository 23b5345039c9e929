-- When a certificate is fit for a site: its rows are the wanted ones, in their order, and each of them holds. For each protected class, by rising
-- number, these are wanted: the class, each input that it reaches without spare occurrences, each other one that it reaches, each relay with a reached
-- input, each list that posts lead to from the first ones, and the way from each entry to each archive that is named for the class. The certificate is
-- this profile's own.
use Rattle.std.specs.Prelude.{[], ◌≡◌, ℕ, ◌<◌, ◌+◌, ◌*◌, ◌↔◌, ◌⊎◌, AllPairs, Contains, List, ◌∷◌, ◌++◌, Some, drop, flat_map, length, map, slice_get, true}
use Rattle.sy_wire.specs.declared.class.Class.{Class}
use Rattle.sy_rules.specs.declared.lists.occurrence.Occurrence.TheVariants as occurrence
use Rattle.sy_board.specs.relay.Spares.{Scope}
use Rattle.sy_site.specs.declared.site.SiteAction.{SiteAction}
use Rattle.sy_site.specs.declared.site.SiteInput.{SiteInput}
use Rattle.sy_site.specs.Sites.{Site, archives, is_protected}
use Rattle.sy_site.specs.machine.Findings.{HoldsAt, Kind}
use Rattle.sy_site.specs.machine.Reach.{MayDo, MustDo, PostsOn, Reach, Reaches, list_of}
use Rattle.sy_site.specs.Names.{name_of, port_of, action_name}
use Rattle.sy_cert.specs.declared.row.Row.{Row}
use Rattle.sy_cert.specs.declared.row.Row.TheVariants as row
use Rattle.sy_cert.specs.CertificateValue.{Certificate}
use Rattle.sy_flows.specs.Hops.{MustForward}
use Rattle.sy_fit.specs.declared.rows.wanted.RowKind.{RowKind}
use Rattle.sy_fit.specs.declared.rows.wanted.RowKind.TheVariants as kinds
use Rattle.sy_flows.specs.declared.lists.InnerList.{InnerList}
use Rattle.sy_fit.specs.declared.rows.wanted.Wanted.{Wanted}
use Rattle.sy_fit.specs.declared.rows.wanted.Wanted.TheVariants as wanted
use Rattle.sy_flows.specs.Leads.{MustWrite}

-- ---- what is wanted

-- all of these, and nothing else, each before the later ones
pub record ListsAll {A : Type 0} (P : A → Type 0) (IsBefore : A → A → Type 0) (xs : List A) : Type 0 where
  pub member : (x : A) → Contains xs x ↔ P x
  pub ordered : AllPairs IsBefore xs

-- relays in the order of the site, inputs in that of the plan
abbrev pub StandsBefore : SiteInput → SiteInput → Type 0
StandsBefore a b = (a.relay < b.relay) ⊎ ((a.relay ≡ b.relay) × (a.input < b.input))

-- only spare occurrences lead to the input
pub record IsBranch (site : Site) (class : Class) (input : SiteInput) : Type 0 where
  pub reached : Reach site class Scope.Every input
  pub rest : Reach site class Scope.Firm input → ⊥

-- some input of the relay is reached
abbrev pub IsReached : Site → Class → ℕ → Type 0
IsReached site class relay = (input : ℕ) × Reach site class Scope.Every (record { relay = relay; input = input })

-- Posts that aren't spare lead messages of the class to the list, one or more of them, from the list of an input that is reached without spare
-- occurrences.
pub record IsInner (site : Site) (class : Class) (inner : InnerList) : Type 0 where
  pub input : SiteInput
  pub at : input.relay ≡ inner.relay
  pub reached : Reach site class Scope.Firm input
  pub posted : PostsOn site class Scope.Firm inner.relay (list_of site input) inner.list

-- relays in the order of the site, lists in that of the plan
abbrev pub ComesBefore : InnerList → InnerList → Type 0
ComesBefore a b = (a.relay < b.relay) ⊎ ((a.relay ≡ b.relay) × (a.list < b.list))

-- a way from each entry to each archive, both in the order of the file
abbrev pub paths : Site → Class → List Wanted
paths site class = flat_map (λ entry. map (λ archive. wanted.Path entry archive) (archives site class)) site.entries

-- the wanted rows of a class
pub record AreWanted (site : Site) (class : Class) (part : List Wanted) : Type 0 where
  pub inputs : List SiteInput
  pub inputs_reached : ListsAll (Reach site class Scope.Firm) StandsBefore inputs
  pub branches : List SiteInput
  pub branches_reached : ListsAll (IsBranch site class) StandsBefore branches
  pub relays : List ℕ
  pub relays_reached : ListsAll (IsReached site class) ◌<◌ relays
  pub inners : List InnerList
  pub inners_posted : ListsAll (IsInner site class) ComesBefore inners
  pub whole : part
      ≡ wanted.Class class ∷ (map wanted.Reach inputs ++ (map wanted.Branch branches ++ (map wanted.Rank relays
      ++ (map wanted.Inner inners ++ paths site class))))

-- ---- what holds of a row

-- none of the kinds 1 to 7 is found at the input; that none is met twice of the lists that its messages follow, inner rows show
abbrev pub IsClean : Site → Class → SiteInput → Type 0
IsClean site class input = (kind : Kind) → (kind ≡ Kind.InnerLoop → ⊥) → HoldsAt site class input kind → ⊥

-- The rank row of a relay stands where it is wanted, with this rank.
pub record HasRank (site : Site) (part : List Wanted) (rows : List Row) (relay rank : ℕ) : Type 0 where
  pub place : ℕ
  pub is_wanted : slice_get part place ≡ Some (wanted.Rank relay)
  pub stands : slice_get rows place ≡ Some (row.Rank (name_of site relay) rank)

-- The rank is above that of each relay that occurrences of its reached inputs reach, spare ones too. A relay whose row doesn't stand where it is wanted
-- isn't compared.
abbrev pub IsAbove : Site → Class → List Wanted → List Row → ℕ → ℕ → Type 0
IsAbove site class part rows relay rank = (from to : SiteInput) (number below : ℕ) → from.relay ≡ relay → Reach site class Scope.Every from
    → Reaches site class Scope.Every from.relay (list_of site from) number to → HasRank site part rows to.relay below → below < rank

-- The inner row of a list stands where it is wanted, with this number.
pub record HasNumber (site : Site) (part : List Wanted) (rows : List Row) (inner : InnerList) (number : ℕ) : Type 0 where
  pub place : ℕ
  pub is_wanted : slice_get part place ≡ Some (wanted.Inner inner)
  pub stands : slice_get rows place ≡ Some (row.Inner (name_of site inner.relay) inner.list number)

-- The number is above that of each list that posts of this one, which may be executed and aren't spare, lead to. A list whose row doesn't stand where it
-- is wanted isn't compared.
abbrev pub IsNumbered : Site → Class → List Wanted → List Row → InnerList → ℕ → Type 0
IsNumbered site class part rows inner number = (post to below : ℕ)
    → MayDo site class Scope.Firm inner.relay inner.list post (occurrence.Post to)
    → HasNumber site part rows (record { relay = inner.relay; list = to }) below → below < number

-- Each occurrence must be executed in the list where the path stands, and isn't spare: a post leads on to its list, a forward to the list of the input
-- that it leads to. In the last list the archive must be written.
abbrev pub IsPath : Site → Class → SiteAction → (relay list : ℕ) → List ℕ → Type 0
IsPath site class archive relay list [] = MustWrite site class archive relay list
IsPath site class archive relay list (number ∷ later) =
    ((inner : ℕ) × MustDo site class relay list number (occurrence.Post inner) × IsPath site class archive relay inner later)
    ⊎ ((to : SiteInput) × MustForward site class relay list number to × IsPath site class archive to.relay (list_of site to) later)

abbrev pub IsClassRow : Class → Row → Type 0
IsClassRow class (row.Class given) = given ≡ class
IsClassRow class _ = ⊥

abbrev pub IsReachRow : Site → Class → SiteInput → Row → Type 0
IsReachRow site class input (row.Reach relay port) = (relay ≡ name_of site input.relay) × (port ≡ port_of site input) × IsClean site class input
IsReachRow site class input _ = ⊥

-- Nothing is asked of an input that only spare occurrences lead to.
abbrev pub IsBranchRow : Site → SiteInput → Row → Type 0
IsBranchRow site input (row.Branch relay port) = (relay ≡ name_of site input.relay) × (port ≡ port_of site input)
IsBranchRow site input _ = ⊥

abbrev pub IsRankRow : Site → Class → List Wanted → List Row → ℕ → Row → Type 0
IsRankRow site class part rows of (row.Rank relay rank) = (relay ≡ name_of site of) × IsAbove site class part rows of rank
IsRankRow site class part rows of _ = ⊥

abbrev pub IsInnerRow : Site → Class → List Wanted → List Row → InnerList → Row → Type 0
IsInnerRow site class part rows inner (row.Inner relay list number) =
    (relay ≡ name_of site inner.relay) × (list ≡ inner.list) × IsNumbered site class part rows inner number
IsInnerRow site class part rows inner _ = ⊥

abbrev pub IsPathRow : Site → Class → SiteInput → SiteAction → Row → Type 0
IsPathRow site class entry archive (row.Path relay port archive_relay action occurrences) =
    (relay ≡ name_of site entry.relay) × (port ≡ port_of site entry) × (archive_relay ≡ name_of site archive.relay)
    × (action ≡ action_name site archive) × IsPath site class archive entry.relay (list_of site entry) occurrences
IsPathRow site class entry archive _ = ⊥

-- A row is the wanted one, and holds.
abbrev pub IsRight : Site → Class → List Wanted → List Row → Wanted → Row → Type 0
IsRight site class part rows (wanted.Class c) r = IsClassRow c r
IsRight site class part rows (wanted.Reach input) r = IsReachRow site class input r
IsRight site class part rows (wanted.Branch input) r = IsBranchRow site input r
IsRight site class part rows (wanted.Rank of) r = IsRankRow site class part rows of r
IsRight site class part rows (wanted.Inner inner) r = IsInnerRow site class part rows inner r
IsRight site class part rows (wanted.Path entry archive) r = IsPathRow site class entry archive r

-- ---- fit

-- at this place of the rows stands the wanted one, and it holds
pub record IsRightAt (site : Site) (class : Class) (part : List Wanted) (rows : List Row) (place : ℕ) (is : Wanted) : Type 0 where
  pub stands : Row
  pub there : slice_get rows place ≡ Some stands
  pub right : IsRight site class part rows is stands

abbrev pub AreRight : Site → Class → List Wanted → List Row → Type 0
AreRight site class part rows = (place : ℕ) (is : Wanted) → slice_get part place ≡ Some is → IsRightAt site class part rows place is

-- the rows are those that are wanted for these classes
abbrev pub AreFit : Site → List Class → List Row → Type 0
AreFit site [] rows = rows ≡ []
AreFit site (class ∷ classes) rows = (part : List Wanted) × AreWanted site class part × AreRight site class part rows
    × AreFit site classes (drop (length part) rows)

abbrev pub number_of : Class → ℕ
number_of class = 8 * class.facility + class.severity

-- the protected classes, by rising number
abbrev pub AreProtected : Site → List Class → Type 0
AreProtected site classes = ListsAll (λ class. is_protected site class ≡ true) (λ a b. number_of a < number_of b) classes

pub record IsFit (site : Site) (rows : List Row) : Type 0 where
  pub classes : List Class
  pub protected : AreProtected site classes
  pub fit : AreFit site classes rows

-- The version is the site's policy, and the rows are fit.
pub record IsFitFor (site : Site) (certificate : Certificate) : Type 0 where
  pub version : certificate.version ≡ site.policy
  pub rows : IsFit site certificate.rows

-- ---- the first row that isn't right

abbrev pub wanted_kind : Wanted → RowKind
wanted_kind (wanted.Class class) = kinds.Class
wanted_kind (wanted.Reach input) = kinds.Reach
wanted_kind (wanted.Branch input) = kinds.Branch
wanted_kind (wanted.Rank relay) = kinds.Rank
wanted_kind (wanted.Inner inner) = kinds.Inner
wanted_kind (wanted.Path entry archive) = kinds.Path

abbrev pub row_kind : Row → RowKind
row_kind (row.Class class) = kinds.Class
row_kind (row.Reach relay port) = kinds.Reach
row_kind (row.Branch relay port) = kinds.Branch
row_kind (row.Rank relay rank) = kinds.Rank
row_kind (row.Inner relay list number) = kinds.Inner
row_kind (row.Path relay port archive_relay action occurrences) = kinds.Path

-- At this place the wanted row doesn't stand, or doesn't hold, and each before is right.
pub record IsWrongAt (site : Site) (class : Class) (part : List Wanted) (rows : List Row) (place : ℕ) (kind : RowKind) : Type 0 where
  pub is : Wanted
  pub is_wanted : slice_get part place ≡ Some is
  pub kind_is : kind ≡ wanted_kind is
  pub wrong : IsRightAt site class part rows place is → ⊥
  pub before : (earlier : ℕ) (other : Wanted) → earlier < place → slice_get part earlier ≡ Some other
      → IsRightAt site class part rows earlier other

-- The first wrong row is at this place, and is of this kind: the kind wanted there, or the row's own where none is wanted.
abbrev pub AreWrong : Site → List Class → List Row → ℕ → RowKind → Type 0
AreWrong site [] [] place kind = ⊥
AreWrong site [] (r ∷ rows) place kind = (place ≡ 0) × (kind ≡ row_kind r)
AreWrong site (class ∷ classes) rows place kind = (part : List Wanted) × AreWanted site class part
    × (IsWrongAt site class part rows place kind
    ⊎ (AreRight site class part rows × (later : ℕ) × (place ≡ length part + later) × AreWrong site classes (drop (length part) rows) later kind))

-- The line of the first wrong row, one past the last where rows are missing. The first line has the version.
pub record IsWrongIn (site : Site) (rows : List Row) (line : ℕ) (kind : RowKind) : Type 0 where
  pub classes : List Class
  pub protected : AreProtected site classes
  pub place : ℕ
  pub wrong : AreWrong site classes rows place kind
  pub line_is : line ≡ place + 2

-- Of a certificate the first line is wrong where its version isn't the site's policy, and else the first wrong row's.
abbrev pub IsWrongFor : Site → Certificate → ℕ → RowKind → Type 0
IsWrongFor site certificate line kind =
    ((certificate.version ≡ site.policy → ⊥) × (line ≡ 1) × (kind ≡ kinds.Cert))
    ⊎ ((certificate.version ≡ site.policy) × IsWrongIn site certificate.rows line kind)

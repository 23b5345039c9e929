-- What the functions ensure that read the pieces of a selector. The first argument is always the whole selector.
use Rattle.std.specs.Prelude.{◌≡◌, ℕ, ◌<◌, ◌^◌, ◌&&◌, not, if◌then◌else◌, Bool, false, List, [], ◌∷◌, length, map, slice_index}
use Rattle.std.specs.List.{flat_map, slice_index_or}
use Rattle.sy_select.specs.declared.fault.FaultCode.{FaultCode}
use Rattle.sy_select.specs.declared.severities.Severities.{Severities}
use Rattle.sy_select.specs.Selectors.{Facilities, IsFacilities, AreFacilities, Level, IsLevel, Part, IsPart, has_facility, has_severity, holds, comma, listed}
use Rattle.sy_select.specs.internal.Masks.{has_bit}
use Rattle.sy_select.specs.Faults.{Flaw, facility_faults, facilities_faults, level_faults, part_faults, pieces}

-- these flaws begin with this one
abbrev pub Refuses : List Flaw → FaultCode → List ℕ → Type 0
Refuses faults code word = (later : List Flaw) × (faults ≡ record { code = code; word = word } ∷ later)

abbrev pub at : List Bool → ℕ → Bool
at set f = slice_index_or set f false

-- names of facilities between commas
pub record Lists (whole text : List ℕ) (set : List Bool) : Type 0 where
  pub facilities : List ℕ
  pub is : AreFacilities text facilities
  pub right : flat_map (facility_faults whole) (pieces comma text) ≡ []
  pub same : (f : ℕ) → f < 24 → at set f ≡ has_facility (listed facilities) f

pub record ReadsFacilities (whole text : List ℕ) (set : List Bool) : Type 0 where
  pub facilities : Facilities
  pub is : IsFacilities text facilities
  pub right : facilities_faults whole text ≡ []
  pub same : (f : ℕ) → f < 24 → at set f ≡ has_facility facilities f

pub record ReadsLevel (whole text : List ℕ) (takes : Bool) (mask : ℕ) : Type 0 where
  pub level : Level
  pub is : IsLevel text level
  pub right : level_faults whole text ≡ []
  pub takes_is : takes ≡ level.takes
  pub same : (s : ℕ) → s < 8 → has_bit mask s ≡ has_severity level.which s

pub record ReadsPart (whole text : List ℕ) (set : List Bool) (takes : Bool) (mask : ℕ) : Type 0 where
  pub part : Part
  pub is : IsPart text part
  pub right : part_faults whole text ≡ []
  pub facilities : (f : ℕ) → f < 24 → at set f ≡ has_facility part.facilities f
  pub takes_is : takes ≡ part.level.takes
  pub severities : (s : ℕ) → s < 8 → has_bit mask s ≡ has_severity part.level.which s

-- ---- the severity sets of the 24 facilities

-- the numbers of severity sets
abbrev pub masks : List Severities → List ℕ
masks sets = map (λ x. x.0) sets

-- A part adds the severities of this mask to the sets of the facilities in this table, or takes them away.
pub record Applies (table : List Bool) (takes : Bool) (mask : ℕ) (old new : List ℕ) : Type 0 where
  pub size : length new ≡ 24
  pub small : (f : ℕ) → f < 24 → slice_index old f < 2 ^ 8 → slice_index new f < 2 ^ 8
  pub pairs : (f s : ℕ) → f < 24 → s < 8 → holds new f s ≡ (if at table f && has_bit mask s then not takes else holds old f s)

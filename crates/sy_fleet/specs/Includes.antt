-- Where a text names other files that are read in the place of a statement.
use Rattle.std.specs.Prelude.{◌≡◌, ◌⊎◌, ℕ, ◌+◌, Bool, true, List, Some, codes, slice_get}
use Rattle.std.specs.List.{slice_range}
use Rattle.std.specs.Str.{str_eq_ignore_ascii_case}
use Rattle.sy_fleet_text.specs.declared.piece.Kind.TheVariants as k
use Rattle.sy_fleet_text.specs.declared.piece.Object.TheVariants as object
use Rattle.sy_fleet_text.specs.declared.piece.Piece.{Piece}
use Rattle.sy_fleet.specs.Statements.{EndsBy, ends_by}

-- the name of a directive that includes
abbrev pub name : List ℕ
name = codes "$IncludeConfig"

-- At a place of the text stands the name of a directive that includes, in letters of either case.
abbrev pub names_include : List ℕ → ℕ → Bool
names_include text start = str_eq_ignore_ascii_case name (slice_range text start (start + 14))

-- The bytes from `start` up to `end` are a statement, whole, that may include: an object `include`, or a directive of that name.
pub record IsInclude (text : List ℕ) (pieces : List Piece) (start end : ℕ) : Type 0 where
  pub first : ℕ
  pub begin : Piece
  pub begins : slice_get pieces first ≡ Some begin
  pub includes : (begin.kind ≡ k.Opening object.Include) ⊎ (begin.kind ≡ k.Directive) × (names_include text begin.start ≡ true)
  pub starts : begin.start ≡ start
  pub last : ℕ
  pub finish : Piece
  pub ends : slice_get pieces last ≡ Some finish
  pub whole : EndsBy pieces (ends_by begin.kind) first (last + 1)
  pub is_end : finish.end ≡ end

-- The statements of a text: what becomes of each of its pieces.
use Rattle.std.specs.Prelude.{◌≡◌, ◌≢◌, ◌⊎◌, ℕ, ◌+◌, ◌<◌, ◌≤◌, Bool, true, false, List, [], ◌∷◌, ◌++◌, Option, None, Some, length, slice_get, IfSome, IsSomeAnd}
use Rattle.sy_fleet_text.specs.declared.piece.Kind.{Kind}
use Rattle.sy_fleet_text.specs.declared.piece.Kind.TheVariants as k
use Rattle.sy_fleet_text.specs.declared.piece.Mark.TheVariants as mark
use Rattle.sy_fleet_text.specs.declared.piece.Object.{Object}
use Rattle.sy_fleet_text.specs.declared.piece.Object.TheVariants as object
use Rattle.sy_fleet_text.specs.declared.piece.Piece.{Piece}
use Rattle.sy_fleet_text.specs.declared.piece.Word.{Word}
use Rattle.sy_fleet_text.specs.declared.piece.Word.TheVariants as word
use Rattle.sy_fleet.specs.declared.statements.Sort.{Sort}
use Rattle.sy_fleet.specs.declared.statements.Sort.TheVariants as sort
use Rattle.sy_fleet.specs.declared.statements.Statement.{Statement}

-- ---- sorts

abbrev pub is_layout : Sort → Bool
is_layout sort.Layout = true
is_layout sort.Planned = false
is_layout (sort.Assumed why) = false
is_layout sort.WithoutEffect = false

abbrev pub is_planned : Sort → Bool
is_planned sort.Layout = false
is_planned sort.Planned = true
is_planned (sort.Assumed why) = false
is_planned sort.WithoutEffect = false

abbrev pub is_assumed : Sort → Bool
is_assumed sort.Layout = false
is_assumed sort.Planned = false
is_assumed (sort.Assumed why) = true
is_assumed sort.WithoutEffect = false

abbrev pub is_without_effect : Sort → Bool
is_without_effect sort.Layout = false
is_without_effect sort.Planned = false
is_without_effect (sort.Assumed why) = false
is_without_effect sort.WithoutEffect = true

-- in the plan, or taken for granted
abbrev pub is_counted : Sort → Bool
is_counted sort.Layout = false
is_counted sort.Planned = true
is_counted (sort.Assumed why) = true
is_counted sort.WithoutEffect = false

-- any but that of blanks and comments
abbrev pub is_read : Sort → Bool
is_read sort.Layout = false
is_read sort.Planned = true
is_read (sort.Assumed why) = true
is_read sort.WithoutEffect = true

-- ---- what may become of a statement that begins with a piece

abbrev pub word_may : Word → Sort → Bool
word_may word.If s = is_planned s
word_may word.Then s = is_planned s
word_may word.Else s = is_planned s
word_may word.Foreach s = is_planned s
word_may word.Do s = is_planned s
word_may word.Stop s = is_planned s
word_may word.Call s = is_counted s
word_may word.CallIndirect s = is_assumed s
word_may word.Set s = is_without_effect s
word_may word.Unset s = is_without_effect s
word_may word.Reset s = is_without_effect s
word_may word.Continue s = is_without_effect s

abbrev pub object_may : Object → Sort → Bool
object_may object.Ruleset s = is_planned s
object_may object.MainQueue s = is_planned s
object_may object.Input s = is_counted s
object_may object.Template s = is_assumed s
object_may object.Include s = is_assumed s
object_may object.Parser s = is_assumed s
object_may object.Action s = is_read s
object_may object.Module s = is_read s
object_may object.Global s = is_read s
object_may object.Timezone s = is_without_effect s
object_may object.LookupTable s = is_without_effect s
object_may object.DynStats s = is_without_effect s
object_may object.PercentileStats s = is_without_effect s
object_may object.Property s = is_without_effect s
object_may object.Constant s = is_without_effect s
object_may object.ReloadLookupTable s = is_without_effect s

abbrev pub may_become : Kind → Sort → Bool
may_become k.Blank s = is_layout s
may_become k.Comment s = is_layout s
may_become k.Continuation s = is_layout s
may_become (k.Opening o) s = object_may o s
may_become (k.Word w) s = word_may w s
may_become (k.Mark m) s = is_planned s
may_become k.Selector s = is_planned s
may_become k.Filter s = is_planned s
may_become k.Program s = is_without_effect s
may_become k.Host s = is_without_effect s
may_become k.Users s = is_without_effect s
may_become k.Destination s = is_read s
may_become k.Directive s = is_read s
may_become k.Name s = is_assumed s
may_become k.Quoted s = is_assumed s
may_become k.Bare s = is_assumed s
may_become k.Term s = is_assumed s
may_become k.Variable s = is_assumed s

-- ---- statements

-- the kind of piece that ends a statement which begins so; nothing where that is all of it
abbrev pub word_ends_by : Word → Option Kind
word_ends_by word.If = Some (k.Word word.Then)
word_ends_by word.Then = None
word_ends_by word.Else = None
word_ends_by word.Foreach = Some (k.Word word.Do)
word_ends_by word.Do = None
word_ends_by word.Stop = None
word_ends_by word.Call = Some k.Bare
word_ends_by word.CallIndirect = Some (k.Mark mark.Semicolon)
word_ends_by word.Set = Some (k.Mark mark.Semicolon)
word_ends_by word.Unset = Some (k.Mark mark.Semicolon)
word_ends_by word.Reset = Some (k.Mark mark.Semicolon)
word_ends_by word.Continue = None

abbrev pub ends_by : Kind → Option Kind
ends_by (k.Opening o) = Some (k.Mark mark.Closing)
ends_by (k.Word w) = word_ends_by w
ends_by (k.Mark m) = None
ends_by k.Blank = None
ends_by k.Comment = None
ends_by k.Continuation = None
ends_by k.Selector = None
ends_by k.Filter = None
ends_by k.Program = None
ends_by k.Host = None
ends_by k.Users = None
ends_by k.Destination = None
ends_by k.Directive = None
ends_by k.Name = None
ends_by k.Quoted = None
ends_by k.Bare = None
ends_by k.Term = None
ends_by k.Variable = None

-- A statement goes up to the first piece of the kind that ends it, or to the end of the text; without such a kind it is one piece.
abbrev pub EndsBy : List Piece → Option Kind → (first end : ℕ) → Type 0
EndsBy pieces None first end = end ≡ first + 1
EndsBy pieces (Some kind) first end =
    ((at : ℕ) → first < at → at + 1 < end → IfSome (slice_get pieces at) (λ piece. piece.kind ≢ kind))
    × ((end ≡ length pieces) ⊎ ((last : ℕ) × (end ≡ last + 1) × IsSomeAnd (slice_get pieces last) (λ piece. piece.kind ≡ kind)))

-- The statement has pieces, ends where it is to, and is of a sort that its first piece may be of.
pub record IsStatement (pieces : List Piece) (s : Statement) : Type 0 where
  pub some : s.first < s.end
  pub within : s.end ≤ length pieces
  pub ends : IfSome (slice_get pieces s.first) (λ piece. EndsBy pieces (ends_by piece.kind) s.first s.end)
  pub sort : IfSome (slice_get pieces s.first) (λ piece. may_become piece.kind s.sort ≡ true)

-- The statements have the pieces up to a number, each in one: a statement begins where the one before ends.
pub data Cover (pieces : List Piece) : List Statement → ℕ → Type 0 where
  none : Cover pieces [] 0
  more : {statements : List Statement} {s : Statement} → Cover pieces statements s.first → IsStatement pieces s
      → Cover pieces (statements ++ s ∷ []) s.end

-- the statements of a whole text
abbrev pub AreStatements : List Piece → List Statement → Type 0
AreStatements pieces statements = Cover pieces statements (length pieces)

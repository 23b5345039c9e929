-- The pieces of a text: which bytes make a piece of which kind.
use Rattle.std.specs.Prelude.{◌≡◌, ℕ, ◌+◌, ◌-◌, ◌<◌, Bool, true, ◌||◌, ◌==◌, if◌then◌else◌, List, length, slice_index, Option, Some, None}
use Rattle.std.specs.List.{slice_range}
use Rattle.sy_fleet_text.specs.Classes.{is_in}
use Rattle.sy_fleet_text.specs.Stretches.{AreEach, EndsComment, IsLine, IsOpenText, IsQuoted, NoEnd}
use Rattle.sy_fleet_text.specs.Words as words
use Rattle.sy_fleet_text.specs.declared.classes.Class.TheVariants as class
use Rattle.sy_fleet_text.specs.declared.fault.Refusal.{Refusal}
use Rattle.sy_fleet_text.specs.declared.fault.Refusal.TheVariants as refusal
use Rattle.sy_fleet_text.specs.declared.piece.Kind.{Kind}
use Rattle.sy_fleet_text.specs.declared.piece.Kind.TheVariants as k
use Rattle.sy_fleet_text.specs.declared.piece.Mark.{Mark}
use Rattle.sy_fleet_text.specs.declared.piece.Mark.TheVariants as mark
use Rattle.sy_fleet_text.specs.declared.piece.Object.{Object}
use Rattle.sy_fleet_text.specs.declared.piece.Word.{Word}
use Rattle.sy_fleet_text.specs.declared.piece.Word.TheVariants as word
use Rattle.sy_fleet_text.specs.declared.statements.Context.{Context}
use Rattle.sy_fleet_text.specs.declared.statements.Context.TheVariants as context

-- `<` `>` `!` `+` `-` `*` `/` `%` `&`
abbrev pub is_operator : ℕ → Bool
is_operator b = b == 60 || b == 62 || b == 33 || b == 43 || b == 45 || b == 42 || b == 47 || b == 37 || b == 38

-- `(` `)` `[` `]` `,` `=`, and operators
abbrev pub is_sign : ℕ → Bool
is_sign b = b == 40 || b == 41 || b == 91 || b == 93 || b == 44 || b == 61 || is_operator b

-- the bytes of marks: `{` `}` `&` `)` `;` and signs
abbrev pub is_mark : Mark → ℕ → Bool
is_mark mark.BlockOpening b = b == 123
is_mark mark.BlockClosing b = b == 125
is_mark mark.And b = b == 38
is_mark mark.Closing b = b == 41
is_mark mark.Semicolon b = b == 59
is_mark mark.Sign b = is_sign b

-- A comment: `#` and what follows on its line, or `/*` and what follows up to the first `*/`.
pub data IsComment (text : List ℕ) (start : ℕ) : ℕ → Type 0 where
  line : {end : ℕ} → slice_index text start ≡ 35 → AreEach (is_in class.Line) text start end → IsComment text start end
  block : {end : ℕ} → slice_index text start ≡ 47 → slice_index text (start + 1) ≡ 42 → EndsComment text start end → IsComment text start end

-- The name of an object, blanks or none, and `(`.
pub record IsOpening (object : Object) (text : List ℕ) (start end : ℕ) : Type 0 where
  pub word_end : ℕ
  pub order : word_end < end
  pub named : words.object_of (slice_range text start word_end) ≡ Some object
  pub gap : AreEach (is_in class.Blank) text word_end (end - 1)
  pub paren : slice_index text (end - 1) ≡ 40

-- The name of a parameter: behind it are blanks or none, and `=`.
pub record IsName (text : List ℕ) (start end : ℕ) : Type 0 where
  pub each : AreEach (is_in class.Name) text start end
  pub gap_end : ℕ
  pub gap : AreEach (is_in class.Blank) text end gap_end
  pub equals : slice_index text gap_end ≡ 61

-- The stretch is a piece of this kind.
abbrev pub IsPiece : Kind → List ℕ → ℕ → ℕ → Type 0
IsPiece k.Blank text start end = AreEach (is_in class.Blank) text start end
IsPiece k.Comment text start end = IsComment text start end
IsPiece k.Continuation text start end = (slice_index text start ≡ 92) × (slice_index text (start + 1) ≡ 10) × (end ≡ start + 2)
IsPiece (k.Opening object) text start end = IsOpening object text start end
IsPiece k.Name text start end = IsName text start end
IsPiece k.Quoted text start end = IsQuoted text start end
IsPiece k.Bare text start end = AreEach (is_in class.Value) text start end
IsPiece k.Term text start end = AreEach (is_in class.Word) text start end
IsPiece k.Variable text start end = slice_index text start ≡ 36
IsPiece (k.Mark kind) text start end = (is_mark kind (slice_index text start) ≡ true) × (end ≡ start + 1)
IsPiece (k.Word word) text start end = words.word_of (slice_range text start end) ≡ Some word
IsPiece k.Directive text start end = (slice_index text start ≡ 36) × IsLine text start end
IsPiece k.Selector text start end = AreEach (is_in class.Selector) text start end
IsPiece k.Filter text start end = slice_index text start ≡ 58
IsPiece k.Program text start end = (slice_index text start ≡ 33) × IsLine text start end
IsPiece k.Host text start end = IsLine text start end
IsPiece k.Destination text start end = IsLine text start end
IsPiece k.Users text start end = AreEach (is_in class.Users) text start end

-- what a refusal says of the bytes at its place; one that nothing begins is any that the reader doesn't take
abbrev pub Shows : Refusal → List ℕ → ℕ → Type 0
Shows refusal.OpenText text at = IsOpenText text at
Shows refusal.OpenComment text at = (slice_index text at ≡ 47) × (slice_index text (at + 1) ≡ 42) × NoEnd text (at + 2) (length text)
Shows refusal.Unexpected text at = Unit {0}
Shows refusal.TooLong text at = ⊥
Shows refusal.OpenStatement text at = ⊥
Shows refusal.OpenBlock text at = ⊥
Shows refusal.NoBlock text at = ⊥
Shows refusal.NoMemory text at = ⊥

-- ---- what is read behind a piece

abbrev pub context_after_word : Word → Context
context_after_word word.If = context.Expression
context_after_word word.Set = context.Expression
context_after_word word.Unset = context.Expression
context_after_word word.Reset = context.Expression
context_after_word word.Foreach = context.Expression
context_after_word word.CallIndirect = context.Expression
context_after_word word.Call = context.Call
context_after_word word.Then = context.Statements
context_after_word word.Do = context.Statements
context_after_word word.Else = context.Statements
context_after_word word.Stop = context.Statements
context_after_word word.Continue = context.Statements

abbrev pub context_after_bare : Context → Context
context_after_bare context.Call = context.Statements
context_after_bare context.Statements = context.Statements
context_after_bare context.Parameters = context.Parameters
context_after_bare context.Expression = context.Expression

abbrev pub context_after_mark : Context → Mark → Context
context_after_mark c mark.Closing = context.Statements
context_after_mark c mark.Semicolon = context.Statements
context_after_mark c mark.BlockOpening = c
context_after_mark c mark.BlockClosing = c
context_after_mark c mark.And = c
context_after_mark c mark.Sign = c

abbrev pub context_after : Context → Kind → Context
context_after c (k.Opening object) = context.Parameters
context_after c (k.Mark m) = context_after_mark c m
context_after c (k.Word word) = context_after_word word
context_after c k.Bare = context_after_bare c
context_after c k.Blank = c
context_after c k.Comment = c
context_after c k.Continuation = c
context_after c k.Name = c
context_after c k.Quoted = c
context_after c k.Term = c
context_after c k.Variable = c
context_after c k.Directive = c
context_after c k.Selector = c
context_after c k.Filter = c
context_after c k.Program = c
context_after c k.Host = c
context_after c k.Destination = c
context_after c k.Users = c

-- how many blocks are open behind a piece; none where a block ends that didn't begin
abbrev pub depth_after_mark : Mark → ℕ → Option ℕ
depth_after_mark mark.BlockOpening depth = Some (depth + 1)
depth_after_mark mark.BlockClosing depth = if depth == 0 then None else Some (depth - 1)
depth_after_mark mark.And depth = Some depth
depth_after_mark mark.Closing depth = Some depth
depth_after_mark mark.Semicolon depth = Some depth
depth_after_mark mark.Sign depth = Some depth

abbrev pub depth_after : Kind → ℕ → Option ℕ
depth_after (k.Mark m) depth = depth_after_mark m depth
depth_after k.Blank depth = Some depth
depth_after k.Comment depth = Some depth
depth_after k.Continuation depth = Some depth
depth_after (k.Opening object) depth = Some depth
depth_after k.Name depth = Some depth
depth_after k.Quoted depth = Some depth
depth_after k.Bare depth = Some depth
depth_after k.Term depth = Some depth
depth_after k.Variable depth = Some depth
depth_after (k.Word word) depth = Some depth
depth_after k.Directive depth = Some depth
depth_after k.Selector depth = Some depth
depth_after k.Filter depth = Some depth
depth_after k.Program depth = Some depth
depth_after k.Host depth = Some depth
depth_after k.Destination depth = Some depth
depth_after k.Users depth = Some depth

-- why a text may not end: its last statement or a block isn't ended
abbrev pub at_end : Context → ℕ → Option Refusal
at_end context.Statements depth = if depth == 0 then None else Some refusal.OpenBlock
at_end context.Parameters depth = Some refusal.OpenStatement
at_end context.Expression depth = Some refusal.OpenStatement
at_end context.Call depth = Some refusal.OpenStatement

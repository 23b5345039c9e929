-- What becomes of the statements of a configuration of rsyslogd that is carried over to a relay (this profile's own).
use Rattle.std.specs.Prelude.{◌≡◌, ℕ, ◌+◌, ◌<◌, ◌≤◌, ◌++◌, Bool, true, false, List, [], ◌∷◌, Option, None, Some, length, slice_get, IfSome}
use Rattle.sy_fleet_text.specs.declared.piece.Kind.{Kind}
use Rattle.sy_fleet_text.specs.declared.piece.Kind.TheVariants as k
use Rattle.sy_fleet_text.specs.declared.piece.Mark.{Mark}
use Rattle.sy_fleet_text.specs.declared.piece.Mark.TheVariants as mark
use Rattle.sy_fleet_text.specs.declared.piece.Piece.{Piece}
use Rattle.sy_fleet_text.specs.declared.piece.Word.{Word}
use Rattle.sy_fleet_text.specs.declared.piece.Word.TheVariants as word
use Rattle.sy_fleet.specs.declared.statements.Statement.{Statement}
use Rattle.sy_conversion.specs.declared.fates.Fate.{Fate}
use Rattle.sy_conversion.specs.declared.fates.Fate.TheVariants as fate
use Rattle.sy_conversion.specs.declared.fates.Told.{Told}
use Rattle.sy_conversion.specs.declared.fates.Why.{Why}
use Rattle.sy_conversion.specs.declared.fates.Why.TheVariants as why

-- ---- losses

-- Messages may be lost where this is left out, that rsyslogd takes in or keeps.
abbrev pub is_loss : Why → Bool
is_loss why.Input = true
is_loss why.Secret = true
is_loss why.Test = true
is_loss why.Output = true
is_loss why.DynamicFile = true
is_loss why.Datagram = true
is_loss why.Relp = true
is_loss why.Conditional = true
is_loss why.Unnamed = true
is_loss why.Size = true
is_loss why.Included = true
is_loss why.Parser = true
is_loss why.Called = true
is_loss why.Each = true
is_loss why.Environment = true
is_loss why.Unknown = true
is_loss why.Queue = true
is_loss why.Module = false
is_loss why.Template = false
is_loss why.Owner = false
is_loss why.Users = false
is_loss why.Variables = false
is_loss why.Setting = false

abbrev pub loses : Fate → Bool
loses fate.Layout = false
loses fate.Carried = false
loses fate.Partly = true
loses (fate.Left why) = is_loss why

-- ---- what may become of a statement

abbrev pub is_layout : Fate → Bool
is_layout fate.Layout = true
is_layout fate.Carried = false
is_layout fate.Partly = false
is_layout (fate.Left why) = false

-- it is carried over, as a whole or in part, or left out
abbrev pub is_told : Fate → Bool
is_told fate.Layout = false
is_told fate.Carried = true
is_told fate.Partly = true
is_told (fate.Left why) = true

abbrev pub is_carried : Fate → Bool
is_carried fate.Layout = false
is_carried fate.Carried = true
is_carried fate.Partly = false
is_carried (fate.Left why) = false

abbrev pub is_left : Fate → Bool
is_left fate.Layout = false
is_left fate.Carried = false
is_left fate.Partly = false
is_left (fate.Left why) = true

-- carried over as a whole, or left out where something may be lost
abbrev pub is_whole_or_lost : Fate → Bool
is_whole_or_lost fate.Layout = false
is_whole_or_lost fate.Carried = true
is_whole_or_lost fate.Partly = false
is_whole_or_lost (fate.Left why) = is_loss why

-- left out where something may be lost
abbrev pub is_lost : Fate → Bool
is_lost fate.Layout = false
is_lost fate.Carried = false
is_lost fate.Partly = false
is_lost (fate.Left why) = is_loss why

abbrev pub word_may : Word → Fate → Bool
word_may word.If f = is_whole_or_lost f
word_may word.Call f = is_whole_or_lost f
word_may word.Else f = is_carried f
word_may word.Stop f = is_carried f
word_may word.Foreach f = is_lost f
word_may word.CallIndirect f = is_lost f
word_may word.Then f = is_lost f
word_may word.Do f = is_lost f
word_may word.Set f = is_left f
word_may word.Unset f = is_left f
word_may word.Reset f = is_left f
word_may word.Continue f = is_left f

abbrev pub mark_may : Mark → Fate → Bool
mark_may mark.BlockOpening f = is_carried f
mark_may mark.BlockClosing f = is_carried f
mark_may mark.And f = is_whole_or_lost f
mark_may mark.Closing f = is_lost f
mark_may mark.Semicolon f = is_lost f
mark_may mark.Sign f = is_lost f

-- Of what begins with such a piece this may become: nothing but blanks and comments is passed over.
abbrev pub may_become : Kind → Fate → Bool
may_become k.Blank f = is_layout f
may_become k.Comment f = is_layout f
may_become k.Continuation f = is_layout f
may_become (k.Opening o) f = is_told f
may_become (k.Word w) f = word_may w f
may_become (k.Mark m) f = mark_may m f
may_become k.Selector f = is_whole_or_lost f
may_become k.Filter f = is_whole_or_lost f
may_become k.Destination f = is_told f
may_become k.Directive f = is_told f
may_become k.Program f = is_left f
may_become k.Host f = is_left f
may_become k.Users f = is_left f
may_become k.Name f = is_lost f
may_become k.Quoted f = is_lost f
may_become k.Bare f = is_lost f
may_become k.Term f = is_lost f
may_become k.Variable f = is_lost f

-- ---- what is told of all of them

-- the first piece of a statement
abbrev pub piece_of : List Piece → Option Statement → Option Piece
piece_of pieces None = None
piece_of pieces (Some s) = slice_get pieces s.first

-- Of these statements this may have become: each is told of by itself, but for those that are left out with the first.
pub record IsTold (pieces : List Piece) (statements : List Statement) (t : Told) : Type 0 where
  pub some : t.first < t.end
  pub within : t.end ≤ length statements
  pub alone : is_left t.fate ≡ false → t.end ≡ t.first + 1
  pub kind : IfSome (piece_of pieces (slice_get statements t.first)) (λ piece. may_become piece.kind t.fate ≡ true)

-- The statements up to a number are told of, each once.
pub data Cover (pieces : List Piece) (statements : List Statement) : List Told → ℕ → Type 0 where
  none : Cover pieces statements [] 0
  more : {told : List Told} {t : Told} → Cover pieces statements told t.first → IsTold pieces statements t
      → Cover pieces statements (told ++ t ∷ []) t.end

-- the same of all statements
abbrev pub AreTold : List Piece → List Statement → List Told → Type 0
AreTold pieces statements told = Cover pieces statements told (length statements)

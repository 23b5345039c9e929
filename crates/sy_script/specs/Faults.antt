-- What each fault of a script is, and where it stands. Offsets count bytes from 0.
use Rattle.std.specs.Prelude.{◌≡◌, ◌≢◌, ◌<◌, ◌≤◌, ℕ, ◌+◌, ◌==◌, ◌||◌, Bool, true, false, List, [], ◌∷◌, ◌++◌, length, take, Result, Ok, Err, codes, decimal}
use Rattle.std.specs.List.{slice_range}
use Rattle.std.specs.Char.{is_ascii_digit}
use Rattle.sy_script.specs.Bytes.{backslash, exclamation_mark, close_brace, close_paren, dollar_sign, double_quote, equals_sign, greater_sign, hash, less_sign, open_brace, open_paren, single_quote, solidus, star}
use Rattle.sy_script.specs.declared.token.Kind.{Kind}
use Rattle.sy_script.specs.declared.token.Kind.TheVariants as k
use Rattle.sy_script.specs.declared.token.Token.{Token}
use Rattle.sy_script.specs.declared.fault.FaultCode.{FaultCode}
use Rattle.sy_script.specs.declared.fault.FaultCode.TheVariants as code
use Rattle.sy_script.specs.declared.fault.ScriptFault.{ScriptFault}
use Rattle.sy_script.specs.declared.tree.Top.{Top}
use Rattle.sy_script.specs.declared.tree.Script.{Script}
use Rattle.sy_script.specs.Terms.{is_blank, is_escaped, max_text, starts_word}
use Rattle.sy_script.specs.Tokens.{NoneNext, is_equals, InString, NoEnd, Cut, AreTokens}
use Rattle.sy_script.specs.Brackets.{Balanced, IsInnermost}
use Rattle.sy_script.specs.Grammar.{TopsAt, Begins}
use Rattle.sy_script.specs.Standing.{StmtPlace, BlockPlace, UnitPlace, GroupPlace}
use Rattle.sy_script.specs.Place.{IsPlace}

-- the numbers of the faults
abbrev pub number : FaultCode → ℕ
number code.Byte = 21
number code.Unclosed = 22
number code.Unexpected = 23
number code.TooDeep = 24
number code.TooLarge = 25
number code.LeftOut = 26
number code.NoMemory = 27

-- the number and the name
abbrev pub words : FaultCode → List ℕ
words code.Byte = codes "21 Byte"
words code.Unclosed = codes "22 Unclosed"
words code.Unexpected = codes "23 Unexpected"
words code.TooDeep = codes "24 TooDeep"
words code.TooLarge = codes "25 TooLarge"
words code.LeftOut = codes "26 LeftOut"
words code.NoMemory = codes "27 NoMemory"

-- a fault in words: its number and name, and its line and column
abbrev pub fault_text : ScriptFault → List ℕ
fault_text f = words f.code ++ (codes " at " ++ (decimal f.line ++ (codes ":" ++ decimal f.column)))

-- a byte is one of these
abbrev pub is_sign : ℕ → Bool
is_sign b = b == double_quote || b == single_quote || b == hash || b == open_paren || b == close_paren || b == open_brace || b == close_brace || b == equals_sign || b == less_sign || b == greater_sign

-- `"` or `'`
abbrev pub is_quote : ℕ → Bool
is_quote b = b == double_quote || b == single_quote

abbrev pub is_star : ℕ → Bool
is_star b = b == star

-- The bytes begin neither a token nor blanks nor a comment: the first is none that any of them begins with, or it is `$` without a word, `!` without `=` or `/` without `*`.
pub data BeginsNone : List ℕ → Type 0 where
  byte : {b : ℕ} {rest : List ℕ} → is_blank b ≡ false → starts_word b ≡ false → is_ascii_digit b ≡ false → is_sign b ≡ false → (b == dollar_sign) ≡ false → (b == exclamation_mark) ≡ false → (b == solidus) ≡ false → BeginsNone (b ∷ rest)
  dollar : {rest : List ℕ} → NoneNext starts_word rest → BeginsNone (dollar_sign ∷ rest)
  bang : {rest : List ℕ} → NoneNext is_equals rest → BeginsNone (exclamation_mark ∷ rest)
  slash : {rest : List ℕ} → NoneNext is_star rest → BeginsNone (solidus ∷ rest)

-- Fault 21: a byte that begins no token, or the byte after a `\` in a string that is none of the seven.
pub data IsBadByte (text : List ℕ) : ℕ → Type 0 where
  begins_none : {ts : List Token} {at : ℕ} {rest : List ℕ} → Cut 0 text ts at rest → BeginsNone rest → IsBadByte text at
  no_escape : {ts : List Token} {at quote : ℕ} {bytes : List ℕ} (b : ℕ) (rest : List ℕ) → Cut 0 text ts at (quote ∷ bytes ++ backslash ∷ b ∷ rest) → is_quote quote ≡ true → InString quote bytes → is_escaped b ≡ false → IsBadByte text (at + length bytes + 2)

-- Fault 22: the string, comment, parenthesis or brace that begins here is open at the end of the text, and is the innermost.
pub data IsUnclosed (text : List ℕ) : ℕ → Type 0 where
  string : {ts : List Token} {at quote : ℕ} {bytes : List ℕ} → Cut 0 text ts at (quote ∷ bytes) → is_quote quote ≡ true → InString quote bytes → IsUnclosed text at
  -- its last byte is a `\`
  escape : {ts : List Token} {at quote : ℕ} {bytes : List ℕ} → Cut 0 text ts at (quote ∷ bytes ++ backslash ∷ []) → is_quote quote ≡ true → InString quote bytes → IsUnclosed text at
  comment : {ts : List Token} {at : ℕ} {bytes : List ℕ} → Cut 0 text ts at (solidus ∷ star ∷ bytes) → NoEnd bytes → IsUnclosed text at
  bracket : {ts : List Token} {o : Token} → AreTokens text ts → IsInnermost ts o [] → IsUnclosed text o.span.start

-- what a block begins with
abbrev pub begins_block : Kind → Bool
begins_block k.LeftBrace = true
begins_block k.Action = true
begins_block k.Call = true
begins_block k.Stop = true
begins_block k.If = true
begins_block _ = false

-- all 32 levels are taken, and this token begins one more
pub data Deepens (text : List ℕ) (ts : List Token) : Token → Type 0 where
  group : {t : Token} {rest : List Token} → GroupPlace text ts 0 (t ∷ rest) → t.kind ≡ k.LeftParen → Deepens text ts t
  negation : {t : Token} {rest : List Token} → UnitPlace text ts 0 (t ∷ rest) → t.kind ≡ k.Not → Deepens text ts t
  block : {t : Token} {rest : List Token} → BlockPlace text ts 0 (t ∷ rest) → begins_block t.kind ≡ true → Deepens text ts t

-- Fault 24: this token makes the depth 33.
pub data IsTooDeep (text : List ℕ) : ℕ → Type 0 where
  token : {ts : List Token} {t : Token} {at : ℕ} {rest : List ℕ} → Cut 0 text ts at rest → Deepens text ts t → IsTooDeep text t.span.start

-- what a statement begins with that this profile leaves out: one of the words, or a property
abbrev pub is_left_out : Kind → Bool
is_left_out k.LeftOut = true
is_left_out k.Property = true
is_left_out _ = false

pub data BeginsLeftOut (text : List ℕ) (ts : List Token) : Token → Type 0 where
  stmt : {left : ℕ} {t : Token} {rest : List Token} → StmtPlace text ts left (t ∷ rest) → is_left_out t.kind ≡ true → BeginsLeftOut text ts t
  block : {left : ℕ} {t : Token} {rest : List Token} → BlockPlace text ts left (t ∷ rest) → is_left_out t.kind ≡ true → BeginsLeftOut text ts t

-- Fault 26: here begins a statement that this profile leaves out, with this word.
pub data IsLeftOut (text : List ℕ) : ℕ → List ℕ → Type 0 where
  token : {ts : List Token} {t : Token} {at : ℕ} {rest : List ℕ} → Cut 0 text ts at rest → BeginsLeftOut text ts t → IsLeftOut text t.span.start (slice_range text t.span.start t.span.end)

-- none of the tokens makes the depth 33, and none begins what this profile leaves out
pub record NoneRefused (text : List ℕ) (ts : List Token) : Type 0 where
  pub none_deepens : (t : Token) → Deepens text ts t → ⊥
  pub none_left_out : (t : Token) → BeginsLeftOut text ts t → ⊥

-- Fault 23: another token in a wrong place. The tokens before it are the beginning of a script, and with it they are the beginning of none, however deep.
-- At the end of the text: nothing is open, and the tokens are the beginning of a script, but no script, however deep.
pub data IsUnexpected (text : List ℕ) : ℕ → Type 0 where
  token : {ts : List Token} {at : ℕ} {left : List ℕ} (front rest : List Token) (t : Token) → Cut 0 text ts at left → ts ≡ front ++ t ∷ rest → NoneRefused text ts
      → Begins text front → (Begins text (front ++ t ∷ []) → ⊥) → IsUnexpected text t.span.start
  end : {ts : List Token} → AreTokens text ts → NoneRefused text ts → Balanced ts [] → Begins text ts → ((left : ℕ) (tree : List Top) → TopsAt text left tree ts → ⊥) → IsUnexpected text (length text)

-- a fault of how the text ends as tokens, or of what is open at its end: 21 or 22
abbrev pub Unended : List ℕ → FaultCode → ℕ → Type 0
Unended text code.Byte offset = IsBadByte text offset
Unended text code.Unclosed offset = IsUnclosed text offset
Unended text code.Unexpected offset = ⊥
Unended text code.TooDeep offset = ⊥
Unended text code.TooLarge offset = ⊥
Unended text code.LeftOut offset = ⊥
Unended text code.NoMemory offset = ⊥

-- a fault of a token in a wrong place, or of the end where nothing is open: 23, 24 or 26
abbrev pub Misplaced : List ℕ → FaultCode → ℕ → Type 0
Misplaced text code.Byte offset = ⊥
Misplaced text code.Unclosed offset = ⊥
Misplaced text code.Unexpected offset = IsUnexpected text offset
Misplaced text code.TooDeep offset = IsTooDeep text offset
Misplaced text code.TooLarge offset = ⊥
Misplaced text code.LeftOut offset = (word : List ℕ) × IsLeftOut text offset word
Misplaced text code.NoMemory offset = ⊥

-- ---- lines and columns

-- it stands in this line and column
abbrev pub At : List ℕ → (ℕ → Type 0) → ℕ → ℕ → Type 0
At text Stands line column = (offset : ℕ) × Stands offset × IsPlace (take offset text) line column

-- Fault 25: more than 1 MiB. Its place is that of the first byte.
pub record IsTooLarge (text : List ℕ) (line column : ℕ) : Type 0 where
  pub is_large : max_text < length text
  pub line_is : line ≡ 1
  pub column_is : column ≡ 1

abbrev pub IsFault : List ℕ → FaultCode → ℕ → ℕ → List ℕ → Type 0
IsFault text code.Byte line column word = At text (IsBadByte text) line column × (word ≡ [])
IsFault text code.Unclosed line column word = At text (IsUnclosed text) line column × (word ≡ [])
IsFault text code.Unexpected line column word = At text (IsUnexpected text) line column × (word ≡ [])
IsFault text code.TooDeep line column word = At text (IsTooDeep text) line column × (word ≡ [])
IsFault text code.TooLarge line column word = IsTooLarge text line column × (word ≡ [])
IsFault text code.LeftOut line column word = At text (λ offset. IsLeftOut text offset word) line column
IsFault text code.NoMemory line column word = (line ≡ 1) × (column ≡ 1) × (word ≡ [])

-- the fault is there, in its line and column, and with its word
abbrev pub Stands : List ℕ → ScriptFault → Type 0
Stands text f = IsFault text f.code f.line f.column f.word

-- ---- which of several

-- none of 23, 24 and 26 stands in the text
abbrev pub NoneMisplaced : List ℕ → Type 0
NoneMisplaced text = (c : FaultCode) (offset : ℕ) → Misplaced text c offset → ⊥

-- Of the faults of a text this one goes before all others: 25 before the rest, and one of 23, 24 and 26 before 21 and 22. Of 23, 24 and 26 at
-- most one stands, and of 21 and 22 at most one.
abbrev pub IsFirst : List ℕ → FaultCode → Type 0
IsFirst text code.Byte = (length text ≤ max_text) × NoneMisplaced text
IsFirst text code.Unclosed = (length text ≤ max_text) × NoneMisplaced text
IsFirst text code.Unexpected = length text ≤ max_text
IsFirst text code.TooDeep = length text ≤ max_text
IsFirst text code.TooLarge = Unit {0}
IsFirst text code.LeftOut = length text ≤ max_text
IsFirst text code.NoMemory = length text ≤ max_text

-- the fault is the answer for the text, memory aside
pub record IsAnswer (text : List ℕ) (f : ScriptFault) : Type 0 where
  pub stands : Stands text f
  pub is_first : IsFirst text f.code
  pub not_memory : f.code ≢ code.NoMemory

-- the tree is the answer, memory aside
abbrev pub IsRead : Script → Result Script ScriptFault → Type 0
IsRead script (Ok found) = found ≡ script
IsRead script (Err f) = f.code ≡ code.NoMemory

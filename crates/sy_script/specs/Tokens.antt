-- The tokens of a text, by whole texts: a text is cut into pieces, and each piece is a token, blank or a comment.
use Rattle.std.specs.Prelude.{◌≡◌, ◌≢◌, ℕ, ◌+◌, ◌==◌, if◌then◌else◌, Bool, true, false, List, [], ◌∷◌, ◌++◌, length, Option, Some, None}
use Rattle.std.specs.Char.{is_ascii_digit}
use Rattle.sy_script.specs.Bytes.{backslash, exclamation_mark, close_brace, close_paren, dollar_sign, double_quote, equals_sign, greater_sign, hash, less_sign, line_feed, open_brace, open_paren, single_quote, solidus, star}
use Rattle.sy_script.specs.declared.token.Kind.{Kind}
use Rattle.sy_script.specs.declared.token.Kind.TheVariants as k
use Rattle.sy_script.specs.declared.token.Token.{Token}
use Rattle.sy_script.specs.Terms.{is_blank, is_escaped, is_in_word, starts_word, word_kind}

-- ---- what pieces are made of

-- each byte passes the test
abbrev pub All : (ℕ → Bool) → List ℕ → Type 0
All test [] = Unit {0}
All test (b ∷ bytes) = (test b ≡ true) × All test bytes

-- the next byte, if there is one, doesn't pass the test
abbrev pub NoneNext : (ℕ → Bool) → List ℕ → Type 0
NoneNext test [] = Unit {0}
NoneNext test (b ∷ bytes) = test b ≡ false

abbrev pub is_equals : ℕ → Bool
is_equals b = b == equals_sign

abbrev pub is_no_feed : ℕ → Bool
is_no_feed b = if b == line_feed then false else true

-- What stands between the quotes of a string: escapes, and bytes that are neither the quote nor `\`.
pub data InString (quote : ℕ) : List ℕ → Type 0 where
  none : InString quote []
  plain : {b : ℕ} {bytes : List ℕ} → (b == backslash) ≡ false → (b == quote) ≡ false → InString quote bytes → InString quote (b ∷ bytes)
  escape : {b : ℕ} {bytes : List ℕ} → is_escaped b ≡ true → InString quote bytes → InString quote (backslash ∷ b ∷ bytes)

-- no `*/` stands in the bytes
abbrev pub NoEnd : List ℕ → Type 0
NoEnd [] = Unit {0}
NoEnd (b ∷ []) = Unit {0}
NoEnd (b ∷ c ∷ bytes) = (b ≡ star → c ≢ solidus) × NoEnd (c ∷ bytes)

-- ---- one piece. `PieceAt kind piece rest` says that the bytes of the piece are a token of that kind, or blank or a comment where there is no kind,
-- and that it is the longest such: no byte of the rest goes on with it.
pub data PieceAt : Option Kind → List ℕ → List ℕ → Type 0 where
  blank : {b : ℕ} {rest : List ℕ} → is_blank b ≡ true → PieceAt None (b ∷ []) rest
  -- `#` to the end of the line
  line_comment : {bytes rest : List ℕ} → All is_no_feed bytes → NoneNext is_no_feed rest → PieceAt None (hash ∷ bytes) rest
  -- `/*` to the next `*/`
  block_comment : (bytes : List ℕ) {rest : List ℕ} → NoEnd (bytes ++ star ∷ []) → PieceAt None (solidus ∷ star ∷ bytes ++ star ∷ solidus ∷ []) rest
  -- a letter or `_`, then letters, digits, `_`, `.` and `-`
  word : {b : ℕ} {bytes rest : List ℕ} → starts_word b ≡ true → All is_in_word bytes → NoneNext is_in_word rest → PieceAt (Some (word_kind (b ∷ bytes))) (b ∷ bytes) rest
  number : {b : ℕ} {bytes rest : List ℕ} → is_ascii_digit b ≡ true → All is_ascii_digit bytes → NoneNext is_ascii_digit rest → PieceAt (Some k.Number) (b ∷ bytes) rest
  -- `$` and a word
  property : {b : ℕ} {bytes rest : List ℕ} → starts_word b ≡ true → All is_in_word bytes → NoneNext is_in_word rest → PieceAt (Some k.Property) (dollar_sign ∷ b ∷ bytes) rest
  quoted : {bytes rest : List ℕ} → InString double_quote bytes → PieceAt (Some k.Quoted) (double_quote ∷ bytes ++ double_quote ∷ []) rest
  single_quoted : {bytes rest : List ℕ} → InString single_quote bytes → PieceAt (Some k.SingleQuoted) (single_quote ∷ bytes ++ single_quote ∷ []) rest
  -- ( ) { }
  left_paren : {rest : List ℕ} → PieceAt (Some k.LeftParen) (open_paren ∷ []) rest
  right_paren : {rest : List ℕ} → PieceAt (Some k.RightParen) (close_paren ∷ []) rest
  left_brace : {rest : List ℕ} → PieceAt (Some k.LeftBrace) (open_brace ∷ []) rest
  right_brace : {rest : List ℕ} → PieceAt (Some k.RightBrace) (close_brace ∷ []) rest
  -- = == != < <= > >=
  assign : {rest : List ℕ} → NoneNext is_equals rest → PieceAt (Some k.Assign) (equals_sign ∷ []) rest
  equal : {rest : List ℕ} → PieceAt (Some k.Equal) (equals_sign ∷ equals_sign ∷ []) rest
  not_equal : {rest : List ℕ} → PieceAt (Some k.NotEqual) (exclamation_mark ∷ equals_sign ∷ []) rest
  less : {rest : List ℕ} → NoneNext is_equals rest → PieceAt (Some k.Less) (less_sign ∷ []) rest
  at_most : {rest : List ℕ} → PieceAt (Some k.AtMost) (less_sign ∷ equals_sign ∷ []) rest
  greater : {rest : List ℕ} → NoneNext is_equals rest → PieceAt (Some k.Greater) (greater_sign ∷ []) rest
  at_least : {rest : List ℕ} → PieceAt (Some k.AtLeast) (greater_sign ∷ equals_sign ∷ []) rest

-- ---- all pieces

-- the token of a piece, if it is one
abbrev pub with_token : Option Kind → ℕ → ℕ → List Token → List Token
with_token None start end ts = ts
with_token (Some kind) start end ts = record { kind = kind; span = record { start = start; end = end } } ∷ ts

-- From the first place on, the bytes are cut into pieces with these tokens, and at the second place the rest is left.
pub data Cut : ℕ → List ℕ → List Token → ℕ → List ℕ → Type 0 where
  none : {at : ℕ} {rest : List ℕ} → Cut at rest [] at rest
  piece : {at end : ℕ} {kind : Option Kind} {bytes more rest : List ℕ} {ts : List Token} → PieceAt kind bytes more → Cut (at + length bytes) more ts end rest
      → Cut at (bytes ++ more) (with_token kind at (at + length bytes) ts) end rest

-- the tokens of a whole text
abbrev pub AreTokens : List ℕ → List Token → Type 0
AreTokens text ts = Cut 0 text ts (length text) []

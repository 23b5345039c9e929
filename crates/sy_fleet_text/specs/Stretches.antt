-- Stretches of bytes in a text, by the places where they begin and end: from the first up to, and without, the second.
use Rattle.std.specs.Prelude.{◌≡◌, ℕ, ◌+◌, ◌-◌, ◌<◌, ◌≤◌, Bool, true, false, not, ◌&&◌, ◌||◌, ◌==◌, nat_lt, List, length, slice_index}

-- each byte of the stretch passes the test
abbrev pub AreEach : (ℕ → Bool) → List ℕ → ℕ → ℕ → Type 0
AreEach test text start end = (k : ℕ) → start ≤ k → k < end → test (slice_index text k) ≡ true

-- whether a line goes on at the place: by any byte but a line feed, or by one behind a backslash
abbrev pub line_goes_on : List ℕ → ℕ → Bool
line_goes_on text at = nat_lt at (length text) && (not (slice_index text at == 10) || slice_index text (at - 1) == 92)

-- The stretch is a line, without the line feed that ends it: it goes on at each place behind its first byte, and not at its end.
pub record IsLine (text : List ℕ) (start end : ℕ) : Type 0 where
  pub goes_on : (k : ℕ) → start < k → k < end → line_goes_on text k ≡ true
  pub ends : line_goes_on text end ≡ false

-- whether `*/` is at the place
abbrev pub comment_ends : List ℕ → ℕ → Bool
comment_ends text at = slice_index text at == 42 && slice_index text (at + 1) == 47

-- no `*/` begins in the stretch
abbrev pub NoEnd : List ℕ → ℕ → ℕ → Type 0
NoEnd text start end = (k : ℕ) → start ≤ k → k < end → comment_ends text k ≡ false

-- The comment whose `/*` is at the first place ends before the second, with the first `*/` behind that.
pub record EndsComment (text : List ℕ) (start end : ℕ) : Type 0 where
  pub order : start + 4 ≤ end
  pub within : end ≤ length text
  pub ends : comment_ends text (end - 2) ≡ true
  pub first : NoEnd text (start + 2) (end - 2)

-- whether the byte is a backslash that none escapes: it escapes the next
abbrev pub escapes : Bool → ℕ → Bool
escapes is_escaped b = not is_escaped && b == 92

-- whether the byte is the quote, and none escapes it
abbrev pub ends_text : Bool → ℕ → ℕ → Bool
ends_text is_escaped b quote = not is_escaped && b == quote

-- Up to a place, the text whose quote is at `start` isn't ended; and whether the byte at the place is escaped.
pub data InText (text : List ℕ) (start : ℕ) : ℕ → Bool → Type 0 where
  first : InText text start (start + 1) false
  more : {at : ℕ} {is_escaped : Bool} → InText text start at is_escaped → ends_text is_escaped (slice_index text at) (slice_index text start) ≡ false
      → InText text start (at + 1) (escapes is_escaped (slice_index text at))

-- The stretch is a text in quotes: its last byte is the quote at its first, and the first such that none escapes.
pub record IsQuoted (text : List ℕ) (start end : ℕ) : Type 0 where
  pub is_escaped : Bool
  pub last : ℕ
  pub inside : InText text start last is_escaped
  pub ends : ends_text is_escaped (slice_index text last) (slice_index text start) ≡ true
  pub order : start < last
  pub within : last < length text
  pub end_is : end ≡ last + 1

-- the text whose quote is at the place has no end
abbrev pub IsOpenText : List ℕ → ℕ → Type 0
IsOpenText text start = (is_escaped : Bool) × InText text start (length text) is_escaped

-- Messages as lines, one line each: control characters of a message are written as `#` and three octal digits, as rsyslogd does with
-- `parser.escapeControlCharactersOnReceive`. DEL, and a `#` before three octal digits, are written so too, which rsyslogd doesn't do: so each line can be
-- read back, and changes no terminal.
use Rattle.std.specs.Prelude.{◌≡◌, ◌≢◌, ⊤, ℕ, ◌+◌, ◌/◌, ◌%◌, ◌==◌, Bool, false, not, ◌&&◌, ◌||◌, nat_le, if◌then◌else◌, List, [], ◌∷◌, ◌++◌, flat_map}
use Rattle.sy_wire.specs.Messages.{Said}

abbrev pub line_feed : ℕ
line_feed = 10

-- `#`
abbrev pub hash : ℕ
hash = 35

-- as C's `iscntrl` has it in ASCII
abbrev pub is_control : ℕ → Bool
is_control b = nat_le b 31 || (b == 127)

abbrev pub is_octal : ℕ → Bool
is_octal digit = nat_le 48 digit && nat_le digit 55

-- three octal digits come first
abbrev pub begins_octal : List ℕ → Bool
begins_octal (a ∷ b ∷ c ∷ later) = is_octal a && (is_octal b && is_octal c)
begins_octal _ = false

-- a byte is written as an escape, where these come after it
abbrev pub is_escaped : ℕ → List ℕ → Bool
is_escaped b later = is_control b || ((b == hash) && begins_octal later)

-- `#` and the three octal digits of a byte
abbrev pub escape : ℕ → List ℕ
escape b = hash ∷ (48 + b / 8 / 8) ∷ (48 + b / 8 % 8) ∷ (48 + b % 8) ∷ []

-- what is written for a byte, where these come after it
abbrev pub written : ℕ → List ℕ → List ℕ
written b later = if is_escaped b later then escape b else b ∷ []

-- bytes, with escapes in the place of some
unfoldable pub escaped : List ℕ → List ℕ
escaped [] = []
escaped (b ∷ later) = written b later ++ escaped later

-- without one line feed at the end, which many senders put there
unfoldable pub trimmed : List ℕ → List ℕ
trimmed [] = []
trimmed (b ∷ []) = if b == line_feed then [] else b ∷ []
trimmed (a ∷ b ∷ later) = a ∷ trimmed (b ∷ later)

-- the line of a message of these bytes
abbrev pub line_of_bytes : List ℕ → List ℕ
line_of_bytes raw = escaped (trimmed raw) ++ line_feed ∷ []

abbrev pub line_of : Said → List ℕ
line_of message = line_of_bytes message.raw

abbrev pub lines_of : List Said → List ℕ
lines_of messages = flat_map line_of messages

-- A line has one line feed, its last byte; it can be read back; and two messages have one line only where they are the same, but for one line feed at
-- the end.
abbrev pub HasNoFeed : List ℕ → Type 0
HasNoFeed [] = ⊤
HasNoFeed (b ∷ later) = (b ≢ line_feed) × HasNoFeed later

pub record AreExact : Type 0 where
  pub one_line : (bytes : List ℕ) → HasNoFeed (escaped bytes)
  pub one_text : (first second : List ℕ) → escaped first ≡ escaped second → first ≡ second

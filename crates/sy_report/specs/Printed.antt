-- How a name, a word or a path of a file is printed (this profile's own): characters that a terminal shows stand as they are, each other byte is escaped.
use Rattle.std.specs.Prelude.{◌≡◌, ℕ, zero, suc, ◌/◌, ◌%◌, Bool, true, false, not, ◌&&◌, ◌||◌, ◌==◌, List, [], ◌∷◌, ◌++◌, nat_lt, if◌then◌else◌, chars, encode_utf8_all, take}
use Rattle.std.specs.Char.{digit_char, is_control}
use Rattle.std.specs.Int.{is_in_range}
use Rattle.std.specs.List.{list_all}
use Rattle.std.specs.Str.{all_scalars, continuation_len, is_utf8}

-- a character that controls in which direction text is read (Unicode: ALM; LRM, RLM; LRE to RLO; LRI to PDI)
abbrev pub is_direction_control : ℕ → Bool
is_direction_control c = c == 0x61C || is_in_range 0x200E 0x200F c || is_in_range 0x202A 0x202E c || is_in_range 0x2066 0x2069 c

-- the separators of lines and of paragraphs
abbrev pub is_separator : ℕ → Bool
is_separator c = is_in_range 0x2028 0x2029 c

-- a character that stands as it is: no control character (below 32, and 127 to 159), no control of the direction, no separator
abbrev pub is_shown : ℕ → Bool
is_shown c = not (is_control c || is_direction_control c || is_separator c)

-- one such character
abbrev pub is_one_shown : List ℕ → Bool
is_one_shown [] = false
is_one_shown (c ∷ []) = is_shown c
is_one_shown (c ∷ d ∷ more) = false

-- the bytes are one such character in UTF-8
unfoldable pub is_character : List ℕ → Bool
is_character bytes = is_utf8 bytes && is_one_shown (chars bytes)

-- how many bytes the character at the front has, where it is such a one; 0 where none is there
unfoldable pub shown_size : List ℕ → ℕ
shown_size [] = 0
shown_size (b ∷ bytes) = if is_character (take (suc (continuation_len b)) (b ∷ bytes)) then suc (continuation_len b) else 0

-- \x and two digits to the base 16
abbrev pub escaped : ℕ → List ℕ
escaped b = 92 ∷ 120 ∷ digit_char (b / 16 % 16) ∷ digit_char (b % 16) ∷ []

-- of how many bytes from here on it is known that they stand as they are: those of a character that began before, or of one that begins here
abbrev pub standing : ℕ → ℕ → ℕ
standing zero size = size
standing (suc n) size = suc n

-- a byte, and what is printed after it: it stands as it is, with so many after it, or it is escaped
abbrev pub print_byte : (later : ℕ → List ℕ) → ℕ → ℕ → List ℕ
print_byte later b zero = escaped b ++ later 0
print_byte later b (suc n) = b ∷ later n

-- what is printed of bytes, of which so many at the front are of a character that began before
abbrev pub printed_from : List ℕ → ℕ → List ℕ
printed_from [] n = []
printed_from (b ∷ bytes) n = print_byte (printed_from bytes) b (standing n (shown_size (b ∷ bytes)))

-- what is printed
unfoldable pub printed : List ℕ → List ℕ
printed bytes = printed_from bytes 0

-- a printable ASCII character (%d32-126)
abbrev pub is_plain_byte : ℕ → Bool
is_plain_byte b = nat_lt 31 b && nat_lt b 127

-- The text is UTF-8, of characters that stand as they are alone.
pub record IsPrintable (text : List ℕ) : Type 0 where
  pub characters : List ℕ
  pub are_scalars : all_scalars characters ≡ true
  pub are_shown : list_all is_shown characters ≡ true
  pub text_is : text ≡ encode_utf8_all characters

-- What is printed of a name.
use Rattle.std.proofs.Common.{◌≡◌, ℕ, zero, suc, ◌+◌, ◌/◌, ◌%◌, ◌<◌, ◌≤◌, Bool, true, false, ◌&&◌, ◌⊎◌, List, [], ◌∷◌, ◌++◌, length, take, drop, refl, sym, ap, subst, ◌∙◌, arith, ⊎_elim, lt-ltb, le-ltb, Some, None}
use Rattle.std.proofs.Math.Seq.{drop-append_seam, take-append_seam}
use Rattle.std.proofs.lemmas.Bool.{and_parts, cases_lt}
use Rattle.std.proofs.lemmas.Bool.Decides.{nat_tests}
use Rattle.std.proofs.lemmas.List.{append-nil, length-drop, length-take}
use Rattle.std.proofs.lemmas.List.Folds.{list_all-append}
use Rattle.std.proofs.lemmas.Str.{IsUtf8-encode, IsUtf8-from_is_utf8, chars-encodes, chars_past_char, encode_ascii, encodes-chars, encodes-append, is_utf8-from_IsUtf8, scalars-chars}
use Rattle.std.specs.Char.{IsScalar, digit_char, encode_utf8}
use Rattle.std.specs.List.{list_all}
use Rattle.std.specs.Prelude.{IsUtf8, Option, chars, encode_utf8_all, is_some, nat_lt, slice_get}
use Rattle.std.specs.Str.{all_scalars, continuation_len, is_utf8}
use Rattle.sy_report.specs.Printed.{IsPrintable, escaped, is_character, is_one_shown, is_plain_byte, is_shown, printed, printed_from, shown_size}

-- ---- one character

-- these bytes are one character that stands as it is
pub record IsShown (bytes : List ℕ) : Type 0 where
  pub character : ℕ
  pub scalar : IsScalar character
  pub shown : is_shown character ≡ true
  pub bytes_are : bytes ≡ encode_utf8 character

one_of : (cs bytes : List ℕ) → encode_utf8_all cs ≡ bytes → all_scalars cs ≡ true → is_one_shown cs ≡ true → IsShown bytes
one_of [] bytes is scalars shown = absurd (cc)
one_of (c ∷ []) bytes is scalars shown = record {
  character = c;
  scalar = (and_parts _ _ scalars).0;
  shown = shown;
  bytes_are = sym is ∙ append-nil (encode_utf8 c);
}
one_of (c ∷ d ∷ cs) bytes is scalars shown = absurd (cc)

pub character_is : (bytes : List ℕ) → is_character bytes ≡ true → IsShown bytes
unfolding is_character
character_is bytes is =
    let both = and_parts _ _ is in
    let utf8 = IsUtf8-from_is_utf8 bytes both.0 in
    one_of (chars bytes) bytes (encodes-chars bytes utf8) (scalars-chars bytes utf8) both.1

pub is_character-encode : (c : ℕ) → IsScalar c → is_shown c ≡ true → is_character (encode_utf8 c) ≡ true
unfolding is_character
is_character-encode c scalar shown =
    let spelt : chars (encode_utf8 c) ≡ c ∷ [] = ap chars (sym (append-nil (encode_utf8 c))) ∙ chars-encodes (c ∷ []) (rw scalar refl) in
    rw (is_utf8-from_IsUtf8 (encode_utf8 c) (IsUtf8-encode c scalar), spelt) shown

-- a character begins with a byte that says how many bytes it has
record Begins (c : ℕ) : Type 0 where
  first : ℕ
  tail : List ℕ
  is : encode_utf8 c ≡ first ∷ tail
  size : suc (continuation_len first) ≡ length (first ∷ tail)

begins : (c : ℕ) → Begins c
unfolding encode_utf8
begins c =
    ⊎_elim
    (λ one. record { first = c; tail = []; is = rw (lt-ltb c 128 one) refl; size = rw (lt-ltb c 128 one) refl })
    (λ more.
    ⊎_elim
    (λ two. record {
      first = 192 + c / 64;
      tail = (128 + c % 64) ∷ [];
      is = rw (le-ltb c 128 more, lt-ltb c 2048 two) refl;
      size = rw (le-ltb (192 + c / 64) 128 (omega arith), lt-ltb (192 + c / 64) 224 (omega arith)) refl;
    })
    (λ wide.
    ⊎_elim
    (λ three. record {
      first = 224 + c / 4096;
      tail = (128 + (c / 64) % 64) ∷ (128 + c % 64) ∷ [];
      is = rw (le-ltb c 128 more, le-ltb c 2048 wide, lt-ltb c 65536 three) refl;
      size = rw (le-ltb (224 + c / 4096) 128 (omega arith), le-ltb (224 + c / 4096) 224 (omega arith), lt-ltb (224 + c / 4096) 240 (omega arith)) refl;
    })
    (λ four. record {
      first = 240 + c / 262144;
      tail = (128 + (c / 4096) % 64) ∷ (128 + (c / 64) % 64) ∷ (128 + c % 64) ∷ [];
      is = rw (le-ltb c 128 more, le-ltb c 2048 wide, le-ltb c 65536 four) refl;
      size = rw (le-ltb (240 + c / 262144) 128 (omega arith), le-ltb (240 + c / 262144) 224 (omega arith), le-ltb (240 + c / 262144) 240 (omega arith)) refl;
    })
    (cases_lt c 65536))
    (cases_lt c 2048))
    (cases_lt c 128)

-- ---- the character at the front

-- so many bytes at the front are one character that stands as it is
pub record IsFront (bytes : List ℕ) (size : ℕ) : Type 0 where
  pub one : IsShown (take size bytes)
  pub within : size ≤ length bytes

pub front_is : (b : ℕ) (bytes : List ℕ) → is_character (take (suc (continuation_len b)) (b ∷ bytes)) ≡ true → IsFront (b ∷ bytes) (suc (continuation_len b))
front_is b bytes is =
    let o = character_is _ is in
    let h = begins o.character in
    let same : b ∷ take (continuation_len b) bytes ≡ h.first ∷ h.tail = o.bytes_are ∙ h.is in
    let first : b ≡ h.first = cc in
    let counted : suc (length (take (continuation_len b) bytes)) ≡ suc (continuation_len b) =
    ap length same ∙ sym h.size ∙ ap (λ x. suc (continuation_len x)) (sym first) in
    record { one = o; within = omega (arith, counted, length-take (continuation_len b) bytes) }

pub shown_size-is : (b : ℕ) (bytes : List ℕ) → is_character (take (suc (continuation_len b)) (b ∷ bytes)) ≡ true
    → shown_size (b ∷ bytes) ≡ suc (continuation_len b)
unfolding shown_size
shown_size-is b bytes is = rw is refl

pub shown_size-none : (b : ℕ) (bytes : List ℕ) → is_character (take (suc (continuation_len b)) (b ∷ bytes)) ≡ false → shown_size (b ∷ bytes) ≡ 0
unfolding shown_size
shown_size-none b bytes is = rw is refl

pub shown_size-nil : shown_size [] ≡ 0
unfolding shown_size
shown_size-nil = refl

-- of a size above 0
by_test : (b : ℕ) (bytes : List ℕ) (n : ℕ) (test : Bool) → is_character (take (suc (continuation_len b)) (b ∷ bytes)) ≡ test
    → shown_size (b ∷ bytes) ≡ suc n → IsFront (b ∷ bytes) (suc n)
by_test b bytes n true is size = subst (IsFront (b ∷ bytes)) (sym (shown_size-is b bytes is) ∙ size) (front_is b bytes is)
by_test b bytes n false is size = absurd (omega (arith, shown_size-none b bytes is, size))

pub front_of : (bytes : List ℕ) (n : ℕ) → shown_size bytes ≡ suc n → IsFront bytes (suc n)
front_of [] n size = absurd (omega (arith, shown_size-nil, size))
front_of (b ∷ bytes) n size = by_test b bytes n _ refl size

size_by_parts : (first : ℕ) (tail rest : List ℕ) → suc (continuation_len first) ≡ length (first ∷ tail) → is_character (first ∷ tail) ≡ true
    → shown_size ((first ∷ tail) ++ rest) ≡ length (first ∷ tail)
size_by_parts first tail rest size is =
    let front : take (suc (continuation_len first)) ((first ∷ tail) ++ rest) ≡ first ∷ tail =
    ap (λ n. take n ((first ∷ tail) ++ rest)) size ∙ take-append_seam (first ∷ tail) rest in
    shown_size-is first (tail ++ rest) (ap is_character front ∙ is) ∙ size

pub shown_size-encode : (c : ℕ) (rest : List ℕ) → IsScalar c → is_shown c ≡ true → shown_size (encode_utf8 c ++ rest) ≡ length (encode_utf8 c)
shown_size-encode c rest scalar shown =
    let h = begins c in
    let one : is_character (h.first ∷ h.tail) ≡ true = ap is_character (sym h.is) ∙ is_character-encode c scalar shown in
    subst (λ t. shown_size (t ++ rest) ≡ length t) (sym h.is) (size_by_parts h.first h.tail rest h.size one)

-- ---- what is printed

pub printed-nil : printed [] ≡ []
unfolding printed
printed-nil = refl

stands : (bytes : List ℕ) (n : ℕ) → printed_from bytes n ≡ take n bytes ++ printed_from (drop n bytes) 0
stands [] zero = refl
stands [] (suc n) = refl
stands (b ∷ bytes) zero = refl
stands (b ∷ bytes) (suc n) = ap (λ t. b ∷ t) (stands bytes n)

-- a character that stands as it is
pub printed-shown : (bytes : List ℕ) (n : ℕ) → shown_size bytes ≡ suc n → printed bytes ≡ take (suc n) bytes ++ printed (drop (suc n) bytes)
unfolding printed
printed-shown [] n size = absurd (omega (arith, shown_size-nil, size))
printed-shown (b ∷ bytes) n size = rw size (ap (λ t. b ∷ t) (stands bytes n))

-- any other byte
pub printed-escaped : (b : ℕ) (bytes : List ℕ) → shown_size (b ∷ bytes) ≡ 0 → printed (b ∷ bytes) ≡ escaped b ++ printed bytes
unfolding printed
printed-escaped b bytes size = rw size refl

-- ---- it is printable

pub IsPrintable-nil : IsPrintable []
IsPrintable-nil = record { characters = []; are_scalars = refl; are_shown = refl; text_is = refl }

both_true : (a b : Bool) → a ≡ true → b ≡ true → (a && b) ≡ true
both_true a b is also = rw (is, also) refl

scalars-append : (xs ys : List ℕ) → all_scalars xs ≡ true → all_scalars ys ≡ true → all_scalars (xs ++ ys) ≡ true
scalars-append [] ys is also = also
scalars-append (x ∷ xs) ys is also = let both = and_parts _ _ is in both_true _ _ both.0 (scalars-append xs ys both.1 also)

pub IsPrintable-append : (front back : List ℕ) → IsPrintable front → IsPrintable back → IsPrintable (front ++ back)
IsPrintable-append front back f b = record {
  characters = f.characters ++ b.characters;
  are_scalars = scalars-append f.characters b.characters f.are_scalars b.are_scalars;
  are_shown = list_all-append is_shown f.characters b.characters ∙ both_true _ _ f.are_shown b.are_shown;
  text_is = rw (f.text_is, b.text_is) (sym (encodes-append f.characters b.characters));
}

one_printable : (bytes : List ℕ) → IsShown bytes → IsPrintable bytes
one_printable bytes o = record {
  characters = o.character ∷ [];
  are_scalars = both_true _ _ o.scalar refl;
  are_shown = both_true _ _ o.shown refl;
  text_is = o.bytes_are ∙ sym (append-nil (encode_utf8 o.character));
}

-- an ASCII character that is no control character
pub shown_ascii : (c : ℕ) → 32 ≤ c → c < 127 → IsShown (c ∷ [])
shown_ascii c low high = record {
  character = c;
  scalar = grind (arith, nat_tests);
  shown = grind (arith, nat_tests);
  bytes_are = sym (encode_ascii c (omega arith));
}

digit_range : (d : ℕ) → d < 16 → (32 ≤ digit_char d) × (digit_char d < 127)
digit_range d low =
    ⊎_elim
    (λ small. rw (lt-ltb d 10 small) (omega arith, omega arith))
    (λ large. rw (le-ltb d 10 large) (omega arith, omega arith))
    (cases_lt d 10)

more_printable : (c : ℕ) (text : List ℕ) → (32 ≤ c) × (c < 127) → IsPrintable text → IsPrintable (c ∷ text)
more_printable c text range rest = IsPrintable-append (c ∷ []) text (one_printable (c ∷ []) (shown_ascii c range.0 range.1)) rest

escaped_printable : (b : ℕ) → IsPrintable (escaped b)
escaped_printable b =
    more_printable 92 _ (omega arith, omega arith)
    (more_printable 120 _ (omega arith, omega arith)
    (more_printable (digit_char (b / 16 % 16)) _ (digit_range (b / 16 % 16) (omega arith))
    (more_printable (digit_char (b % 16)) _ (digit_range (b % 16) (omega arith)) IsPrintable-nil)))

-- of no more than so many bytes
by_size : (most : ℕ) → ((rest : List ℕ) → length rest ≤ most → IsPrintable (printed rest)) → (b : ℕ) (bytes : List ℕ) (size : ℕ)
    → shown_size (b ∷ bytes) ≡ size → length bytes ≤ most → IsPrintable (printed (b ∷ bytes))
by_size most later b bytes zero size low =
    subst IsPrintable (sym (printed-escaped b bytes size)) (IsPrintable-append (escaped b) (printed bytes) (escaped_printable b) (later bytes low))
by_size most later b bytes (suc n) size low =
    subst IsPrintable (sym (printed-shown (b ∷ bytes) n size))
    (IsPrintable-append (take (suc n) (b ∷ bytes)) (printed (drop (suc n) (b ∷ bytes))) (one_printable _ (front_of (b ∷ bytes) n size).one)
    (later (drop (suc n) (b ∷ bytes)) (omega (arith, low, length-drop n bytes))))

-- of no more than so many bytes
printable_up_to : (most : ℕ) (bytes : List ℕ) → length bytes ≤ most → IsPrintable (printed bytes)
printable_up_to most [] low = subst IsPrintable (sym printed-nil) IsPrintable-nil
printable_up_to zero (b ∷ bytes) low = absurd (omega (arith, low))
printable_up_to (suc most) (b ∷ bytes) low = by_size most (printable_up_to most) b bytes _ refl (omega (arith, low))

pub is_printable : (bytes : List ℕ) → IsPrintable (printed bytes)
is_printable bytes = printable_up_to (length bytes) bytes (omega arith)

-- ---- what is printable is printed as it is

one_unchanged : (c : ℕ) (rest : List ℕ) → IsScalar c → is_shown c ≡ true → printed (encode_utf8 c ++ rest) ≡ encode_utf8 c ++ printed rest
one_unchanged c rest scalar shown =
    let h = begins c in
    let size : shown_size (encode_utf8 c ++ rest) ≡ suc (length h.tail) = shown_size-encode c rest scalar shown ∙ ap length h.is in
    let long : suc (length h.tail) ≡ length (encode_utf8 c) = sym (ap length h.is) in
    printed-shown (encode_utf8 c ++ rest) (length h.tail) size
    ∙ ap (λ n. take n (encode_utf8 c ++ rest) ++ printed (drop n (encode_utf8 c ++ rest))) long
    ∙ ap (λ t. t ++ printed (drop (length (encode_utf8 c)) (encode_utf8 c ++ rest))) (take-append_seam (encode_utf8 c) rest)
    ∙ ap (λ t. encode_utf8 c ++ printed t) (drop-append_seam (encode_utf8 c) rest)

unchanged_characters : (cs : List ℕ) → all_scalars cs ≡ true → list_all is_shown cs ≡ true → printed (encode_utf8_all cs) ≡ encode_utf8_all cs
unchanged_characters [] scalars shown = printed-nil
unchanged_characters (c ∷ cs) scalars shown =
    let scalar = and_parts _ _ scalars in
    let one = and_parts _ _ shown in
    one_unchanged c (encode_utf8_all cs) scalar.0 one.0 ∙ ap (λ t. encode_utf8 c ++ t) (unchanged_characters cs scalar.1 one.1)

pub unchanged : (name : List ℕ) → IsPrintable name → printed name ≡ name
unchanged name is = rw is.text_is (unchanged_characters is.characters is.are_scalars is.are_shown)

-- ---- what the readers of characters answer

more_than_one : (c : ℕ) (cs : List ℕ) → is_some (slice_get cs 0) ≡ true → false ≡ is_one_shown (c ∷ cs)
more_than_one c [] some = absurd (cc)
more_than_one c (d ∷ cs) some = refl

just_one : (c : ℕ) (cs : List ℕ) → is_some (slice_get cs 0) ≡ false → is_shown c ≡ is_one_shown (c ∷ cs)
just_one c [] none = refl
just_one c (d ∷ cs) none = absurd (cc)

-- a text that begins with a character, and whether another comes behind it
pub one_of_more : (text rest : List ℕ) (c : ℕ) (next : Option ℕ) → IsUtf8 text → text ≡ encode_utf8 c ++ rest → next ≡ slice_get (chars rest) 0
    → is_some next ≡ true → false ≡ is_one_shown (chars text)
one_of_more text rest c next utf8 is then some =
    more_than_one c (chars rest) (ap is_some (sym then) ∙ some) ∙ ap is_one_shown (sym (chars_past_char text rest c utf8 is))

pub one_alone : (text rest : List ℕ) (c : ℕ) (next : Option ℕ) → IsUtf8 text → text ≡ encode_utf8 c ++ rest → next ≡ slice_get (chars rest) 0
    → is_some next ≡ false → is_shown c ≡ is_one_shown (chars text)
one_alone text rest c next utf8 is then none =
    just_one c (chars rest) (ap is_some (sym then) ∙ none) ∙ ap is_one_shown (sym (chars_past_char text rest c utf8 is))

pub character-utf8 : (bytes text : List ℕ) → text ≡ bytes → IsUtf8 bytes → is_one_shown (chars text) ≡ is_character bytes
unfolding is_character
character-utf8 bytes text same utf8 = rw (same, is_utf8-from_IsUtf8 bytes utf8) refl

not_true : (b : Bool) → (b ≡ true → ⊥) → b ≡ false
not_true true isnt = absurd (isnt refl)
not_true false isnt = refl

pub character-no_utf8 : (bytes : List ℕ) → (IsUtf8 bytes → ⊥) → false ≡ is_character bytes
unfolding is_character
character-no_utf8 bytes other = rw (not_true (is_utf8 bytes) (λ is. other (IsUtf8-from_is_utf8 bytes is))) refl

pub front_size : (bytes : List ℕ) (b : ℕ) → Some b ≡ slice_get bytes 0 → is_character (take (suc (continuation_len b)) bytes) ≡ true
    → (suc (continuation_len b) ≡ shown_size bytes) × (suc (continuation_len b) ≤ length bytes)
front_size [] b first is = absurd (cc)
front_size (x ∷ bytes) b first is =
    let same : b ≡ x = cc in
    let there : is_character (take (suc (continuation_len x)) (x ∷ bytes)) ≡ true = ap (λ y. is_character (take (suc (continuation_len y)) (x ∷ bytes))) (sym same) ∙ is in
    let size = ap (λ y. suc (continuation_len y)) same in
    (size ∙ sym (shown_size-is x bytes there), subst (λ n. n ≤ length (x ∷ bytes)) (sym size) (front_is x bytes there).within)

pub front_none : (bytes : List ℕ) (b : ℕ) → Some b ≡ slice_get bytes 0 → is_character (take (suc (continuation_len b)) bytes) ≡ false → 0 ≡ shown_size bytes
front_none [] b first is = absurd (cc)
front_none (x ∷ bytes) b first is =
    let same : b ≡ x = cc in
    sym (shown_size-none x bytes (ap (λ y. is_character (take (suc (continuation_len y)) (x ∷ bytes))) (sym same) ∙ is))

pub front_empty : (bytes : List ℕ) → slice_get bytes 0 ≡ None → 0 ≡ shown_size bytes
front_empty [] none = sym shown_size-nil
front_empty (x ∷ bytes) none = absurd (cc)

-- ---- names that are plain

plain_printable : (name : List ℕ) → list_all is_plain_byte name ≡ true → IsPrintable name
plain_printable [] plain = IsPrintable-nil
plain_printable (b ∷ name) plain =
    let both = and_parts (is_plain_byte b) (list_all is_plain_byte name) plain in
    let range = and_parts (nat_lt 31 b) (nat_lt b 127) both.0 in
    more_printable b name (grind (arith, nat_tests, range.0), grind (arith, nat_tests, range.1)) (plain_printable name both.1)

pub plain_unchanged : (name : List ℕ) → list_all is_plain_byte name ≡ true → printed name ≡ name
plain_unchanged name plain = unchanged name (plain_printable name plain)

-- ---- pieces

pub piece_none : (bytes : List ℕ) → slice_get bytes 0 ≡ None → printed bytes ≡ []
piece_none [] none = printed-nil
piece_none (x ∷ bytes) none = absurd (cc)

pub piece_escaped : (bytes behind written : List ℕ) (b : ℕ) → Some b ≡ slice_get bytes 0 → shown_size bytes ≡ 0 → behind ≡ drop 1 bytes
    → written ≡ escaped b → (printed bytes ≡ written ++ printed behind) × (length behind < length bytes)
piece_escaped [] behind written b first size is said = absurd (cc)
piece_escaped (x ∷ bytes) behind written b first size is said =
    let same : b ≡ x = cc in
    let text : written ≡ escaped x = said ∙ ap escaped same in
    (printed-escaped x bytes size ∙ rw (text, is) refl, rw is (omega arith))

at_size : (bytes front behind : List ℕ) (n : ℕ) → shown_size bytes ≡ suc n → suc n ≤ length bytes → front ≡ take (suc n) bytes → behind ≡ drop (suc n) bytes
    → (printed bytes ≡ front ++ printed behind) × (length behind < length bytes)
at_size bytes front behind n size within front_is behind_is =
    (printed-shown bytes n size ∙ rw (front_is, behind_is) refl, omega (arith, ap length behind_is, length-drop (suc n) bytes, within))

pub piece_shown : (bytes front behind : List ℕ) (n : ℕ) → n ≡ shown_size bytes → (n ≡ 0 → ⊥) → n ≤ length bytes → front ≡ take n bytes
    → behind ≡ drop n bytes → (printed bytes ≡ front ++ printed behind) × (length behind < length bytes)
piece_shown bytes front behind zero size some within front_is behind_is = absurd (some refl)
piece_shown bytes front behind (suc n) size some within front_is behind_is = at_size bytes front behind n (sym size) within front_is behind_is

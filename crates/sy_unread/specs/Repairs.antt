-- What a repair makes of a frame's bytes.
use Rattle.std.specs.Prelude.{◌≡◌, ℕ, ◌≤◌, ◌<◌, ◌+◌, ◌*◌, ◌⊎◌, ◌&&◌, Bool, List, [], ◌∷◌, ◌++◌, Option, Some, None, codes, drop, leb, length, map, nat_eq, slice_index, take, if◌then◌else◌}
use Rattle.std.specs.List.{AllByRecursion, concat}
use Rattle.sy_wire.specs.Frames.{MAX_FRAME}
use Rattle.sy_wire.specs.Messages.{IsMessage, IsPri, Said}
use Rattle.sy_wire.specs.Timestamps.{IsTimestamp}
use Rattle.sy_unread.specs.Hints.{hint_of, is_digit}
use Rattle.sy_unread.specs.Words.{IsWord, word_at}
use Rattle.sy_unread.specs.declared.hint.Hint.{Hint}
use Rattle.sy_unread.specs.declared.hint.Hint.TheVariants.{Http, Tls}
use Rattle.sy_unread.specs.Records.{is_print_us_ascii, nil_value}
use Rattle.sy_unread.specs.declared.repaired.Repaired.{Repaired}
use Rattle.sy_unread.specs.declared.repaired.Repair.TheVariants.{Whole}

-- the number of the priority that the bytes begin with, where they begin with one
abbrev pub IsPriorityOf : List ℕ → ℕ → Type 0
IsPriorityOf bytes number = (text rest : List ℕ) (n : ℕ) → IsPri text n → bytes ≡ text ++ rest → number ≡ n

-- The result is a message that a frame may carry. Its text is the bytes from a place on, and so ends with them: that is
-- where their head ends, or their first byte where no head was read.
pub record IsRepair (bytes : List ℕ) (repaired : Repaired) : Type 0 where
  pub is_message : IsMessage repaired.message
  pub fits : length repaired.message.raw ≤ MAX_FRAME
  pub within : repaired.head ≤ length bytes
  pub text : repaired.message.msg ≡ drop repaired.head bytes
  pub whole : repaired.how ≡ Whole → repaired.head ≡ 0
  pub class : IsPriorityOf bytes (8 * repaired.message.class.facility + repaired.message.class.severity)

-- they are no message that a frame may carry
abbrev pub IsUncut : List ℕ → Type 0
IsUncut bytes = (said : Said) → IsMessage said → said.raw ≡ bytes → MAX_FRAME < length bytes

-- how many bytes may be made text by a head that says nothing but a priority of three digits: 19 bytes fewer than a frame carries
abbrev pub MOST_TEXT : ℕ
MOST_TEXT = 65517

-- they begin like what no sender of syslog sends
abbrev pub IsForeign : Hint → Type 0
IsForeign hint = (hint ≡ Tls) ⊎ (hint ≡ Http)

-- No repair is made: they begin so, or they are no message, and are too many to be text.
abbrev pub IsBeyondRepair : List ℕ → Type 0
IsBeyondRepair bytes = IsForeign (hint_of bytes) ⊎ ((MOST_TEXT < length bytes) × IsUncut bytes)

-- a byte of a name: `_` where it is none of PRINTUSASCII
abbrev pub name_byte : ℕ → ℕ
name_byte b = if is_print_us_ascii b then b else 95

-- the first bytes of a name, as many as its field may have at most, or NILVALUE where there is none
abbrev pub name_of : ℕ → List ℕ → List ℕ
name_of most [] = nil_value
name_of most (b ∷ name) = map name_byte (take most (b ∷ name))

-- the fields of a head, as bytes
pub record HeadFields : Type 0 where
  pub pri : List ℕ
  pub timestamp : List ℕ
  pub hostname : List ℕ
  pub app_name : List ℕ
  pub procid : List ℕ
  pub msgid : List ℕ

-- a head of RFC 5424, whatever its fields, with the space after it
abbrev pub head_text : HeadFields → List ℕ
head_text head =
    concat (head.pri ∷ codes "1 " ∷ head.timestamp ∷ codes " " ∷ head.hostname ∷ codes " " ∷ head.app_name ∷ codes " "
    ∷ head.procid ∷ codes " " ∷ head.msgid ∷ codes " " ∷ [])

-- names that fit their fields
abbrev pub fitted : HeadFields → HeadFields
fitted head = record {
  pri = head.pri;
  timestamp = head.timestamp;
  hostname = name_of 255 head.hostname;
  app_name = name_of 48 head.app_name;
  procid = name_of 128 head.procid;
  msgid = name_of 32 head.msgid;
}

abbrev pub BeginsWith : List ℕ → List ℕ → Type 0
BeginsWith front bytes = (rest : List ℕ) × (bytes ≡ front ++ rest)

-- The bytes begin with a head, and the message with the same, whose names fit their fields; NILVALUE may stand for its TIMESTAMP.
pub record IsHeadAnew (bytes raw : List ℕ) : Type 0 where
  pub head : HeadFields
  pub came : BeginsWith (head_text head) bytes
  pub timestamp : List ℕ
  pub same_time : (timestamp ≡ head.timestamp) ⊎ (timestamp ≡ nil_value)
  pub anew : BeginsWith (head_text (fitted (record head { timestamp = timestamp }))) raw

-- The bytes are a head of RFC 5424 and the rest: a priority, version 1 and five words, whatever these are, each with a space after it (section 6).
pub record IsHead5424 (bytes : List ℕ) (head : HeadFields) (rest : List ℕ) : Type 0 where
  pub number : ℕ
  pub is_pri : IsPri head.pri number
  pub words : AllByRecursion IsWord (head.timestamp ∷ head.hostname ∷ head.app_name ∷ head.procid ∷ head.msgid ∷ [])
  pub whole : bytes ≡ head_text head ++ rest

-- a TIMESTAMP stays, and NILVALUE stands for what is none
abbrev pub IsTimeAnew : List ℕ → List ℕ → Type 0
IsTimeAnew came time = (IsTimestamp came × (time ≡ came)) ⊎ (¬ IsTimestamp came × (time ≡ nil_value))

-- a head with this time and names that fit, no structured data, and the rest as text
abbrev pub text_anew : HeadFields → List ℕ → List ℕ → List ℕ
text_anew head time rest = head_text (fitted (record head { timestamp = time })) ++ (codes "- " ++ rest)

-- Whatever head of RFC 5424 they begin with, a frame can't carry it anew with the rest as text.
abbrev pub IsTooLongAnew : List ℕ → Type 0
IsTooLongAnew bytes =
    (head : HeadFields) (time rest : List ℕ) → IsHead5424 bytes head rest → IsTimeAnew head.timestamp time
    → MAX_FRAME < length (text_anew head time rest)

-- A date of RFC 3164 and a space, as `Oct  1 22:14:15 ` (section 4.1.2): its letters, spaces and colons, and the last digit of its day.
abbrev pub is_dated : List ℕ → Bool
is_dated bytes =
    (leb 65 (slice_index bytes 0) && (leb 97 (slice_index bytes 1) && leb 97 (slice_index bytes 2)))
    && ((nat_eq (slice_index bytes 3) 32 && (nat_eq (slice_index bytes 6) 32 && nat_eq (slice_index bytes 15) 32))
    && ((nat_eq (slice_index bytes 9) 58 && nat_eq (slice_index bytes 12) 58) && is_digit (slice_index bytes 5)))

-- a digit, and a `T` ten bytes behind it, as in a time of RFC 3339
abbrev pub is_stamped : List ℕ → Bool
is_stamped bytes = is_digit (slice_index bytes 0) && nat_eq (slice_index bytes 10) 84

-- A time and the bytes behind its space. A date is no TIMESTAMP.
abbrev pub time_at : List ℕ → Option (List ℕ × List ℕ)
time_at bytes = if is_dated bytes then Some (nil_value, drop 16 bytes) else if is_stamped bytes then word_at bytes else None

-- the bytes begin with a head of RFC 3164: a priority, a time and a word for the host (section 4.1)
pub record IsHead3164 (bytes : List ℕ) : Type 0 where
  pub pri : List ℕ
  pub number : ℕ
  pub is_pri : IsPri pri number
  pub rest : List ℕ
  pub whole : bytes ≡ pri ++ rest
  pub time : List ℕ × List ℕ
  pub is_time : time_at rest ≡ Some time
  pub host : List ℕ × List ℕ
  pub is_host : word_at time.1 ≡ Some host

-- how many bytes may have such a head, so that those with the longest head anew fit a frame
abbrev pub MOST_3164 : ℕ
MOST_3164 = 65521

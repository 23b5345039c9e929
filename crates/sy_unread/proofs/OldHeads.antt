-- Heads of RFC 3164, and the messages that are made of them.
use Rattle.std.proofs.Common.{◌≡◌, ℕ, ◌+◌, ◌-◌, ◌/◌, ◌%◌, ◌<◌, ◌≤◌, inl, inr, Bool, true, false, List, [], ◌∷◌, ◌++◌, length, take, drop, map, refl, sym, ap, ◌∙◌, arith, append_assoc, length-append}
use Rattle.std.specs.Prelude.{Some, leb, if◌then◌else◌}
use Rattle.std.specs.List.{AllByRecursion}
use Rattle.std.proofs.lemmas.Bool.{and_parts, leb-true}
use Rattle.std.proofs.lemmas.List.{length-map, length-take, take_at}
use Rattle.std.proofs.Math.Seq.{drop-append_seam}
use Rattle.sy_wire.specs.Characters.{IsPrintUsAscii}
use Rattle.sy_wire.specs.Messages.{IsMessage, IsName, IsPri, Said, spaced}
use Rattle.sy_wire.specs.Timestamps.{IsTimestamp}
use Rattle.sy_wire.proofs.Numerals.{read_is}
use Rattle.sy_unread.specs.Hints.{pri_length}
use Rattle.sy_unread.specs.Records.{is_print_us_ascii}
use Rattle.sy_unread.specs.Repairs.{HeadFields, IsHead3164, fitted, head_text, name_byte, name_of}
use Rattle.sy_unread.specs.internal.Fields.{number_at}
use Rattle.sy_unread.proofs.Classes.{front_is, pri_length_is, same_number}
use Rattle.sy_unread.proofs.HeadTexts.{fields_text}

-- ---- priorities

pri_whole : (bytes text rest : List ℕ) (n : ℕ) (is : IsPri text n) → bytes ≡ text ++ rest → bytes ≡ 60 ∷ (is.0 ++ 62 ∷ rest)
pri_whole bytes text rest n is whole = whole ∙ ap (λ x. x ++ rest) is.2 ∙ ap (λ x. 60 ∷ x) (append_assoc is.0 (62 ∷ []) rest)

pri_size : (bytes text rest : List ℕ) (n : ℕ) (is : IsPri text n) → bytes ≡ text ++ rest → pri_length bytes ≡ length is.0 + 2
pri_size bytes text rest n is whole =
    let size : length text ≡ length is.0 + 2 = ap length is.2 ∙ simp length-append (omega arith) in
    ap pri_length whole ∙ pri_length_is text rest n is ∙ size

pub pri_within : (bytes text rest : List ℕ) (n : ℕ) → IsPri text n → bytes ≡ text ++ rest → (3 ≤ pri_length bytes) × (pri_length bytes ≤ length bytes)
pri_within bytes text rest n is whole =
    let size = pri_size bytes text rest n is whole in
    let some : 0 < length is.0 = is.1.numeral.0 in
    let all : length bytes ≡ length is.0 + (2 + length rest) = ap length (pri_whole bytes text rest n is whole) ∙ simp length-append (omega arith) in
    (omega arith, omega arith)

pub pri_value : (bytes text rest : List ℕ) (n value : ℕ) → IsPri text n → bytes ≡ text ++ rest
    → number_at (take (pri_length bytes - 1 - 1) (drop 1 bytes)) ≡ Some value → value < 192
pri_value bytes text rest n value is whole read =
    let size = pri_size bytes text rest n is whole in
    let digits : take (pri_length bytes - 1 - 1) (drop 1 bytes) ≡ is.0 =
    ap (λ x. take (pri_length bytes - 1 - 1) (drop 1 x)) (pri_whole bytes text rest n is whole) ∙ take_at is.0 (62 ∷ rest) (pri_length bytes - 1 - 1) (omega arith) in
    let same = (read_is 18446744073709551615 value is.0 (sym (ap number_at digits) ∙ read)).2 in
    let number = is.1.value in
    let low = is.1.bound in
    omega arith

-- what is after the priority
pub behind_pri : (bytes pri : List ℕ) (head : IsHead3164 bytes) → pri ≡ take (pri_length bytes) bytes → drop (length pri) bytes ≡ head.rest
behind_pri bytes pri head is =
    let same : pri ≡ head.pri = is ∙ front_is bytes head.pri head.rest head.number head.is_pri head.whole in
    ap (λ x. drop (length x) bytes) same ∙ ap (drop (length head.pri)) head.whole ∙ drop-append_seam head.pri head.rest

-- ---- names

byte_by : (t : Bool) (b : ℕ) → is_print_us_ascii b ≡ t → IsPrintUsAscii (if t then b else 95)
byte_by true b e = let ends = and_parts (leb 33 b) (leb b 126) e in (leb-true 33 b ends.0, leb-true b 126 ends.1)
byte_by false b e = (omega arith, omega arith)

names : (text : List ℕ) → AllByRecursion IsPrintUsAscii (map name_byte text)
names [] = tt
names (b ∷ text) = (byte_by (is_print_us_ascii b) b refl, names text)

name_is : (most : ℕ) (name : List ℕ) → 0 < most → IsName most (name_of most name)
name_is most [] some = inl refl
name_is most (b ∷ name) some =
    let size = length-map (take most (b ∷ name)) name_byte in
    let few = length-take most (b ∷ name) in
    inr (record { some = omega arith; short = omega arith; each = names (take most (b ∷ name)) })

name_size : (most : ℕ) (name : List ℕ) → length (name_of most name) ≤ length name + 1
name_size most [] = omega arith
name_size most (b ∷ name) =
    let size = length-map (take most (b ∷ name)) name_byte in
    let few = length-take most (b ∷ name) in
    omega arith

-- ---- messages

abbrev pub said_anew : (head : HeadFields) (n : ℕ) → n < 192 → List ℕ → Said
said_anew head n low rest = record {
  raw = head_text head ++ 45 ∷ 32 ∷ rest;
  class = record { facility = n / 8; severity = n % 8; facility_in_range = omega arith; severity_in_range = omega arith };
  hostname = head.hostname;
  app_name = head.app_name;
  procid = head.procid;
  msgid = head.msgid;
  msg = rest;
}

parted : (pri t h a p m rest : List ℕ)
    → fields_text pri t h a p m ++ 45 ∷ 32 ∷ rest
    ≡ pri ++ spaced (49 ∷ []) ++ spaced t ++ spaced h ++ spaced a ++ spaced p ++ spaced m ++ (45 ∷ []) ++ (32 ∷ rest)
parted pri t h a p m rest = simp append_assoc

pub anew_message : (head : HeadFields) (n : ℕ) (low : n < 192) (rest : List ℕ) → IsPri head.pri n → IsTimestamp head.timestamp
    → IsMessage (said_anew (fitted head) n low rest)
anew_message head n low rest is time = record {
  pri = head.pri;
  version = 49 ∷ [];
  timestamp = head.timestamp;
  data_text = 45 ∷ [];
  tail = 32 ∷ rest;
  is_pri = rw (same_number n) is;
  is_version = refl;
  is_timestamp = time;
  is_hostname = name_is 255 head.hostname (omega arith);
  is_app_name = name_is 48 head.app_name (omega arith);
  is_procid = name_is 128 head.procid (omega arith);
  is_msgid = name_is 32 head.msgid (omega arith);
  is_data = inl refl;
  is_tail = (refl, refl);
  text = parted head.pri head.timestamp (name_of 255 head.hostname) (name_of 48 head.app_name) (name_of 128 head.procid) (name_of 32 head.msgid) rest;
}

sized : (pri t h a p m rest : List ℕ) → length (fields_text pri t h a p m ++ 45 ∷ 32 ∷ rest)
    ≡ (length pri + length h) + (length a + length p + length rest) + (length t + length m) + 9
sized pri t h a p m rest = simp length-append (omega arith)

pub anew_size : (head : HeadFields) (rest : List ℕ) → head.timestamp ≡ 45 ∷ [] → head.msgid ≡ 45 ∷ []
    → length (head_text (fitted head) ++ 45 ∷ 32 ∷ rest) ≤ (length head.pri + length head.hostname) + (length head.app_name + length head.procid + length rest) + 14
anew_size head rest time none =
    let size = sized head.pri head.timestamp (name_of 255 head.hostname) (name_of 48 head.app_name) (name_of 128 head.procid) (name_of 32 head.msgid) rest in
    let host = name_size 255 head.hostname in
    let app = name_size 48 head.app_name in
    let process = name_size 128 head.procid in
    let first : length head.timestamp ≡ 1 = ap length time in
    let last : length (name_of 32 head.msgid) ≡ 1 = ap (λ x. length (name_of 32 x)) none in
    omega arith

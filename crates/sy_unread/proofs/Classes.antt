-- The priority at the front of bytes, and that a message's text are its last bytes.
use Rattle.std.proofs.Common.{◌≡◌, ℕ, ◌+◌, ◌*◌, ◌/◌, ◌%◌, ◌<◌, ◌≤◌, Bool, true, false, inl, List, [], ◌∷◌, ◌++◌, length, take, refl, sym, ap, ◌∙◌, arith, append_assoc, append-nil, length-append, eqb-true, le-leb}
use Rattle.std.specs.Prelude.{nat_eq}
use Rattle.std.specs.List.{AllByRecursion}
use Rattle.sy_wire.proofs.Priorities.{digits_from_all}
use Rattle.sy_wire.specs.Characters.{IsDigit}
use Rattle.sy_wire.specs.Messages.{IsMessage, IsPri, IsTail, Said}
use Rattle.sy_unread.specs.Hints.{is_digit, pri_length}
use Rattle.sy_unread.proofs.Grammar.{regroup}

digit_is : (b : ℕ) → IsDigit b → is_digit b ≡ true
digit_is b digit = rw (le-leb 48 b digit.0, le-leb b 57 digit.1) refl

not_greater : (b : ℕ) → IsDigit b → nat_eq b 62 ≡ false
not_greater b digit = by (nat_eq b 62) refl
  where
    by : (t : Bool) → nat_eq b 62 ≡ t → nat_eq b 62 ≡ false
    by false e = e
    by true e = absurd (omega (arith, digit.1, eqb-true b 62 e))

length_by : (digits rest : List ℕ) → 0 < length digits → length digits ≤ 3 → AllByRecursion IsDigit digits
    → pri_length (60 ∷ (digits ++ 62 ∷ rest)) ≡ length digits + 2
length_by [] rest some few all = omega arith
length_by (a ∷ []) rest some few all = rw (digit_is a all.0) refl
length_by (a ∷ b ∷ []) rest some few all = rw (digit_is a all.0, digit_is b all.1.0, not_greater b all.1.0) refl
length_by (a ∷ b ∷ c ∷ []) rest some few all =
    rw (digit_is a all.0, digit_is b all.1.0, digit_is c all.1.1.0, not_greater b all.1.0, not_greater c all.1.1.0) refl
length_by (a ∷ b ∷ c ∷ d ∷ more) rest some few all = absurd (omega (arith, few))

pub pri_length_is : (text rest : List ℕ) (n : ℕ) → IsPri text n → pri_length (text ++ rest) ≡ length text
pri_length_is text rest n (digits, priority, is) =
    let whole : text ++ rest ≡ 60 ∷ (digits ++ 62 ∷ rest) = ap (λ x. x ++ rest) is ∙ ap (λ x. 60 ∷ x) (append_assoc digits (62 ∷ []) rest) in
    let size : length text ≡ length digits + 2 = ap length is ∙ simp length-append (omega arith) in
    rw (whole, size) (length_by digits rest (priority.numeral.0) priority.short (digits_from_all digits priority.numeral.1))

pub front_is : (bytes text rest : List ℕ) (n : ℕ) → IsPri text n → bytes ≡ text ++ rest → take (pri_length bytes) bytes ≡ text
front_is bytes text rest n is whole =
    let found : pri_length bytes ≡ length text = ap pri_length whole ∙ pri_length_is text rest n is in
    rw found (ap (take (length text)) whole ∙ take_front text rest)
  where
    take_front : (a b : List ℕ) → take (length a) (a ++ b) ≡ a
    take_front [] b = refl
    take_front (x ∷ a) b = ap (λ y. x ∷ y) (take_front a b)

-- a message that has a priority, and nothing else
abbrev pub said_by : (text : List ℕ) (n : ℕ) → n < 192 → Said
said_by text n low = record {
  raw = text ++ 49 ∷ 32 ∷ 45 ∷ 32 ∷ 45 ∷ 32 ∷ 45 ∷ 32 ∷ 45 ∷ 32 ∷ 45 ∷ 32 ∷ 45 ∷ [];
  class = record { facility = n / 8; severity = n % 8; facility_in_range = omega arith; severity_in_range = omega arith };
  hostname = 45 ∷ [];
  app_name = 45 ∷ [];
  procid = 45 ∷ [];
  msgid = 45 ∷ [];
  msg = [];
}

pub same_number : (n : ℕ) → 8 * (n / 8) + n % 8 ≡ n
same_number n = omega arith

pub pri_message : (text : List ℕ) (n : ℕ) (low : n < 192) → IsPri text n → IsMessage (said_by text n low)
pri_message text n low is = record {
  pri = text;
  version = 49 ∷ [];
  timestamp = 45 ∷ [];
  data_text = 45 ∷ [];
  tail = [];
  is_pri = rw (same_number n) is;
  is_version = refl;
  is_timestamp = inl refl;
  is_hostname = inl refl;
  is_app_name = inl refl;
  is_procid = inl refl;
  is_msgid = inl refl;
  is_data = inl refl;
  is_tail = refl;
  text = sym (regroup text (49 ∷ 32 ∷ []) (45 ∷ 32 ∷ []) (45 ∷ 32 ∷ []) (45 ∷ 32 ∷ []) (45 ∷ 32 ∷ []) (45 ∷ 32 ∷ []) (45 ∷ []) []);
}

behind_by : (raw front tail msg : List ℕ) → raw ≡ front ++ tail → IsTail tail msg → (before : List ℕ) × (raw ≡ before ++ msg)
behind_by raw front [] msg is none = (raw, sym (append-nil raw) ∙ ap (λ x. raw ++ x) (sym none))
behind_by raw front (b ∷ bytes) msg is more =
    (front ++ b ∷ [], is ∙ sym (append_assoc front (b ∷ []) bytes) ∙ ap (λ x. (front ++ b ∷ []) ++ x) (sym more.1))

-- a message ends with its text
pub msg_behind : (m : Said) → IsMessage m → (before : List ℕ) × (m.raw ≡ before ++ m.msg)
msg_behind m is = behind_by m.raw _ is.tail m.msg is.text is.is_tail

-- and begins with its priority
pub pri_before : (m : Said) (is : IsMessage m) → (rest : List ℕ) × (m.raw ≡ is.pri ++ rest)
pri_before m is = (_, is.text ∙ regroup is.pri _ _ _ _ _ _ _ _)

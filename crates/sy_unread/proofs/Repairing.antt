-- What is text behind a head is its last bytes, and all bytes are one message's text.
use Rattle.std.proofs.Common.{◌≡◌, ℕ, ◌+◌, ◌-◌, ◌*◌, ◌/◌, ◌%◌, ◌<◌, ◌≤◌, inl, inr, List, [], ◌∷◌, ◌++◌, length, drop, refl, sym, ap, ◌∙◌, arith, append_assoc, append-nil, length-append}
use Rattle.std.proofs.lemmas.Bool.{cases_lt}
use Rattle.std.proofs.Math.Seq.{drop-append_seam}
use Rattle.std.specs.Fmt.{decimal}
use Rattle.std.proofs.lemmas.Fmt.{decimal_is_IsNumeral, length-decimal-le}
use Rattle.sy_wire.specs.Messages.{IsMessage, IsPriority, IsPri, Said}
use Rattle.sy_unread.specs.internal.{whole_text}
use Rattle.sy_unread.specs.declared.repaired.Repair.TheVariants.{Cut, Whole}
use Rattle.sy_unread.proofs.Grammar.{regroup}

abbrev pub said_of : (n : ℕ) → n < 192 → List ℕ → Said
said_of n low bytes = record {
  raw = whole_text n bytes;
  class = record { facility = n / 8; severity = n % 8; facility_in_range = omega arith; severity_in_range = omega arith };
  hostname = 45 ∷ [];
  app_name = 45 ∷ [];
  procid = 45 ∷ [];
  msgid = 45 ∷ [];
  msg = bytes;
}

priority_is : (n : ℕ) → n < 192 → IsPriority (decimal n) n
priority_is n low =
    let numeral = decimal_is_IsNumeral n (omega arith) in
    record { numeral = numeral.0; short = length-decimal-le 3 n (omega arith) (omega arith) (omega arith); value = numeral.1; bound = low }

pri_is : (n : ℕ) → n < 192 → IsPri (60 ∷ decimal n ++ 62 ∷ []) (8 * (n / 8) + n % 8)
pri_is n low =
    let same : 8 * (n / 8) + n % 8 ≡ n = omega arith in
    rw same (decimal n, priority_is n low, refl)

abbrev behind : List ℕ → List ℕ
behind bytes = 49 ∷ 32 ∷ 45 ∷ 32 ∷ 45 ∷ 32 ∷ 45 ∷ 32 ∷ 45 ∷ 32 ∷ 45 ∷ 32 ∷ 45 ∷ 32 ∷ bytes

text_is : (n : ℕ) (bytes : List ℕ) → whole_text n bytes ≡ (60 ∷ decimal n ++ 62 ∷ []) ++ behind bytes
text_is n bytes =
    ap (λ x. 60 ∷ (decimal n ++ 62 ∷ behind x)) (append-nil bytes)
    ∙ ap (λ x. 60 ∷ x) (sym (append_assoc (decimal n) (62 ∷ []) (behind bytes)))

pub whole_message : (n : ℕ) (bytes : List ℕ) → (low : n < 192) → IsMessage (said_of n low bytes)
whole_message n bytes low = record {
  pri = 60 ∷ decimal n ++ 62 ∷ [];
  version = 49 ∷ [];
  timestamp = 45 ∷ [];
  data_text = 45 ∷ [];
  tail = 32 ∷ bytes;
  is_pri = pri_is n low;
  is_version = refl;
  is_timestamp = inl refl;
  is_hostname = inl refl;
  is_app_name = inl refl;
  is_procid = inl refl;
  is_msgid = inl refl;
  is_data = inl refl;
  is_tail = (refl, refl);
  text = text_is n bytes
      ∙ sym (regroup (60 ∷ decimal n ++ 62 ∷ []) (49 ∷ 32 ∷ []) (45 ∷ 32 ∷ []) (45 ∷ 32 ∷ []) (45 ∷ 32 ∷ []) (45 ∷ 32 ∷ []) (45 ∷ 32 ∷ [])
      (45 ∷ []) (32 ∷ bytes));
}

pub whole_within : (n : ℕ) (bytes : List ℕ) → n < 192 → length (whole_text n bytes) ≤ 19 + length bytes
whole_within n bytes low =
    let digits = length-decimal-le 3 n (omega arith) (omega arith) (omega arith) in
    simp (length-append, append-nil) (omega arith)

-- the last bytes are those after a front
pub last_bytes : (original front msg : List ℕ) → original ≡ front ++ msg → drop (length original - length msg) original ≡ msg
last_bytes original front msg is =
    let whole : length original ≡ length front + length msg = ap length is ∙ length-append front msg in
    let place : length original - length msg ≡ length front = omega arith in
    rw place (ap (λ x. drop (length front) x) is ∙ drop-append_seam front msg)

pub too_many : (most length : ℕ) → (length ≤ most → ⊥) → most < length
too_many most length never = elim (cases_lt most length) [ inl more ↦ more | inr few ↦ absurd (never few) ]

pub cut_is_not_whole : Cut ≡ Whole → ⊥
cut_is_not_whole is = cc

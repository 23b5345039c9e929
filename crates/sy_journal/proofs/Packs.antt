-- Contents that are packed, and frames that are sealed.
use Rattle.std.proofs.Common.{◌≡◌, inl, inr, ℕ, ◌+◌, ◌/◌, ◌%◌, ◌<◌, ◌≤◌, List, [], ◌∷◌, ◌++◌, length, sym, ◌∙◌, ap, arith, append_assoc}
use Rattle.std.proofs.lemmas.Bool.{cases_eq}
use Rattle.std.proofs.lemmas.List.{append-nil}
use Rattle.sy_journal.specs.Frames.{zero_count, number, IsFrame}
use Rattle.sy_journal.specs.Packing.{digits, packed}
use Rattle.sy_journal.proofs.Framing.{zeros_zero, zeros_other}

pub zeros_within : (bytes : List ℕ) → zero_count bytes ≤ length bytes
zeros_within [] = omega arith
zeros_within (b ∷ bytes) = elim (cases_eq b 0) [
  | inl is ↦ omega (arith, zeros_zero b bytes is, zeros_within bytes)
  | inr is ↦ omega (arith, zeros_other b bytes is, zeros_within bytes)
]

pub number_digits : (n : ℕ) → n < 268435456 → number (128 + n % 128) (128 + n / 128 % 128) (128 + n / 16384 % 128) (128 + n / 2097152 % 128) ≡ n
number_digits n small = omega (arith, small)

pub sealed : (content frame : List ℕ) → length content < 268435456 → frame ≡ digits (length content) ++ digits (zero_count content) ++ content → IsFrame content frame
sealed content frame small is = record {
  a = _;
  b = _;
  c = _;
  d = _;
  e = _;
  f = _;
  g = _;
  h = _;
  digits = (omega arith, omega arith, omega arith, omega arith, omega arith, omega arith, omega arith, omega arith);
  size = number_digits (length content) small;
  blanks = number_digits (zero_count content) (omega (arith, small, zeros_within content));
  bytes = is;
}

pub packed-push : (es : List (List ℕ)) (e : List ℕ) → packed (es ++ e ∷ []) ≡ packed es ++ (digits (length e) ++ e)
packed-push [] e = ap (λ (l : List ℕ). digits (length e) ++ l) (append-nil e)
packed-push (x ∷ es) e =
    ap (λ (l : List ℕ). digits (length x) ++ (x ++ l)) (packed-push es e)
    ∙ ap (λ (l : List ℕ). digits (length x) ++ l) (sym (append_assoc x (packed es) (digits (length e) ++ e)))

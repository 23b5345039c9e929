-- What stands in a parameter is a PARAM-VALUE.
use Rattle.std.proofs.Common.{◌≡◌, ◌≢◌, ℕ, ◌<◌, ◌^◌, ◌⊎◌, inl, inr, Bool, true, false, List, [], ◌∷◌, ◌++◌, length, refl, sym, ◌∙◌, arith}
use Rattle.std.specs.Prelude.{◌||◌, ◌&&◌, nat_eq, leb, if◌then◌else◌}
use Rattle.std.specs.List.{AllByRecursion, list_all}
use Rattle.std.specs.Fmt.{decimal}
use Rattle.std.proofs.lemmas.Fmt.{decimal_is_IsNumeral}
use Rattle.std.proofs.lemmas.Bool.{and_parts, eq-eqb, eqb-true, leb-true}
use Rattle.sy_wire.specs.Characters.{IsDigit, IsPrintUsAscii}
use Rattle.sy_wire.specs.StructuredData.{IsEscaped, IsParamValue, empty, escaped, ordinary}
use Rattle.sy_wire.specs.Messages.{IsHostname}
use Rattle.sy_wire.proofs.Priorities.{digits_from_all}
use Rattle.sy_unread.specs.Records as spec

abbrev pub is_escaped : ℕ → Bool
is_escaped b = nat_eq b 34 || (nat_eq b 92 || nat_eq b 93)

one_of : (p q r : Bool) → (p || (q || r)) ≡ true → (p ≡ true) ⊎ ((q ≡ true) ⊎ (r ≡ true))
one_of true q r e = inl refl
one_of false true r e = inr (inl refl)
one_of false false true e = inr (inr refl)
one_of false false false e = cc

pub none_of : (p q r : Bool) → (p || (q || r)) ≡ false → (p ≡ false) × ((q ≡ false) × (r ≡ false))
none_of true q r e = cc
none_of false true r e = cc
none_of false false true e = cc
none_of false false false e = (refl, (refl, refl))

escaped_if : (b : ℕ) → is_escaped b ≡ true → IsEscaped b
escaped_if b e = elim (one_of (nat_eq b 34) (nat_eq b 92) (nat_eq b 93) e) [
  | inl h ↦ inl (eqb-true b 34 h)
  | inr g ↦ elim g [ inl h ↦ inr (inl (eqb-true b 92 h)) | inr h ↦ inr (inr (eqb-true b 93 h)) ]
]

differs : (b k : ℕ) → nat_eq b k ≡ false → b ≢ k
differs b k e same = let there : nat_eq b k ≡ true = eq-eqb b k same in let never : true ≡ false = sym there ∙ e in cc

ordinary_if : (b : ℕ) → is_escaped b ≡ false → ¬ IsEscaped b
ordinary_if b e there =
    let each = none_of (nat_eq b 34) (nat_eq b 92) (nat_eq b 93) e in
    elim there [
      | inl h ↦ differs b 34 each.0 h
      | inr g ↦ elim g [ inl h ↦ differs b 92 each.1.0 h | inr h ↦ differs b 93 each.1.1 h ]
    ]

byte_by : (t : Bool) (b : ℕ) (rest : List ℕ) → is_escaped b ≡ t → IsParamValue rest → IsParamValue ((if t then (92 ∷ b ∷ []) else (b ∷ [])) ++ rest)
byte_by true b rest e v = escaped (escaped_if b e) v
byte_by false b rest e v = ordinary (ordinary_if b e) v

pub escaped_value : (text : List ℕ) → IsParamValue (spec.escaped text)
escaped_value [] = empty
escaped_value (b ∷ text) = byte_by _ b _ refl (escaped_value text)

dash_value : IsParamValue (45 ∷ [])
dash_value = ordinary (ordinary_if 45 refl) empty

digit_is_ordinary : (b : ℕ) → IsDigit b → ¬ IsEscaped b
digit_is_ordinary b h there = elim there [
  | inl e ↦ omega (arith, h.0, h.1, e)
  | inr g ↦ elim g [ inl e ↦ omega (arith, h.0, h.1, e) | inr e ↦ omega (arith, h.0, h.1, e) ]
]

digits_value : (text : List ℕ) → AllByRecursion IsDigit text → IsParamValue text
digits_value [] all = empty
digits_value (b ∷ text) all = ordinary (digit_is_ordinary b all.0) (digits_value text all.1)

pub decimal_value : (n : ℕ) → n < 2 ^ 64 → IsParamValue (decimal n)
decimal_value n fits = digits_value (decimal n) (digits_from_all (decimal n) (decimal_is_IsNumeral n fits).0.1)

value_by : (short : Bool) (text : List ℕ) → IsParamValue (if short then spec.escaped text else spec.nil_value)
value_by true text = escaped_value text
value_by false text = dash_value

pub value_is : (text : List ℕ) → IsParamValue (spec.value_of text)
value_is text = value_by _ text

all_printable : (text : List ℕ) → list_all spec.is_print_us_ascii text ≡ true → AllByRecursion IsPrintUsAscii text
all_printable [] e = tt
all_printable (b ∷ text) e =
    let parts = and_parts (spec.is_print_us_ascii b) (list_all spec.is_print_us_ascii text) e in
    let ends = and_parts (leb 33 b) (leb b 126) parts.0 in
    ((leb-true 33 b ends.0, leb-true b 126 ends.1), all_printable text parts.1)

hostname_by : (is : Bool) (name : List ℕ) → spec.is_hostname name ≡ is → IsHostname (if is then name else spec.nil_value)
hostname_by true name e =
    let first = and_parts (leb 1 (length name)) (leb (length name) 255 && list_all spec.is_print_us_ascii name) e in
    let later = and_parts (leb (length name) 255) (list_all spec.is_print_us_ascii name) first.1 in
    inr (record { some = leb-true 1 (length name) first.0; short = leb-true (length name) 255 later.0; each = all_printable name later.1 })
hostname_by false name e = inl refl

pub hostname_is : (name : List ℕ) → IsHostname (spec.hostname_of name)
hostname_is name = hostname_by (spec.is_hostname name) name refl

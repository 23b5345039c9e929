-- How long the head of a record may be.
use Rattle.std.proofs.Common.{◌≡◌, ℕ, ◌*◌, ◌<◌, ◌≤◌, ◌^◌, Bool, true, false, List, [], ◌∷◌, length, refl, arith, length-append}
use Rattle.std.specs.Prelude.{Option, None, Some, leb, if◌then◌else◌}
use Rattle.std.proofs.lemmas.Fmt.{length-decimal-le}
use Rattle.std.proofs.lemmas.Bool.{and_parts, leb-true}
use Rattle.sy_unread.specs.Records.{escaped, escaped_byte, head, hostname_of, is_hostname, length_text, nil_value, value_of}
use Rattle.sy_unread.specs.internal.{IsInRange}
use Rattle.sy_unread.specs.declared.record.About.{About}

one_or_two : (t : Bool) (b : ℕ) → length (if t then (92 ∷ b ∷ []) else (b ∷ [])) ≤ 2
one_or_two true b = omega arith
one_or_two false b = omega arith

escaped_within : (text : List ℕ) → length (escaped text) ≤ 2 * length text
escaped_within [] = omega arith
escaped_within (b ∷ text) =
    let tail = escaped_within text in
    let first : length (escaped_byte b) ≤ 2 = one_or_two _ b in
    simp length-append (omega arith)

value_by : (short : Bool) (text : List ℕ) → leb (length text) 255 ≡ short → length (if short then escaped text else nil_value) ≤ 510
value_by true text e = let tail = escaped_within text in let short = leb-true (length text) 255 e in omega arith
value_by false text e = omega arith

pub value_within : (text : List ℕ) → length (value_of text) ≤ 510
value_within text = value_by (leb (length text) 255) text refl

hostname_by : (is : Bool) (name : List ℕ) → is_hostname name ≡ is → length (if is then name else nil_value) ≤ 255
hostname_by true name e =
    let rest = and_parts (leb 1 (length name)) _ e in
    let short = leb-true (length name) 255 (and_parts (leb (length name) 255) _ rest.1).0 in
    omega arith
hostname_by false name e = omega arith

pub hostname_within : (name : List ℕ) → length (hostname_of name) ≤ 255
hostname_within name = hostname_by (is_hostname name) name refl

pub length_within : (given : Option ℕ) → ((n : ℕ) → given ≡ Some n → n < 2 ^ 64) → length (length_text given) ≤ 30
length_within None fits = omega arith
length_within (Some n) fits =
    let digits = length-decimal-le 20 n (omega arith) (let f : n < 2 ^ 64 = fits n refl in omega arith) (fits n refl) in
    simp length-append (omega arith)

pub head_within :
    (about : About) (part : List ℕ) → IsInRange about → length part ≤ 16
    → (0 < length (head about part)) × (length (head about part) ≤ 2048)
head_within about part fits short =
    let relay = hostname_within about.relay.now in
    let peer = value_within about.peer.now in
    let fault = value_within about.fault.now in
    let given = length_within about.length fits.length in
    let input = length-decimal-le 20 about.input (omega arith) (omega (arith, fits.input)) fits.input in
    let frame = length-decimal-le 20 about.frame (omega arith) (omega (arith, fits.frame)) fits.frame in
    let at = length-decimal-le 20 about.at (omega arith) (omega (arith, fits.at)) fits.at in
    (omega arith, simp length-append (omega arith))

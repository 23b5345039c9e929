-- Entries at the front of a content.
use Rattle.std.proofs.Common.{◌≡◌, ℕ, ◌+◌, ◌/◌, ◌%◌, ◌<◌, ◌≤◌, List, [], ◌∷◌, ◌++◌, length, get_or, drop, refl, sym, ◌∙◌, ap, arith, append_assoc, length-append}
use Rattle.sy_journal.specs.Frames.{number}
use Rattle.sy_journal.specs.Packing.{digits, packed, AreShort, Unpacked, IsNotPacked}
use Rattle.sy_journal.specs.internal.Reading.{BeginsWithEntry, BeginsWithNoEntry}
use Rattle.sy_journal.proofs.Framing.{front_same, back_same}
use Rattle.sy_journal.proofs.Packs.{number_digits, packed-push}

-- the digits of the number that digits say
digit_a : (a b c d : ℕ) → 128 ≤ a → a < 256 → 128 ≤ b → 128 ≤ c → 128 ≤ d → 128 + number a b c d % 128 ≡ a
digit_a a b c d a0 a1 b0 c0 d0 = omega (arith, a0, a1)

digit_b : (a b c d : ℕ) → 128 ≤ a → a < 256 → 128 ≤ b → b < 256 → 128 ≤ c → 128 ≤ d → 128 + number a b c d / 128 % 128 ≡ b
digit_b a b c d a0 a1 b0 b1 c0 d0 = omega (arith, a0, a1, b0, b1)

digit_c : (a b c d : ℕ) → 128 ≤ a → a < 256 → 128 ≤ b → b < 256 → 128 ≤ c → c < 256 → 128 ≤ d → 128 + number a b c d / 16384 % 128 ≡ c
digit_c a b c d a0 a1 b0 b1 c0 c1 d0 = omega (arith, a0, a1, b0, b1, c0, c1)

digit_d : (a b c d : ℕ) → 128 ≤ a → a < 256 → 128 ≤ b → b < 256 → 128 ≤ c → c < 256 → 128 ≤ d → d < 256 → 128 + number a b c d / 2097152 % 128 ≡ d
digit_d a b c d a0 a1 b0 b1 c0 c1 d0 d1 = omega (arith, a0, a1, b0, b1, c0, c1, d0, d1)

pub record Four (a b c d : ℕ) : Type 0 where
  pub a0 : 128 ≤ a
  pub b0 : 128 ≤ b
  pub c0 : 128 ≤ c
  pub d0 : 128 ≤ d
  pub a1 : a < 256
  pub b1 : b < 256
  pub c1 : c < 256
  pub d1 : d < 256

four_front : (bytes : List ℕ) → 4 ≤ length bytes → bytes ≡ get_or bytes 0 0 ∷ get_or bytes 1 0 ∷ get_or bytes 2 0 ∷ get_or bytes 3 0 ∷ drop 4 bytes
four_front [] long = absurd (omega arith)
four_front (a ∷ []) long = absurd (omega arith)
four_front (a ∷ b ∷ []) long = absurd (omega arith)
four_front (a ∷ b ∷ c ∷ []) long = absurd (omega arith)
four_front (a ∷ b ∷ c ∷ d ∷ bytes) long = refl

pub leads_at : (bytes entry after : List ℕ) → 4 ≤ length bytes → Four (get_or bytes 0 0) (get_or bytes 1 0) (get_or bytes 2 0) (get_or bytes 3 0)
    → drop 4 bytes ≡ entry ++ after → length entry ≡ number (get_or bytes 0 0) (get_or bytes 1 0) (get_or bytes 2 0) (get_or bytes 3 0) → BeginsWithEntry bytes entry after
leads_at bytes entry after long f split size =
    let a = get_or bytes 0 0 in
    let b = get_or bytes 1 0 in
    let c = get_or bytes 2 0 in
    let d = get_or bytes 3 0 in
    let da : 128 + length entry % 128 ≡ a = ap (λ (n : ℕ). 128 + n % 128) size ∙ digit_a a b c d f.a0 f.a1 f.b0 f.c0 f.d0 in
    let db : 128 + length entry / 128 % 128 ≡ b = ap (λ (n : ℕ). 128 + n / 128 % 128) size ∙ digit_b a b c d f.a0 f.a1 f.b0 f.b1 f.c0 f.d0 in
    let dc : 128 + length entry / 16384 % 128 ≡ c = ap (λ (n : ℕ). 128 + n / 16384 % 128) size ∙ digit_c a b c d f.a0 f.a1 f.b0 f.b1 f.c0 f.c1 f.d0 in
    let dd : 128 + length entry / 2097152 % 128 ≡ d = ap (λ (n : ℕ). 128 + n / 2097152 % 128) size ∙ digit_d a b c d f.a0 f.a1 f.b0 f.b1 f.c0 f.c1 f.d0 f.d1 in
    record {
      short = omega (arith, size, f.a1, f.b1, f.c1, f.d1);
      is = four_front bytes long ∙ (λ i. sym da i ∷ sym db i ∷ sym dc i ∷ sym dd i ∷ split i);
    }

pub leads_long : (bytes entry after : List ℕ) → BeginsWithEntry bytes entry after → 4 + length entry + length after ≡ length bytes
leads_long bytes entry after l = omega (arith, ap length l.is, length-append entry after)

pub none_short : (bytes : List ℕ) → length bytes < 4 → BeginsWithNoEntry bytes
none_short bytes short entry after l = omega (arith, short, leads_long bytes entry after l)

front_digits : (bytes entry after : List ℕ) (long : 4 ≤ length bytes) → BeginsWithEntry bytes entry after → get_or bytes 0 0 ∷ get_or bytes 1 0 ∷ get_or bytes 2 0 ∷ get_or bytes 3 0 ∷ drop 4 bytes ≡ digits (length entry) ++ (entry ++ after)
front_digits bytes entry after long l = sym (four_front bytes long) ∙ l.is

pub none_digits : (bytes : List ℕ) → 4 ≤ length bytes → (128 ≤ get_or bytes 0 0 → 128 ≤ get_or bytes 1 0 → 128 ≤ get_or bytes 2 0 → 128 ≤ get_or bytes 3 0 → ⊥) → BeginsWithNoEntry bytes
none_digits bytes long closed entry after l =
    let same = front_digits bytes entry after long l in
    let n = length entry in
    let a : get_or bytes 0 0 ≡ 128 + n % 128 = cc same in
    let b : get_or bytes 1 0 ≡ 128 + n / 128 % 128 = cc same in
    let c : get_or bytes 2 0 ≡ 128 + n / 16384 % 128 = cc same in
    let d : get_or bytes 3 0 ≡ 128 + n / 2097152 % 128 = cc same in
    closed (omega (arith, a)) (omega (arith, b)) (omega (arith, c)) (omega (arith, d))

pub none_size : (bytes : List ℕ) → 4 ≤ length bytes → length (drop 4 bytes) < number (get_or bytes 0 0) (get_or bytes 1 0) (get_or bytes 2 0) (get_or bytes 3 0) → BeginsWithNoEntry bytes
none_size bytes long less entry after l =
    let same = front_digits bytes entry after long l in
    let n = length entry in
    let a : get_or bytes 0 0 ≡ 128 + n % 128 = cc same in
    let b : get_or bytes 1 0 ≡ 128 + n / 128 % 128 = cc same in
    let c : get_or bytes 2 0 ≡ 128 + n / 16384 % 128 = cc same in
    let d : get_or bytes 3 0 ≡ 128 + n / 2097152 % 128 = cc same in
    let behind : drop 4 bytes ≡ entry ++ after = cc same in
    let size : number (get_or bytes 0 0) (get_or bytes 1 0) (get_or bytes 2 0) (get_or bytes 3 0) ≡ n = (λ i. number (a i) (b i) (c i) (d i)) ∙ number_digits n l.short in
    omega (arith, less, size, ap length behind, length-append entry after)

pub one_lead : (bytes x r y s : List ℕ) → BeginsWithEntry bytes x r → BeginsWithEntry bytes y s → (x ≡ y) × (r ≡ s)
one_lead bytes x r y s one other =
    let same : digits (length x) ++ (x ++ r) ≡ digits (length y) ++ (y ++ s) = sym one.is ∙ other.is in
    let m = length x in
    let n = length y in
    let a : 128 + m % 128 ≡ 128 + n % 128 = cc same in
    let b : 128 + m / 128 % 128 ≡ 128 + n / 128 % 128 = cc same in
    let c : 128 + m / 16384 % 128 ≡ 128 + n / 16384 % 128 = cc same in
    let d : 128 + m / 2097152 % 128 ≡ 128 + n / 2097152 % 128 = cc same in
    let behind : x ++ r ≡ y ++ s = cc same in
    let size : m ≡ n = sym (number_digits m one.short) ∙ (λ i. number (a i) (b i) (c i) (d i)) ∙ number_digits n other.short in
    (front_same x y r s size behind, back_same x y r s size behind)

short-push : (entries : List (List ℕ)) (entry : List ℕ) → AreShort entries → length entry < 268435456 → AreShort (entries ++ entry ∷ [])
short-push [] entry short less = (less, tt)
short-push (e ∷ entries) entry short less = (short.0, short-push entries entry short.1 less)

pub unpacked_more : (content : List ℕ) (entries : List (List ℕ)) (rest entry after : List ℕ) → Unpacked content entries rest → BeginsWithEntry rest entry after → Unpacked content (entries ++ entry ∷ []) after
unpacked_more content entries rest entry after u l = record {
  short = short-push entries entry u.short l.short;
  is = u.is ∙ ap (λ (t : List ℕ). packed entries ++ t) l.is
      ∙ ap (λ (t : List ℕ). packed entries ++ t) (sym (append_assoc (digits (length entry)) entry after))
      ∙ sym (append_assoc (packed entries) (digits (length entry) ++ entry) after)
      ∙ ap (λ (t : List ℕ). t ++ after) (sym (packed-push entries entry));
}

-- where entries stand in front, the rest is packed too
behind_packed : (done es : List (List ℕ)) (rest : List ℕ) → AreShort done → AreShort es → packed done ++ rest ≡ packed es → (tail : List (List ℕ)) × AreShort tail × (rest ≡ packed tail)
behind_packed [] es rest small short is = (es, short, is)
behind_packed (d ∷ done) [] rest small short is = absurd (cc is)
behind_packed (d ∷ done) (e ∷ es) rest small short is =
    let whole : packed (d ∷ done) ++ rest ≡ digits (length d) ++ (d ++ (packed done ++ rest)) = ap (λ (t : List ℕ). digits (length d) ++ t) (append_assoc d (packed done) rest) in
    let one : BeginsWithEntry (packed (d ∷ done) ++ rest) d (packed done ++ rest) = record { short = small.0; is = whole } in
    let other : BeginsWithEntry (packed (d ∷ done) ++ rest) e (packed es) = record { short = short.0; is = is } in
    behind_packed done es rest small.1 short.1 (one_lead _ d (packed done ++ rest) e (packed es) one other).1

pub not_packed : (content : List ℕ) (done : List (List ℕ)) (rest : List ℕ) → Unpacked content done rest → 0 < length rest → BeginsWithNoEntry rest → IsNotPacked content
not_packed content done rest u some none es short is =
    let t = behind_packed done es rest u.short short (sym u.is ∙ is) in
    stuck t.0 t.1 t.2
  where
    stuck : (tail : List (List ℕ)) → AreShort tail → rest ≡ packed tail → ⊥
    stuck [] small empty = omega (arith, some, ap length empty)
    stuck (e ∷ tail) small full = none e (packed tail) (record { short = small.0; is = full })

pub unpacked_none : (content : List ℕ) → Unpacked content [] content
unpacked_none content = record { short = tt; is = refl }

pub unpacked_all : (content : List ℕ) (entries : List (List ℕ)) (rest : List ℕ) → length rest ≡ 0 → Unpacked content entries rest → Unpacked content entries []
unpacked_all content entries rest empty u = record { short = u.short; is = u.is ∙ ap (λ (t : List ℕ). packed entries ++ t) (none rest empty) }
  where
    none : (l : List ℕ) → length l ≡ 0 → l ≡ []
    none [] is = refl
    none (x ∷ l) is = absurd (omega (arith, is))

-- a content is packed in one way
pub packed_once : (xs ys : List (List ℕ)) → AreShort xs → AreShort ys → packed xs ≡ packed ys → xs ≡ ys
packed_once [] [] one other same = refl
packed_once [] (y ∷ ys) one other same = absurd (cc same)
packed_once (x ∷ xs) [] one other same = absurd (cc same)
packed_once (x ∷ xs) (y ∷ ys) one other same =
    let a : BeginsWithEntry (packed (x ∷ xs)) x (packed xs) = record { short = one.0; is = refl } in
    let b : BeginsWithEntry (packed (x ∷ xs)) y (packed ys) = record { short = other.0; is = same } in
    let lead = one_lead (packed (x ∷ xs)) x (packed xs) y (packed ys) a b in
    λ i. lead.0 i ∷ packed_once xs ys one.1 other.1 lead.1 i

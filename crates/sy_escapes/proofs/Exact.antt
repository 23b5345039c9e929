-- What is escaped can be read back.
use Rattle.std.proofs.Common.{inl, inr, ◌≡◌, ℕ, zero, suc, ◌+◌, ◌*◌, ◌-◌, ◌/◌, ◌%◌, ◌<◌, ◌≤◌, ◌==◌, ◌&&◌, ◌||◌, not, Bool, true, false, nat_le, List, [], ◌∷◌, ◌++◌, drop, length, Option, Some, None, refl, sym, ap, subst, ◌∙◌, arith, eqb-true, leb-true, leb-false, le-leb}
use Rattle.std.proofs.lemmas.Bool.{and_parts, eqb-false, or_parts, lt-leb}
use Rattle.std.proofs.lemmas.Nat.{div-add-mod', div-mul-add, mod-mul-add, mod_below}
use Rattle.std.specs.Prelude.{◌⊎◌, if◌then◌else◌}
use Rattle.sy_escapes.specs.Escapes.{AreExact, HasNoFeed, begins_octal, escape, escaped, hash, is_control, is_escaped, is_octal, line_feed, trimmed, written}
use Rattle.sy_escapes.specs.internal.Firsts.{by_escape, code, first_of, found}
use Rattle.sy_escapes.specs.internal.Plain.{ArePlain, is_plain}

pub escaped_nil : escaped [] ≡ []
unfolding escaped
escaped_nil = refl

pub step : (b : ℕ) (later : List ℕ) → escaped (b ∷ later) ≡ written b later ++ escaped later
unfolding escaped
step b later = refl

pub stays : (b : ℕ) (later : List ℕ) → is_escaped b later ≡ false → escaped (b ∷ later) ≡ b ∷ escaped later
stays b later is_not = step b later ∙ rw is_not refl

pub changes : (b : ℕ) (later : List ℕ) → is_escaped b later ≡ true → escaped (b ∷ later) ≡ escape b ++ escaped later
changes b later is = step b later ∙ rw is refl

-- ---- octal digits

abbrev octals : ℕ → List ℕ → Bool
octals zero xs = true
octals (suc k) [] = false
octals (suc k) (x ∷ xs) = is_octal x && octals k xs

and_true : (a b c : Bool) → (a && (b && c)) ≡ (a && (b && (c && true)))
and_true true true true = refl
and_true true true false = refl
and_true true false c = refl
and_true false b c = refl

three : (xs : List ℕ) → begins_octal xs ≡ octals 3 xs
three [] = refl
three (a ∷ []) = end (is_octal a)
  where
    end : (x : Bool) → false ≡ (x && false)
    end true = refl
    end false = refl
three (a ∷ b ∷ []) = end (is_octal a) (is_octal b)
  where
    end : (x y : Bool) → false ≡ (x && (y && false))
    end true true = refl
    end true false = refl
    end false y = refl
three (a ∷ b ∷ c ∷ later) = and_true (is_octal a) (is_octal b) (is_octal c)

octal_within : (d : ℕ) → is_octal d ≡ true → (48 ≤ d) × (d ≤ 55)
octal_within d is =
    let both = and_parts (nat_le 48 d) (nat_le d 55) is in
    (leb-true 48 d both.0, leb-true d 55 both.1)

within_octal : (d : ℕ) → 48 ≤ d → d ≤ 55 → is_octal d ≡ true
within_octal d low high = rw (le-leb 48 d low, le-leb d 55 high) refl

differs : (a b : ℕ) → (a ≡ b → ⊥) → (a == b) ≡ false
differs a b not_same = by (a == b) refl
  where
    by : (t : Bool) → (a == b) ≡ t → (a == b) ≡ false
    by false e = e
    by true e = absurd (not_same (eqb-true a b e))

same : (a b : ℕ) → a ≡ b → (a == b) ≡ true
same a b is = by (a == b) refl
  where
    by : (t : Bool) → (a == b) ≡ t → (a == b) ≡ true
    by true e = e
    by false e = absurd (eqb-false a b e is)

-- from 32 on, and neither 127 nor `#`
ordinary : (d : ℕ) (later : List ℕ) → 32 ≤ d → (d ≡ 127 → ⊥) → (d ≡ hash → ⊥) → is_escaped d later ≡ false
ordinary d later low no_delete no_hash = rw (lt-leb d 31 (omega (arith, low)), differs d 127 no_delete, differs d hash no_hash) refl

control_within : (b : ℕ) → is_control b ≡ true → (b ≤ 31) ⊎ (b ≡ 127)
control_within b is = by (nat_le b 31) refl is
  where
    by : (t : Bool) → nat_le b 31 ≡ t → (t || (b == 127)) ≡ true → (b ≤ 31) ⊎ (b ≡ 127)
    by true e is = inl (leb-true b 31 e)
    by false e is = inr (eqb-true b 127 is)

-- ---- first bytes

digit_by : (k x : ℕ) (xs : List ℕ) → octals k (escaped xs) ≡ octals k xs → (t e : Bool) → is_octal x ≡ t → is_escaped x xs ≡ e → octals (suc k) (escaped (x ∷ xs)) ≡ octals (suc k) (x ∷ xs)
digit_by k x xs later true e is _ =
    let within = octal_within x is in
    rw (stays x xs (ordinary x xs (omega (arith, within.0)) (λ q. omega (arith, within.1, q)) (λ q. omega (arith, within.0, q))), later) refl
digit_by k x xs later false true is changed = rw (changes x xs changed, is) refl
digit_by k x xs later false false is stayed = rw (stays x xs stayed, is) refl

-- as many octal digits come first in what is escaped
digits_stay : (k : ℕ) (xs : List ℕ) → octals k (escaped xs) ≡ octals k xs
digits_stay zero xs = refl
digits_stay (suc k) [] = rw escaped_nil refl
digits_stay (suc k) (x ∷ xs) = digit_by k x xs (digits_stay k xs) (is_octal x) (is_escaped x xs) refl refl

pub octal_stays : (xs : List ℕ) → begins_octal (escaped xs) ≡ begins_octal xs
octal_stays xs = three (escaped xs) ∙ digits_stay 3 xs ∙ sym (three xs)

escaped_same : (x : ℕ) (xs : List ℕ) → is_escaped x (escaped xs) ≡ is_escaped x xs
escaped_same x xs = ap (λ t. is_control x || ((x == hash) && t)) (octal_stays xs)

-- ---- numbers of three octal digits

eighths : (n : ℕ) → (n / 8 * 8 + n % 8 ≡ n) × (n % 8 < 8)
eighths n = (div-add-mod' n 8, mod_below n 8 (omega arith))

-- a byte that is escaped is below 128
small : (x : ℕ) (later : List ℕ) → is_escaped x later ≡ true → x ≤ 127
small x later is = by (is_control x) refl is
  where
    by : (t : Bool) → is_control x ≡ t → (t || ((x == hash) && begins_octal later)) ≡ true → x ≤ 127
    by true e is = elim (control_within x e) [ inl low ↦ omega (arith, low) | inr one ↦ omega (arith, one) ]
    by false e is = omega (arith, eqb-true x hash (and_parts (x == hash) (begins_octal later) is).0)

escape_octal : (x : ℕ) (later : List ℕ) → x ≤ 127 → begins_octal ((48 + x / 8 / 8) ∷ (48 + x / 8 % 8) ∷ (48 + x % 8) ∷ later) ≡ true
escape_octal x later low =
    let one = eighths x in
    let two = eighths (x / 8) in
    rw (
      within_octal (48 + x / 8 / 8) (omega arith) (omega (arith, low, one.0, two.0)),
      within_octal (48 + x / 8 % 8) (omega arith) (omega (arith, two.1)),
      within_octal (48 + x % 8) (omega arith) (omega (arith, one.1)),
    ) refl

code_of : (x : ℕ) (later : List ℕ) → code ((48 + x / 8 / 8) ∷ (48 + x / 8 % 8) ∷ (48 + x % 8) ∷ later) ≡ x
code_of x later =
    let one = eighths x in
    let two = eighths (x / 8) in
    omega (arith, one.0, two.0)

digits_of : (a b c : ℕ) → 48 ≤ a → (48 ≤ b) × (b ≤ 55) → (48 ≤ c) × (c ≤ 55) → escape (((a - 48) * 8 + (b - 48)) * 8 + (c - 48)) ≡ hash ∷ a ∷ b ∷ c ∷ []
digits_of a b c low second third =
    let rest : (((a - 48) * 8 + (b - 48)) * 8 + (c - 48)) / 8 ≡ (a - 48) * 8 + (b - 48) = div-mul-add ((a - 48) * 8 + (b - 48)) 8 (c - 48) (omega (arith, third.1)) in
    let last : (((a - 48) * 8 + (b - 48)) * 8 + (c - 48)) % 8 ≡ c - 48 = mod-mul-add ((a - 48) * 8 + (b - 48)) 8 (c - 48) (omega (arith, third.1)) in
    let first : ((a - 48) * 8 + (b - 48)) / 8 ≡ a - 48 = div-mul-add (a - 48) 8 (b - 48) (omega (arith, second.1)) in
    let middle : ((a - 48) * 8 + (b - 48)) % 8 ≡ b - 48 = mod-mul-add (a - 48) 8 (b - 48) (omega (arith, second.1)) in
    let one : 48 + (a - 48) ≡ a = omega (arith, low) in
    let two : 48 + (b - 48) ≡ b = omega (arith, second.0) in
    let three : 48 + (c - 48) ≡ c = omega (arith, third.0) in
    rw (rest, last, first, middle, one, two, three) refl

-- ---- reading

hash_is_hash : (hash == hash) ≡ true
hash_is_hash = refl

-- what is escaped begins with its first byte
first_by : (x : ℕ) (xs : List ℕ) (e : Bool) → is_escaped x xs ≡ e → first_of (escaped (x ∷ xs)) ≡ found x (escaped xs)
first_by x xs true is =
    rw (changes x xs is, escape_octal x (escaped xs) (small x xs is), code_of x (escaped xs), escaped_same x xs, is) refl
first_by x xs false is =
    let parts = or_parts (is_control x) ((x == hash) && begins_octal xs) is in
    rw (stays x xs is, octal_stays xs, parts.1, parts.0) refl

pub first_is : (x : ℕ) (xs : List ℕ) → first_of (escaped (x ∷ xs)) ≡ found x (escaped xs)
first_is x xs = first_by x xs (is_escaped x xs) refl

some_same : {x y : ℕ} {xs ys : List ℕ} → found x xs ≡ found y ys → (x ≡ y) × (xs ≡ ys)
some_same is = (ap (λ o. first_or o) is, ap (λ o. rest_or o) is)
  where
    first_or : Option (ℕ × List ℕ) → ℕ
    first_or None = 0
    first_or (Some p) = p.0

    rest_or : Option (ℕ × List ℕ) → List ℕ
    rest_or None = []
    rest_or (Some p) = p.1

-- the bytes of a line whose first byte is known
pub next_is : (x : ℕ) (xs rest after : List ℕ) (n : ℕ) → escaped (x ∷ xs) ≡ rest → first_of rest ≡ found n after → (x ≡ n) × (escaped xs ≡ after)
next_is x xs rest after n is first = some_same (sym (first_is x xs) ∙ ap first_of is ∙ first)

-- no line that has no first byte is that of such bytes
pub none_is : (x : ℕ) (xs rest : List ℕ) → escaped (x ∷ xs) ≡ rest → first_of rest ≡ None → ⊥
none_is x xs rest is none = differ (sym (first_is x xs) ∙ ap first_of is ∙ none)
  where
    differ : {p : ℕ × List ℕ} → Some p ≡ None → ⊥
    differ q = cc

pub one_text : (first second : List ℕ) → escaped first ≡ escaped second → first ≡ second
one_text [] [] is = refl
one_text [] (y ∷ ys) is = absurd (none_is y ys [] (sym is ∙ escaped_nil) refl)
one_text (x ∷ xs) [] is = absurd (none_is x xs [] (is ∙ escaped_nil) refl)
one_text (x ∷ xs) (y ∷ ys) is =
    let both = next_is x xs (escaped (y ∷ ys)) (escaped ys) y is (first_is y ys) in
    rw (both.0, one_text xs ys both.1) refl

abbrev number : ℕ → ℕ → ℕ → ℕ
number a b c = ((a - 48) * 8 + (b - 48)) * 8 + (c - 48)

-- what is read first is what is escaped first
escape_read : (m later after : List ℕ) (x n : ℕ) → begins_octal later ≡ true → by_escape (code later) (drop 3 later) ≡ found n after → escaped m ≡ after → escaped (n ∷ m) ≡ hash ∷ later
escape_read m [] after x n octal read is = cc
escape_read m (a ∷ []) after x n octal read is = cc
escape_read m (a ∷ b ∷ []) after x n octal read is = cc
escape_read m (a ∷ b ∷ c ∷ later) after x n octal read is = by (is_escaped (number a b c) later) refl read
  where
    by : (t : Bool) → is_escaped (number a b c) later ≡ t → (if t then found (number a b c) later else None) ≡ found n after → escaped (n ∷ m) ≡ hash ∷ (a ∷ b ∷ c ∷ later)
    by false e read = cc
    by true e read =
        let same = some_same read in
        let front = and_parts (is_octal a) (is_octal b && is_octal c) octal in
        let back = and_parts (is_octal b) (is_octal c) front.1 in
        let whole : escaped m ≡ later = is ∙ sym same.1 in
        let changed : is_escaped (number a b c) m ≡ true = sym (escaped_same (number a b c) m) ∙ ap (is_escaped (number a b c)) whole ∙ e in
        ap (λ k. escaped (k ∷ m)) (sym same.0) ∙ changes (number a b c) m changed
        ∙ ap (λ e. e ++ escaped m) (digits_of a b c (octal_within a front.0).0 (octal_within b back.0) (octal_within c back.1)) ∙ ap (λ t. hash ∷ a ∷ b ∷ c ∷ t) whole

plain_read : (m later after : List ℕ) (b n : ℕ) → ((b == hash) && begins_octal later) ≡ false → (if is_control b then None else found b later) ≡ found n after → escaped m ≡ after → escaped (n ∷ m) ≡ b ∷ later
plain_read m later after b n no_escape read is = by (is_control b) refl read
  where
    by : (t : Bool) → is_control b ≡ t → (if t then None else found b later) ≡ found n after → escaped (n ∷ m) ≡ b ∷ later
    by true e read = cc
    by false e read =
        let same = some_same read in
        let whole : escaped m ≡ later = is ∙ sym same.1 in
        let stayed : is_escaped b m ≡ false = sym (escaped_same b m) ∙ ap (is_escaped b) whole ∙ rw (e, no_escape) refl in
        ap (λ k. escaped (k ∷ m)) (sym same.0) ∙ stays b m stayed ∙ ap (λ t. b ∷ t) whole

pub read_is : (m rest after : List ℕ) (n : ℕ) → first_of rest ≡ found n after → escaped m ≡ after → escaped (n ∷ m) ≡ rest
read_is m [] after n read is = cc
read_is m (b ∷ later) after n read is = by ((b == hash) && begins_octal later) refl read
  where
    by :
        (t : Bool) → ((b == hash) && begins_octal later) ≡ t
        → (if t then by_escape (code later) (drop 3 later) else (if is_control b then None else found b later)) ≡ found n after → escaped (n ∷ m) ≡ b ∷ later
    by true e read =
        let both = and_parts (b == hash) (begins_octal later) e in
        escape_read m later after b n both.1 read is ∙ ap (λ k. k ∷ later) (sym (eqb-true b hash both.0))
    by false e read = plain_read m later after b n e read is

-- ---- one line

no_feed : (b : ℕ) → (b ≡ 10 → ⊥) → (later : List ℕ) → HasNoFeed later → HasNoFeed (b ∷ later)
no_feed b differs later rest = (differs, rest)

one_by : (b : ℕ) (later : List ℕ) → HasNoFeed (escaped later) → (e : Bool) → is_escaped b later ≡ e → HasNoFeed (escaped (b ∷ later))
one_by b later rest true is = subst HasNoFeed (sym (changes b later is)) ((λ q. omega (arith, q)), ((λ q. omega (arith, q)), ((λ q. omega (arith, q)), ((λ q. omega (arith, q)), rest))))
one_by b later rest false is =
    let control = (or_parts (is_control b) ((b == hash) && begins_octal later) is).0 in
    let low = leb-false b 31 (or_parts (nat_le b 31) (b == 127) control).0 in
    subst HasNoFeed (sym (stays b later is)) ((λ q. omega (arith, q, low)), rest)

pub one_line : (bytes : List ℕ) → HasNoFeed (escaped bytes)
one_line [] = subst HasNoFeed (sym escaped_nil) tt
one_line (b ∷ later) = one_by b later (one_line later) (is_escaped b later) refl

pub are_exact : AreExact
are_exact = record { one_line = one_line; one_text = one_text }

-- ---- bytes that are written as they are

plain_next : (b : ℕ) (later : List ℕ) → is_plain b ≡ true → escaped (b ∷ later) ≡ b ∷ escaped later
plain_next b later is =
    let both = and_parts (not (is_control b)) (not (b == hash)) is in
    stays b later (rw (not_true (is_control b) both.0, not_true (b == hash) both.1) refl)
  where
    not_true : (t : Bool) → not t ≡ true → t ≡ false
    not_true false e = refl
    not_true true e = cc

pub plain_stays : (xs ys : List ℕ) → ArePlain xs → escaped (xs ++ ys) ≡ xs ++ escaped ys
plain_stays [] ys are = refl
plain_stays (x ∷ xs) ys are = plain_next x (xs ++ ys) are.0 ∙ ap (λ t. x ∷ t) (plain_stays xs ys are.1)

pub plain_more : (xs : List ℕ) (x : ℕ) → ArePlain xs → is_plain x ≡ true → ArePlain (xs ++ x ∷ [])
plain_more [] x are is = (is, tt)
plain_more (y ∷ xs) x are is = (are.0, plain_more xs x are.1 is)

pub trimmed_feed : (front : List ℕ) → trimmed (front ++ line_feed ∷ []) ≡ front
unfolding trimmed
trimmed_feed [] = refl
trimmed_feed (a ∷ []) = refl
trimmed_feed (a ∷ b ∷ front) = ap (λ t. a ∷ t) (trimmed_feed (b ∷ front))

last_by : (b : ℕ) → (b ≡ line_feed → ⊥) → (t : Bool) → (b == line_feed) ≡ t → (if t then [] else b ∷ []) ≡ b ∷ []
last_by b differ true e = absurd (differ (eqb-true b line_feed e))
last_by b differ false e = refl

pub trimmed_other : (front : List ℕ) (last : ℕ) → (last ≡ line_feed → ⊥) → trimmed (front ++ last ∷ []) ≡ front ++ last ∷ []
unfolding trimmed
trimmed_other [] last differ = last_by last differ (last == line_feed) refl
trimmed_other (a ∷ []) last differ = ap (λ t. a ∷ t) (last_by last differ (last == line_feed) refl)
trimmed_other (a ∷ b ∷ front) last differ = ap (λ t. a ∷ t) (trimmed_other (b ∷ front) last differ)

pub trimmed_nil : trimmed [] ≡ []
unfolding trimmed
trimmed_nil = refl

pub empty : (xs : List ℕ) → length xs ≡ 0 → xs ≡ []
empty [] is = refl
empty (x ∷ xs) is = absurd (omega (arith, is))

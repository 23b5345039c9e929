-- Lines that are written in parts.
use Rattle.std.proofs.Common.{◌≡◌, ℕ, zero, suc, ◌+◌, ◌/◌, ◌%◌, ◌^◌, ◌<◌, ◌≤◌, List, [], ◌∷◌, ◌++◌, get_or, length, map, take, drop, refl, sym, ap, subst, ◌∙◌, arith}
use Rattle.std.specs.Prelude.{Option, Some, None}
use Rattle.std.specs.Fmt.{decimal}
use Rattle.std.proofs.lemmas.Fmt.{decimal_digit, decimal_step}
use Rattle.std.specs.Io.KnownBytes.{Appends, Keeps}
use Rattle.std.proofs.KnownBytes.{Appends-trans, Appends-kept}
use Rattle.std.proofs.lemmas.List.{append_assoc, append-nil, take-append-drop, drop-take, take-take}
use Rattle.sy_report.specs.Reports.{Torn, joined}

pub torn_at : (a b c : Option (List ℕ)) (bytes : List ℕ) (at : ℕ) → Appends a b (take at bytes) → Keeps b c → Torn a c bytes
torn_at a b c bytes at wrote kept = record { part = take at bytes; tail = drop at bytes; wrote = Appends-kept a b c (take at bytes) wrote kept; front = sym (take-append-drop at bytes) }

pub keeps_nil : (a b : Option (List ℕ)) → Appends a b [] → Keeps a b
keeps_nil None b h = tt
keeps_nil (Some xs) None h = h
keeps_nil (Some xs) (Some ys) h = h ∙ append-nil xs

pub appends_kept_front : (a b c : Option (List ℕ)) (bytes : List ℕ) → Keeps a b → Appends b c bytes → Appends a c bytes
appends_kept_front None b c bytes kept wrote = tt
appends_kept_front (Some xs) None c bytes kept wrote = absurd kept
appends_kept_front (Some xs) (Some ys) None bytes kept wrote = wrote
appends_kept_front (Some xs) (Some ys) (Some zs) bytes kept wrote = wrote ∙ ap (λ x. x ++ bytes) kept

pub take_add : (a n : ℕ) (xs : List ℕ) → take (a + n) xs ≡ take a xs ++ take n (drop a xs)
take_add a n xs = sym (take-append-drop a (take (a + n) xs)) ∙ rw (drop-take a n xs, take-take a (a + n) xs (omega arith)) refl

pub appends_more : (a b c : Option (List ℕ)) (bytes rest : List ℕ) (at n : ℕ) → Appends a b (take at bytes) → rest ≡ drop at bytes → Appends b c (take n rest) → Appends a c (take (at + n) bytes)
appends_more a b c bytes rest at n first is more = rw (take_add at n bytes, ← is) (Appends-trans a b c (take at bytes) (take n rest) first more)

-- of two parts the first was torn
pub torn_first : (a b : Option (List ℕ)) (front back : List ℕ) → Torn a b front → Torn a b (front ++ back)
torn_first a b front back t = record { part = t.part; tail = t.tail ++ back; wrote = t.wrote; front = ap (λ x. x ++ back) t.front ∙ append_assoc t.part t.tail back }

pub torn_second : (a b c : Option (List ℕ)) (front back : List ℕ) → Appends a b front → Torn b c back → Torn a c (front ++ back)
torn_second a b c front back wrote t = record { part = front ++ t.part; tail = t.tail; wrote = Appends-trans a b c front t.part wrote t.wrote; front = ap (λ x. front ++ x) t.front ∙ sym (append_assoc front t.part t.tail) }

-- a number's last digit after the others
pub decimal_more : (a b c : Option (List ℕ)) (n : ℕ) → n < 2 ^ 64 → 10 ≤ n → Appends a b (decimal (n / 10)) → Appends b c ((48 + n % 10) ∷ []) → Appends a c (decimal n)
decimal_more a b c n small large front last = rw (decimal_step n (omega arith) (omega arith)) (Appends-trans a b c (decimal (n / 10)) ((48 + n % 10) ∷ []) front last)

pub decimal_one : (a b : Option (List ℕ)) (n : ℕ) → n < 10 → Appends a b ((48 + n % 10) ∷ []) → Appends a b (decimal n)
decimal_one a b n small last = let same : n % 10 ≡ n = omega arith in rw (decimal_digit n small) (rw same at last)

-- all was written, and then nothing more
pub torn_nowhere : (a b c : Option (List ℕ)) (bytes : List ℕ) → Appends a b bytes → Keeps b c → Torn a c bytes
torn_nowhere a b c bytes wrote kept = record { part = bytes; tail = []; wrote = Appends-kept a b c bytes wrote kept; front = sym (append-nil bytes) }

-- a number was torn before its last digit, or in it
pub torn_front_digits : (a b : Option (List ℕ)) (n : ℕ) → n < 2 ^ 64 → 10 ≤ n → Torn a b (decimal (n / 10)) → Torn a b (decimal n)
torn_front_digits a b n small large t = rw (decimal_step n (omega arith) (omega arith)) (torn_first a b (decimal (n / 10)) ((48 + n % 10) ∷ []) t)

pub torn_last_digit : (a b c : Option (List ℕ)) (n : ℕ) → n < 2 ^ 64 → 10 ≤ n → Appends a b (decimal (n / 10)) → Torn b c ((48 + n % 10) ∷ []) → Torn a c (decimal n)
torn_last_digit a b c n small large front last = rw (decimal_step n (omega arith) (omega arith)) (torn_second a b c (decimal (n / 10)) ((48 + n % 10) ∷ []) front last)

pub torn_one_digit : (a b : Option (List ℕ)) (n : ℕ) → n < 10 → Torn a b ((48 + n % 10) ∷ []) → Torn a b (decimal n)
torn_one_digit a b n small last = let same : n % 10 ≡ n = omega arith in rw (decimal_digit n small) (rw same at last)

-- ---- texts one behind the other

texts_cut : {A : Type 0} (f : A → List ℕ) (xs : List A) (i : ℕ) (d : A) → i < length xs
    → joined (map f xs) ≡ joined (map f (take i xs)) ++ (f (get_or xs i d) ++ joined (map f (drop (suc i) xs)))
texts_cut f [] i d low = absurd (omega (arith, low))
texts_cut f (x ∷ xs) zero d low = refl
texts_cut f (x ∷ xs) (suc i) d low =
    ap (λ t. f x ++ t) (texts_cut f xs i d (omega (arith, low)))
    ∙ sym (append_assoc (f x) (joined (map f (take i xs))) (f (get_or xs i d) ++ joined (map f (drop (suc i) xs))))

-- one of them was torn
pub torn_text : {A : Type 0} (a b c : Option (List ℕ)) (f : A → List ℕ) (xs : List A) (i : ℕ) (d : A) → i < length xs
    → Appends a b (joined (map f (take i xs))) → Torn b c (f (get_or xs i d)) → Torn a c (joined (map f xs))
torn_text a b c f xs i d low wrote t =
    rw (texts_cut f xs i d low)
    (torn_second a b c (joined (map f (take i xs))) (f (get_or xs i d) ++ joined (map f (drop (suc i) xs))) wrote
    (torn_first b c (f (get_or xs i d)) (joined (map f (drop (suc i) xs))) t))

-- ---- a name in pieces

pub torn_piece : (a b c : Option (List ℕ)) (whole front rest piece behind written : List ℕ) → Appends a b front → whole ≡ front ++ rest → rest ≡ piece ++ behind
    → written ≡ piece → Torn b c written → Torn a c whole
torn_piece a b c whole front rest piece behind written wrote is begins same t =
    rw (is, begins) (torn_second a b c front (piece ++ behind) wrote (torn_first b c piece behind (subst (Torn b c) same t)))

-- the next piece was written
pub piece_more : (a b c : Option (List ℕ)) (whole front rest piece behind written : List ℕ) → Appends a b front → whole ≡ front ++ rest → rest ≡ piece ++ behind
    → written ≡ piece → Appends b c written → (more : List ℕ) × Appends a c more × (whole ≡ more ++ behind)
piece_more a b c whole front rest piece behind written wrote is begins same more = (
  front ++ piece,
  Appends-trans a b c front piece wrote (subst (Appends b c) same more),
  rw (is, begins) (sym (append_assoc front piece behind)),
)

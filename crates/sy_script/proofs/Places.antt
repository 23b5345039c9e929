-- The line and the column of a place.
use Rattle.std.proofs.Common.{◌≡◌, ◌≢◌, ◌⊎◌, inl, inr, ℕ, ◌+◌, Bool, true, false, cond, List, [], ◌∷◌, ◌++◌, refl, sym, ap, ◌∙◌, subst, append_assoc, append-nil, arith, length, length-append}
use Rattle.std.specs.Prelude.{◌==◌}
use Rattle.std.proofs.lemmas.Bool.Decides.{eqb_tells}
use Rattle.sy_script.specs.internal.Answer.{place_from, place}
use Rattle.sy_script.specs.Place.{feeds, IsOneLine, IsPlace}

feeds_by : (t : Bool) (x y z : ℕ) → x ≡ y + z → cond t (x + 1) x ≡ cond t (y + 1) y + z
feeds_by true x y z h = omega arith
feeds_by false x y z h = h

feeds_push : (bytes : List ℕ) (b : ℕ) → feeds (bytes ++ b ∷ []) ≡ feeds bytes + feeds (b ∷ [])
feeds_push [] b = omega arith
feeds_push (c ∷ bytes) b = feeds_by (c == 10) (feeds (bytes ++ b ∷ [])) (feeds bytes) (feeds (b ∷ [])) (feeds_push bytes b)

one_line_push : (bytes : List ℕ) (b : ℕ) → IsOneLine bytes → b ≢ 10 → IsOneLine (bytes ++ b ∷ [])
one_line_push [] b h other = (other, tt)
one_line_push (c ∷ bytes) b h other = (h.0, one_line_push bytes b h.1 other)

next_line : (before : List ℕ) (line column b : ℕ) → (b == 10) ≡ true → b ≡ 10 → IsPlace before line column → IsPlace (before ++ b ∷ []) (line + 1) 1
next_line before line column b test is p =
    let one : feeds (b ∷ []) ≡ 1 = ap (λ t. cond t (0 + 1) 0) test in
    record {
      above = before ++ b ∷ [];
      last = [];
      is_before = sym (append-nil (before ++ b ∷ []));
      is_one_line = tt;
      is_above = inr (before, ap (λ c. before ++ c ∷ []) is);
      line_is = omega (arith, feeds_push before b, p.line_is);
      column_is = omega arith;
    }

next_column : (before : List ℕ) (line column b : ℕ) → (b == 10) ≡ false → b ≢ 10 → IsPlace before line column → IsPlace (before ++ b ∷ []) line (column + 1)
next_column before line column b test other p =
    let none : feeds (b ∷ []) ≡ 0 = ap (λ t. cond t (0 + 1) 0) test in
    record {
      above = p.above;
      last = p.last ++ b ∷ [];
      is_before = ap (λ l. l ++ b ∷ []) p.is_before ∙ append_assoc p.above p.last (b ∷ []);
      is_one_line = one_line_push p.last b p.is_one_line other;
      is_above = p.is_above;
      line_is = omega (arith, feeds_push before b, p.line_is);
      column_is = omega (arith, length-append p.last (b ∷ []), p.column_is);
    }

-- what the rest of the bytes makes of a place
places : (before : List ℕ) (line column : ℕ) (bytes : List ℕ) → IsPlace before line column → IsPlace (before ++ bytes) (place_from line column bytes).0 (place_from line column bytes).1
places before line column [] p = let P : List ℕ → Type 0 = λ l. IsPlace l line column in subst P (sym (append-nil before)) p
places before line column (b ∷ bytes) p =
    let P : List ℕ → Type 0 = λ l. IsPlace l (place_from line column (b ∷ bytes)).0 (place_from line column (b ∷ bytes)).1 in
    subst P (append_assoc before (b ∷ []) bytes) (elim (eqb_tells b 10) [
      | inl t ↦ lines t.0 (places (before ++ b ∷ []) (line + 1) 1 bytes (next_line before line column b t.0 t.1 p))
      | inr t ↦ columns t.0 (places (before ++ b ∷ []) line (column + 1) bytes (next_column before line column b t.0 t.1 p))
    ])
  where
    lines : (b == 10) ≡ true → IsPlace ((before ++ b ∷ []) ++ bytes) (place_from (line + 1) 1 bytes).0 (place_from (line + 1) 1 bytes).1 → IsPlace ((before ++ b ∷ []) ++ bytes) (place_from line column (b ∷ bytes)).0 (place_from line column (b ∷ bytes)).1
    lines test h = let Q : Bool → Type 0 = λ t. IsPlace ((before ++ b ∷ []) ++ bytes) (cond t (place_from (line + 1) 1 bytes) (place_from line (column + 1) bytes)).0 (cond t (place_from (line + 1) 1 bytes) (place_from line (column + 1) bytes)).1 in subst Q (sym test) h

    columns : (b == 10) ≡ false → IsPlace ((before ++ b ∷ []) ++ bytes) (place_from line (column + 1) bytes).0 (place_from line (column + 1) bytes).1 → IsPlace ((before ++ b ∷ []) ++ bytes) (place_from line column (b ∷ bytes)).0 (place_from line column (b ∷ bytes)).1
    columns test h = let Q : Bool → Type 0 = λ t. IsPlace ((before ++ b ∷ []) ++ bytes) (cond t (place_from (line + 1) 1 bytes) (place_from line (column + 1) bytes)).0 (cond t (place_from (line + 1) 1 bytes) (place_from line (column + 1) bytes)).1 in subst Q (sym test) h

pub is_place : (before : List ℕ) → IsPlace before (place before).0 (place before).1
unfolding place
is_place before = places [] 1 1 before (record { above = []; last = []; is_before = refl; is_one_line = tt; is_above = inl refl; line_is = refl; column_is = refl })

-- ---- one line and one column

has_feed : (lines : List ℕ) → IsOneLine (lines ++ 10 ∷ []) → ⊥
has_feed [] h = h.0 refl
has_feed (b ∷ lines) h = has_feed lines h.1

one_line_front : (front rest : List ℕ) → IsOneLine (front ++ rest) → IsOneLine front
one_line_front [] rest h = tt
one_line_front (b ∷ front) rest h = (h.0, one_line_front front rest h.1)

no_bytes : (a b : List ℕ) → [] ≡ a ++ b → b ≡ []
no_bytes [] b e = sym e
no_bytes (x ∷ a) b e = absurd cc

-- what ends in a line feed ends in no bytes of one line
ends_in_feed : (lines above more : List ℕ) → lines ++ 10 ∷ [] ≡ above ++ more → IsOneLine more → more ≡ []
ends_in_feed lines [] more e h = absurd (has_feed lines (subst (λ (l : List ℕ). IsOneLine l) (sym e) h))
ends_in_feed [] (b ∷ above) more e h = no_bytes above more (let tails : [] ≡ above ++ more = cc in tails)
ends_in_feed (x ∷ lines) (b ∷ above) more e h = ends_in_feed lines above more (let tails : lines ++ 10 ∷ [] ≡ above ++ more = cc in tails) h

-- of two cuts of one list one is no later than the other
two_cuts : (a b c d : List ℕ) → a ++ b ≡ c ++ d → ((more : List ℕ) × (c ≡ a ++ more) × (b ≡ more ++ d)) ⊎ ((more : List ℕ) × (a ≡ c ++ more) × (d ≡ more ++ b))
two_cuts [] b c d e = inl (c, refl, e)
two_cuts (x ∷ a) b [] d e = inr (x ∷ a, refl, sym e)
two_cuts (x ∷ a) b (y ∷ c) d e =
    let heads : x ≡ y = cc in
    elim (two_cuts a b c d (let tails : a ++ b ≡ c ++ d = cc in tails)) [
      | inl w ↦ inl (w.0, ap (λ z. z ∷ c) (sym heads) ∙ ap (λ l. x ∷ l) w.1, w.2)
      | inr w ↦ inr (w.0, ap (λ z. z ∷ a) heads ∙ ap (λ l. y ∷ l) w.1, w.2)
    ]

-- the last line of a place ends no later than another's
last_of : (above more last : List ℕ) → (above ++ more ≡ []) ⊎ ((lines : List ℕ) × (above ++ more ≡ lines ++ 10 ∷ [])) → IsOneLine (more ++ last) → more ++ last ≡ last
last_of above more last (inl none) h = ap (λ l. l ++ last) (no_bytes above more (sym none))
last_of above more last (inr w) h = ap (λ l. l ++ last) (ends_in_feed w.0 above more (sym w.1) (one_line_front more last h))

pub one_column : (before : List ℕ) (a b n m : ℕ) → IsPlace before a n → IsPlace before b m → (a ≡ b) × (n ≡ m)
one_column before a b n m p q = (p.line_is ∙ sym q.line_is, p.column_is ∙ (ap (λ (l : List ℕ). length l + 1) same ∙ sym q.column_is)) where
  Ends : List ℕ → Type 0
  Ends l = (l ≡ []) ⊎ ((lines : List ℕ) × (l ≡ lines ++ 10 ∷ []))

  same : p.last ≡ q.last
  same = elim (two_cuts p.above p.last q.above q.last (sym p.is_before ∙ q.is_before)) [
    | inl w ↦ w.2 ∙ last_of p.above w.0 q.last (let P : List ℕ → Type 0 = λ l. Ends l in subst P w.1 q.is_above) (subst (λ (l : List ℕ). IsOneLine l) w.2 p.is_one_line)
    | inr w ↦ sym (w.2 ∙ last_of q.above w.0 p.last (let P : List ℕ → Type 0 = λ l. Ends l in subst P w.1 p.is_above) (subst (λ (l : List ℕ). IsOneLine l) w.2 q.is_one_line))
  ]

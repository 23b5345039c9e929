-- Fields that are read from left to right.
use Rattle.std.proofs.Common.{◌≡◌, ◌≢◌, ℕ, ◌+◌, ◌-◌, ◌<◌, ◌≤◌, Bool, true, false, List, [], ◌∷◌, ◌++◌, length, get_or, take, drop, refl, sym, ap, ◌∙◌, arith, append_assoc, append-nil}
use Rattle.std.specs.Prelude.{Option, Some, None, nat_eq, if◌then◌else◌}
use Rattle.std.proofs.lemmas.Bool.{eq-eqb, eqb-true}
use Rattle.std.proofs.lemmas.List.{take_more, drop_more, drop_all, take_all, length-drop}
use Rattle.sy_unread.specs.internal.Fields.{after, bare_byte, is_bare, value_at, unescaped_at}
use Rattle.sy_unread.specs.Words.{with_byte, word_at}

-- more bytes at the front of what was read
abbrev pub with_front : List ℕ → Option (List ℕ × List ℕ) → Option (List ℕ × List ℕ)
with_front front None = None
with_front front (Some read) = Some (front ++ read.0, read.1)

front_more : (front : List ℕ) (b : ℕ) (o : Option (List ℕ × List ℕ)) → with_front front (with_byte b o) ≡ with_front (front ++ b ∷ []) o
front_more front b None = refl
front_more front b (Some read) = ap (λ x. Some (x, read.1)) (sym (append_assoc front (b ∷ []) read.0))

rest_is : (bytes : List ℕ) (k : ℕ) → take (length bytes - k) (drop k bytes) ≡ drop k bytes
rest_is bytes k = take_all (length bytes - k) (drop k bytes) (omega (arith, length-drop k bytes))

-- what is found at a place
found_at : (front behind bytes : List ℕ) (k : ℕ) (total : Option (List ℕ × List ℕ)) → with_front front (Some ([], drop k bytes)) ≡ total
    → total ≡ Some (front, take (length bytes - k) (drop k bytes))
found_at front behind bytes k total so_far = sym so_far ∙ ap (λ x. Some (x, drop k bytes)) (append-nil front) ∙ ap (λ x. Some (front, x)) (sym (rest_is bytes k))

-- ---- words

word_step : (b : ℕ) (bytes : List ℕ) (t : Bool) → nat_eq b 32 ≡ t → word_at (b ∷ bytes) ≡ (if t then Some ([], bytes) else with_byte b (word_at bytes))
unfolding word_at
word_step b bytes t is = rw is refl

word_from : (bytes : List ℕ) (i : ℕ) (t : Bool) → i < length bytes → nat_eq (get_or bytes i 0) 32 ≡ t
    → word_at (drop i bytes) ≡ (if t then Some ([], drop (i + 1) bytes) else with_byte (get_or bytes i 0) (word_at (drop (i + 1) bytes)))
word_from bytes i t within is = ap word_at (drop_more bytes i 0 within) ∙ word_step (get_or bytes i 0) (drop (i + 1) bytes) t is

pub word_more : (bytes : List ℕ) (total : Option (List ℕ × List ℕ)) (i : ℕ) → i < length bytes → nat_eq (get_or bytes i 0) 32 ≡ false
    → with_front (take i bytes) (word_at (drop i bytes)) ≡ total → with_front (take (i + 1) bytes) (word_at (drop (i + 1) bytes)) ≡ total
word_more bytes total i within is so_far =
    ap (λ x. with_front x (word_at (drop (i + 1) bytes))) (take_more bytes i 0 within)
    ∙ sym (front_more (take i bytes) (get_or bytes i 0) (word_at (drop (i + 1) bytes)))
    ∙ sym (ap (with_front (take i bytes)) (word_from bytes i false within is)) ∙ so_far

pub word_found : (bytes : List ℕ) (total : Option (List ℕ × List ℕ)) (i : ℕ) → i < length bytes → nat_eq (get_or bytes i 0) 32 ≡ true
    → with_front (take i bytes) (word_at (drop i bytes)) ≡ total → total ≡ Some (take i bytes, take (length bytes - (i + 1)) (drop (i + 1) bytes))
word_found bytes total i within is so_far =
    found_at (take i bytes) [] bytes (i + 1) total (sym (ap (with_front (take i bytes)) (word_from bytes i true within is)) ∙ so_far)

pub word_ends : (bytes : List ℕ) (total : Option (List ℕ × List ℕ)) (i : ℕ) → length bytes ≤ i
    → with_front (take i bytes) (word_at (drop i bytes)) ≡ total → total ≡ None
unfolding word_at
word_ends bytes total i past so_far = sym so_far ∙ ap (λ x. with_front (take i bytes) (word_at x)) (drop_all i bytes past)

-- ---- values

value_from : (is_escaped : Bool) (bytes : List ℕ) (i : ℕ) → i < length bytes
    → value_at is_escaped (drop i bytes) ≡ (if is_bare is_escaped (get_or bytes i 0) 34 then Some ([], drop (i + 1) bytes)
    else with_byte (get_or bytes i 0) (value_at (is_bare is_escaped (get_or bytes i 0) 92) (drop (i + 1) bytes)))
unfolding value_at
value_from is_escaped bytes i within = ap (value_at is_escaped) (drop_more bytes i 0 within)

value_by : (is_escaped t : Bool) (bytes : List ℕ) (i : ℕ) → i < length bytes → is_bare is_escaped (get_or bytes i 0) 34 ≡ t
    → value_at is_escaped (drop i bytes) ≡ (if t then Some ([], drop (i + 1) bytes)
    else with_byte (get_or bytes i 0) (value_at (is_bare is_escaped (get_or bytes i 0) 92) (drop (i + 1) bytes)))
value_by is_escaped t bytes i within is =
    value_from is_escaped bytes i within
    ∙ ap (λ x. if x then Some ([], drop (i + 1) bytes) else with_byte (get_or bytes i 0) (value_at (is_bare is_escaped (get_or bytes i 0) 92) (drop (i + 1) bytes))) is

pub value_more : (is_escaped : Bool) (bytes : List ℕ) (total : Option (List ℕ × List ℕ)) (i : ℕ) → i < length bytes → is_bare is_escaped (get_or bytes i 0) 34 ≡ false
    → with_front (take i bytes) (value_at is_escaped (drop i bytes)) ≡ total
    → with_front (take (i + 1) bytes) (value_at (is_bare is_escaped (get_or bytes i 0) 92) (drop (i + 1) bytes)) ≡ total
value_more is_escaped bytes total i within is so_far =
    let next = is_bare is_escaped (get_or bytes i 0) 92 in
    ap (λ x. with_front x (value_at next (drop (i + 1) bytes))) (take_more bytes i 0 within)
    ∙ sym (front_more (take i bytes) (get_or bytes i 0) (value_at next (drop (i + 1) bytes)))
    ∙ sym (ap (with_front (take i bytes)) (value_by is_escaped false bytes i within is)) ∙ so_far

pub value_found : (is_escaped : Bool) (bytes : List ℕ) (total : Option (List ℕ × List ℕ)) (i : ℕ) → i < length bytes → is_bare is_escaped (get_or bytes i 0) 34 ≡ true
    → with_front (take i bytes) (value_at is_escaped (drop i bytes)) ≡ total → total ≡ Some (take i bytes, take (length bytes - (i + 1)) (drop (i + 1) bytes))
value_found is_escaped bytes total i within is so_far =
    found_at (take i bytes) [] bytes (i + 1) total (sym (ap (with_front (take i bytes)) (value_by is_escaped true bytes i within is)) ∙ so_far)

pub value_ends : (is_escaped : Bool) (bytes : List ℕ) (total : Option (List ℕ × List ℕ)) (i : ℕ) → length bytes ≤ i
    → with_front (take i bytes) (value_at is_escaped (drop i bytes)) ≡ total → total ≡ None
unfolding value_at
value_ends is_escaped bytes total i past so_far = sym so_far ∙ ap (λ x. with_front (take i bytes) (value_at is_escaped x)) (drop_all i bytes past)

-- ---- escapes

pub bare_more : (is_escaped : Bool) (front value total : List ℕ) (i : ℕ) → i < length value → front ++ unescaped_at is_escaped (drop i value) ≡ total
    → (front ++ bare_byte (is_bare is_escaped (get_or value i 0) 92) (get_or value i 0)) ++ unescaped_at (is_bare is_escaped (get_or value i 0) 92) (drop (i + 1) value) ≡ total
unfolding unescaped_at
bare_more is_escaped front value total i within so_far =
    let next = is_bare is_escaped (get_or value i 0) 92 in
    append_assoc front (bare_byte next (get_or value i 0)) (unescaped_at next (drop (i + 1) value))
    ∙ ap (λ x. front ++ x) (sym (ap (unescaped_at is_escaped) (drop_more value i 0 within))) ∙ so_far

pub bare_ends : (is_escaped : Bool) (front value total : List ℕ) (i : ℕ) → length value ≤ i → front ++ unescaped_at is_escaped (drop i value) ≡ total → front ≡ total
unfolding unescaped_at
bare_ends is_escaped front value total i past so_far =
    sym (append-nil front) ∙ sym (ap (λ x. front ++ unescaped_at is_escaped x) (drop_all i value past)) ∙ so_far

-- ---- fronts

pub after_again : (front rest : List ℕ) → after front (front ++ rest) ≡ Some rest
unfolding after
after_again [] rest = refl
after_again (b ∷ front) rest = rw (nat_same b) (after_again front rest)
  where
    nat_same : (b : ℕ) → nat_eq b b ≡ true
    nat_same b = eq-eqb b b refl

pub never_after : (front bytes : List ℕ) → ((rest : List ℕ) → bytes ≢ front ++ rest) → after front bytes ≡ None
unfolding after
never_after [] bytes never = absurd (never bytes refl)
never_after (b ∷ front) [] never = refl
never_after (b ∷ front) (c ∷ bytes) never = by (nat_eq c b) refl (never_after front bytes)
  where
    by : (t : Bool) → nat_eq c b ≡ t → (((rest : List ℕ) → bytes ≢ front ++ rest) → after front bytes ≡ None) → (if t then after front bytes else None) ≡ None
    by false e below = refl
    by true e below = below (λ rest is. never rest (rw (eqb-true c b e) (ap (λ x. b ∷ x) is)))

pub is_not : (b k : ℕ) → b ≢ k → nat_eq b k ≡ false
is_not b k other = by (nat_eq b k) refl
  where
    by : (t : Bool) → nat_eq b k ≡ t → nat_eq b k ≡ false
    by false e = e
    by true e = absurd (other (eqb-true b k e))

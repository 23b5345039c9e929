-- Cutting a text into lines and a line into words.
use Rattle.std.proofs.Common.{◌≡◌, ℕ, Bool, true, false, zero, suc, ◌+◌, ◌-◌, ◌<◌, not, ◌==◌, List, [], ◌∷◌, length, get_or, take, drop, Some, None, refl, ap, ◌∙◌, arith, add-one, filter, eqb-true}
use Rattle.std.proofs.Math.Seq.{drop-length}
use Rattle.std.proofs.lemmas.List.{take_all, length-drop}
use Rattle.std.proofs.lemmas.List.Elements.{All-from_get_or}
use Rattle.std.proofs.lemmas.List.Splits.{length-slice_split, slice_split_none, slice_split-cons_yes, slice_split-cons_no}
use Rattle.std.specs.List.{slice_split, onto_first}
use Rattle.std.specs.Str.Lines.{lines, lines_of_parts, strip_carriage_return}
use Rattle.memchr.specs.Find.{IsFirstByte, is_byte}
use Rattle.sy_site.specs.texts.Lines.{words, is_blank}

is_false : (b : Bool) → (b ≡ true → ⊥) → b ≡ false
is_false true never = absurd (never refl)
is_false false never = refl

split_found : (p : ℕ → Bool) (at : ℕ) (bytes : List ℕ) → at < length bytes → ((k : ℕ) → k < at → p (get_or bytes k 0) ≡ true → ⊥)
    → p (get_or bytes at 0) ≡ true
    → slice_split p bytes ≡ take at bytes ∷ slice_split p (drop (suc at) bytes)
split_found p at [] within before here = absurd (omega arith)
split_found p zero (b ∷ bytes) within before here = slice_split-cons_yes p b bytes here
split_found p (suc at) (b ∷ bytes) within before here =
    slice_split-cons_no p b bytes (is_false (p b) (before 0 (omega arith)))
    ∙ ap (onto_first b) (split_found p at bytes (omega arith) (λ k h. before (suc k) (omega arith)) here)

-- what is behind a place, as a slice has it
behind_is : (at : ℕ) (bytes : List ℕ) → take (length bytes - (at + 1)) (drop (at + 1) bytes) ≡ drop (suc at) bytes
behind_is at bytes = take_all _ _ (omega (arith, length-drop (at + 1) bytes)) ∙ rw (add-one at) refl

pub split_first : (p : ℕ → Bool) (at : ℕ) (bytes : List ℕ) → IsFirstByte p bytes (Some at)
    → slice_split p bytes ≡ take at bytes ∷ slice_split p (take (length bytes - (at + 1)) (drop (at + 1) bytes))
split_first p at bytes h = rw (behind_is at bytes) (split_found p at bytes h.0.high (λ k low. h.0.before k (omega arith) low) h.1)

pub split_none : (p : ℕ → Bool) (bytes : List ℕ) → IsFirstByte p bytes None → slice_split p bytes ≡ bytes ∷ []
split_none p bytes h =
    slice_split_none p bytes (All-from_get_or (λ b. p b ≡ false) bytes 0 (λ i low. is_false (p (get_or bytes i 0)) (h i (omega arith) low)))

-- ---- lines

more_parts : (part : List ℕ) (parts : List (List ℕ)) → 0 < length parts
    → lines_of_parts (part ∷ parts) ≡ strip_carriage_return part ∷ lines_of_parts parts
more_parts part [] some = absurd (omega arith)
more_parts part (next ∷ parts) some = refl

pub first_line : (text : List ℕ) (at : ℕ) → IsFirstByte (is_byte 10) text (Some at)
    → lines text ≡ strip_carriage_return (take at text) ∷ lines (take (length text - (at + 1)) (drop (at + 1) text))
first_line text at h =
    let behind = take (length text - (at + 1)) (drop (at + 1) text) in
    ap lines_of_parts (split_first (is_byte 10) at text h)
    ∙ more_parts (take at text) (slice_split (is_byte 10) behind) (omega (arith, length-slice_split (is_byte 10) behind))

one_part : (text : List ℕ) → (length text == 0) ≡ false → lines_of_parts (text ∷ []) ≡ text ∷ []
one_part text some = rw some refl

-- the text without a line feed
pub last_line : (text : List ℕ) → IsFirstByte (is_byte 10) text None → (length text == 0) ≡ false
    → lines text ≡ text ∷ lines (take (length text - length text) (drop (length text) text))
last_line text h some =
    let end : take (length text - length text) (drop (length text) text) ≡ [] =
    ap (take (length text - length text)) (drop-length text) ∙ take_all _ [] (omega arith) in
    rw end (ap lines_of_parts (split_none (is_byte 10) text h) ∙ one_part text some)

-- ---- words

filter_keeps : (word : List ℕ) (others : List (List ℕ)) → (length word == 0) ≡ false
    → filter (λ w. not (length w == 0)) (word ∷ others) ≡ word ∷ filter (λ w. not (length w == 0)) others
filter_keeps word others some = rw some refl

-- nothing before a blank
pub blank_first : (line front behind : List ℕ) → slice_split is_blank line ≡ front ∷ slice_split is_blank behind → (length front == 0) ≡ true
    → words line ≡ words behind
unfolding words
blank_first line [] behind cut nothing = ap (filter (λ w. not (length w == 0))) cut
blank_first line (b ∷ front) behind cut nothing = absurd (omega (arith, eqb-true (length (b ∷ front)) 0 nothing))

pub first_word : (line front behind : List ℕ) → slice_split is_blank line ≡ front ∷ slice_split is_blank behind → (length front == 0) ≡ false
    → words line ≡ front ∷ words behind
unfolding words
first_word line front behind cut some = ap (filter (λ w. not (length w == 0))) cut ∙ filter_keeps front (slice_split is_blank behind) some

pub last_word : (line : List ℕ) → slice_split is_blank line ≡ line ∷ [] → (length line == 0) ≡ false
    → words line ≡ line ∷ words (take (length line - length line) (drop (length line) line))
unfolding words
last_word line one some =
    let end : take (length line - length line) (drop (length line) line) ≡ [] =
    ap (take (length line - length line)) (drop-length line) ∙ take_all _ [] (omega arith) in
    rw end (ap (filter (λ w. not (length w == 0))) one ∙ filter_keeps line [] some)

pub no_word : (line : List ℕ) → (length line == 0) ≡ true → words line ≡ []
unfolding words
no_word [] nothing = refl
no_word (b ∷ line) nothing = absurd (omega (arith, eqb-true (length (b ∷ line)) 0 nothing))

-- The lines of a text that were noted so far, and the first fault of a relay line.
use Rattle.std.proofs.Common.{◌≡◌, ℕ, ◌+◌, ◌<◌, ◌≤◌, List, [], ◌∷◌, ◌++◌, length, map, refl, sym, ap, ◌∙◌, arith, inl, inr, append_assoc, length-append, filter, append-nil}
use Rattle.std.proofs.lemmas.List.Elements.{filter-append}
use Rattle.std.specs.Prelude.{◌⊎◌, if◌then◌else◌}
use Rattle.std.specs.Str.Lines.{lines}
use Rattle.sy_site.specs.texts.Lines.{words, word_lines}
use Rattle.sy_site.specs.texts.Files.{BYTES, how_many, is_among, is_relay, file_of, files_of, file_names, with_names, IsFaultyRelayLine, HasRelayFault, IsFirstRelayFault}

-- ---- lines before and behind

abbrev pub Words : Type 0
Words = List (List ℕ)

cons_same : {A : Type 0} {d b : A} {xs ys : List A} → d ≡ b → xs ≡ ys → d ∷ xs ≡ b ∷ ys
cons_same same others = rw (same, others) refl

-- where one more stands at the end
pub one_behind : {A : Type 0} (done : List A) (line : A) (before later : List A) (l : A) → done ++ line ∷ [] ≡ before ++ l ∷ later
    → ((done ≡ before) × (line ≡ l)) ⊎ ((more : List A) × (done ≡ before ++ l ∷ more))
one_behind [] line [] later l e = inl (refl, cc)
one_behind [] line (b ∷ []) later l e = let rest : [] ≡ l ∷ later = cc in cc
one_behind [] line (b ∷ next ∷ before) later l e = let rest : [] ≡ next ∷ (before ++ l ∷ later) = cc in cc
one_behind (d ∷ done) line [] later l e = let same : d ≡ l = cc in inr (done, rw same refl)
one_behind (d ∷ done) line (b ∷ before) later l e =
    let head : d ≡ b = cc in
    let tail : done ++ line ∷ [] ≡ before ++ l ∷ later = cc in
    elim (one_behind done line before later l tail) [
      | inl h ↦ inl (rw (head, h.0) refl, h.1)
      | inr h ↦ inr (h.0, cons_same head h.1)
    ]

-- where it stands before the end of the first part
pub within : (done : List Words) (rest before later : List Words) (l : Words) → done ++ rest ≡ before ++ l ∷ later → length before < length done
    → (more : List Words) × (done ≡ before ++ l ∷ more)
within [] rest before later l e less = absurd (omega arith)
within (d ∷ done) rest [] later l e less = let same : d ≡ l = cc in (done, rw same refl)
within (d ∷ done) rest (b ∷ before) later l e less =
    let head : d ≡ b = cc in
    let tail : done ++ rest ≡ before ++ l ∷ later = cc in
    let h = within done rest before later l tail (omega arith) in
    (h.0, cons_same head h.1)

-- ---- no fault so far

abbrev pub Clean : List Words → Type 0
Clean done = (before later : List Words) (l : Words) → done ≡ before ++ l ∷ later → IsFaultyRelayLine (how_many before) l → ⊥

clean_more : (done : List Words) (line : Words) → Clean done → (IsFaultyRelayLine (how_many done) line → ⊥) → Clean (done ++ line ∷ [])
clean_more done line clean sound before later l e faulty =
    elim (one_behind done line before later l e) [
      | inl h ↦ sound (rw (h.0, h.1) faulty)
      | inr h ↦ clean before h.0 l h.1 faulty
    ]

-- ---- what was noted

counted : (a b : List Words) → how_many a + how_many b ≡ how_many (a ++ b)
counted a b = sym (ap length (filter-append is_relay a b) ∙ length-append (filter is_relay a) (filter is_relay b))

pub record Noted (text rest : List ℕ) (names : List (List ℕ)) (relays number : ℕ) : Type 0 where
  pub done : List Words
  pub whole : word_lines text ≡ done ++ word_lines rest
  pub clean : Clean done
  pub relays_is : relays ≡ how_many done
  pub number_is : number ≡ length done + 1
  pub names_are : with_names names (files_of (word_lines rest)) ≡ file_names text

pub noted_start : (text : List ℕ) → Noted text text [] 0 1
noted_start text = record {
  done = [];
  whole = refl;
  clean = none;
  relays_is = refl;
  number_is = refl;
  names_are = refl;
} where
  none : Clean []
  none [] later l e f = cc
  none (b ∷ before) later l e f = cc

next_words : (rest line behind : List ℕ) → lines rest ≡ line ∷ lines behind → word_lines rest ≡ words line ∷ word_lines behind
unfolding word_lines
next_words rest line behind e = ap (map words) e

pub no_words : (rest : List ℕ) → lines rest ≡ [] → word_lines rest ≡ []
unfolding word_lines
no_words rest e = ap (map words) e

names_more : (names new : List (List ℕ)) (files later : List (List ℕ)) → new ≡ with_names names files
    → with_names new later ≡ with_names names (files ++ later)
names_more names new [] later e = rw e refl
names_more names new (file ∷ files) later e = names_more (if is_among file names then names else names ++ file ∷ []) new files later e

pub split : (text rest line behind : List ℕ) (done : List Words) → word_lines text ≡ done ++ word_lines rest → lines rest ≡ line ∷ lines behind
    → word_lines text ≡ done ++ words line ∷ word_lines behind
split text rest line behind done whole next = whole ∙ ap (λ x. done ++ x) (next_words rest line behind next)

module _ {text rest : List ℕ} (line behind : List ℕ) {names : List (List ℕ)} {relays number : ℕ} (so_far : Noted text rest names relays number)
    (next : lines rest ≡ line ∷ lines behind) where
  pub noted_more : {new : List (List ℕ)} {n : ℕ} → n ≡ relays + how_many (words line ∷ []) → new ≡ with_names names (file_of (words line))
      → (IsFaultyRelayLine relays (words line) → ⊥) → Noted text behind new n (number + 1)
  noted_more {new} {n} count are sound = record {
    done = so_far.done ++ words line ∷ [];
    whole = split text rest line behind so_far.done so_far.whole next ∙ sym (append_assoc so_far.done (words line ∷ []) (word_lines behind));
    clean = clean_more so_far.done (words line) so_far.clean (rw so_far.relays_is at sound);
    relays_is = count ∙ (ap (λ x. x + how_many (words line ∷ [])) so_far.relays_is ∙ counted so_far.done (words line ∷ []));
    number_is = omega (arith, so_far.number_is, length-append so_far.done (words line ∷ []));
    names_are =
        names_more names new (file_of (words line)) (files_of (word_lines behind)) are ∙ rw (next_words rest line behind next) at so_far.names_are;
  }

  -- the line is faulty
  pub first_fault : length text ≤ BYTES → IsFaultyRelayLine relays (words line) → IsFirstRelayFault text number
  first_fault small faulty = record {
    there =
        rw so_far.number_is (HasRelayFault.in_line so_far.done (word_lines behind) (split text rest line behind so_far.done so_far.whole next)
        (rw so_far.relays_is at faulty));
    first = before_it;
  } where
    before_it : (n : ℕ) → n < number → HasRelayFault text n → ⊥
    before_it n less (HasRelayFault.too_long long) = omega (arith, long, small)
    before_it n less (HasRelayFault.in_line before later {line = l} e f) =
        let h =
        within so_far.done (words line ∷ word_lines behind) before later l (sym (split text rest line behind so_far.done so_far.whole next) ∙ e)
        (omega (arith, less, so_far.number_is)) in
        so_far.clean before h.0 l h.1 f

-- the text is at its end
pub noted_all : {text rest : List ℕ} {names : List (List ℕ)} {relays number : ℕ} → Noted text rest names relays number → lines rest ≡ []
    → names ≡ file_names text
noted_all {text} {rest} {names} so_far end = rw (no_words rest end) at so_far.names_are

pub no_fault : {text rest : List ℕ} {names : List (List ℕ)} {relays number : ℕ} → Noted text rest names relays number → lines rest ≡ []
    → length text ≤ BYTES
    → (n : ℕ) → HasRelayFault text n → ⊥
no_fault {text} {rest} so_far end small n (HasRelayFault.too_long long) = omega (arith, long, small)
no_fault {text} {rest} so_far end small n (HasRelayFault.in_line before later {line = l} e f) =
    let all : word_lines text ≡ so_far.done = so_far.whole ∙ ap (λ x. so_far.done ++ x) (no_words rest end) ∙ append-nil so_far.done in
    so_far.clean before later l (sym all ∙ e) f

pub long_first : (text : List ℕ) → BYTES < length text → IsFirstRelayFault text 1
long_first text long = record { there = HasRelayFault.too_long long; first = before_it } where
  before_it : (n : ℕ) → n < 1 → HasRelayFault text n → ⊥
  before_it n less (HasRelayFault.too_long l) = omega (arith, less)
  before_it n less (HasRelayFault.in_line before later e f) = omega (arith, less)

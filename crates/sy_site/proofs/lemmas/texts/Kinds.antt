-- Lines of one kind, and lines that are skipped.
use Rattle.std.proofs.Common.{◌≡◌, ℕ, Bool, true, false, not, ◌+◌, ◌<◌, ◌≤◌, List, [], ◌∷◌, ◌++◌, length, map, Option, Some, None, refl, sym, ap, subst, ◌∙◌, arith, drop, get_or, inl, inr, append_assoc, append-nil, length-append, filter}
use Rattle.std.proofs.lemmas.Bool.{cases_Bool, eqb-true, false≢true}
use Rattle.std.proofs.Math.ListN.{drop_of_length-le}
use Rattle.std.proofs.lemmas.List.{at_drop_more, map-append}
use Rattle.std.proofs.lemmas.List.Elements.{All-push, Contains-append_cases, Contains-append_left, Contains-append_right, Contains-push, Contains-push_cases, filter-append}
use Rattle.std.proofs.lemmas.Slice.Eq.{bytes_eq-Decides}
use Rattle.std.specs.Prelude.{All, Contains, ◌⊎◌, codes, if◌then◌else◌}
use Rattle.std.specs.Str.{bytes_eq}
use Rattle.std.specs.Str.Lines.{lines}
use Rattle.sy_site.specs.declared.fault.SiteFault.TheVariants as fault
use Rattle.sy_site.specs.declared.texts.reading.Given.{Given}
use Rattle.sy_site.specs.declared.texts.shapes.Line.{Line as Read}
use Rattle.sy_site.specs.declared.texts.shapes.Line.TheVariants as read
use Rattle.sy_site.specs.declared.texts.shapes.RelayLine.{RelayLine as ReadRelay}
use Rattle.sy_site.specs.Sites.{Outside}
use Rattle.sy_site.specs.declared.site.host.Host.TheVariants as host
use Rattle.sy_site.specs.internal.Lines.{line_of}
use Rattle.sy_site.specs.internal.Reading.{kind, most, line_given, words_given, BeginAlike, HasNoPlace, HasRoom, IsAdded, IsAgain, IsPlaced, IsShapeless, IsTooMany, IsUnplaced, IsWrong, IsWrongAt, NoneBefore}
use Rattle.sy_site.specs.texts.Lines.{is_kind, is_skipped, words, word_lines}
use Rattle.sy_site.specs.texts.Shapes.{Line, RelayLine, EntryLine, ProtectLine, SpareLine, IsLine, policy_line, whole_words}
use Rattle.sy_site.specs.texts.Files.{RELAYS}
use Rattle.sy_site.specs.texts.Describes.{ENTRIES, OUTSIDES, PROTECTIONS, SPARES, AreLines, File, IsDuplicate, IsMisplaced, Repeats, entry_lines, first_line, policy_of, protect_lines, relay_lines, spare_lines}
use Rattle.sy_site.specs.texts.HasFault.{HasFault, IsLimit}
use Rattle.sy_site.proofs.lemmas.texts.Shaped.{behind_first, first_same}
use Rattle.sy_site.proofs.lemmas.texts.Noted.{Words, one_behind, no_words, split, within}
use Rattle.sy_site.proofs.lemmas.texts.OneLine.{one_line}
use Rattle.sy_site.proofs.lemmas.texts.Again.{again_cases, again_first, again_later, not_false}

-- ---- a line by itself

pub given_words : (line : Words) (it : Line) (word : List ℕ) (behind : Words) → line ≡ word ∷ behind → IsLine line it → kind it ∷ behind ≡ line
given_words line Line.Policy word behind e h = let k : word ≡ codes "policy" = first_same (sym e ∙ h) in rw (e, k) refl
given_words line (Line.Relay it) word behind e h = let k : word ≡ codes "relay" = first_same (sym e ∙ h.whole) in rw (e, k) refl
given_words line (Line.Entry it) word behind e h = let k : word ≡ codes "entry" = first_same (sym e ∙ h.whole) in rw (e, k) refl
given_words line (Line.Protect it) word behind e h = let k : word ≡ codes "protect" = first_same (sym e ∙ h.whole) in rw (e, k) refl
given_words line (Line.Spare it) word behind e h = let k : word ≡ codes "spare" = first_same (sym e ∙ h) in rw (e, k) refl
given_words line (Line.Outside it) word behind e h = let k : word ≡ codes "outside" = first_same (sym e ∙ h.whole) in rw (e, k) refl

pub nothing_shaped : (line : Words) → line ≡ [] → (it : Line) → IsLine line it → ⊥
nothing_shaped line e Line.Policy h = let f : [] ≡ policy_line = sym e ∙ h in cc
nothing_shaped line e (Line.Relay it) h = let f : [] ≡ codes "relay" ∷ it.name ∷ it.file ∷ h.behind = sym e ∙ h.whole in cc
nothing_shaped line e (Line.Entry it) h = let f : [] ≡ codes "entry" ∷ it.relay ∷ h.port_word ∷ whole_words it.is_whole = sym e ∙ h.whole in cc
nothing_shaped line e (Line.Protect it) h = let f : [] ≡ codes "protect" ∷ h.selector_word ∷ it.relay ∷ it.action ∷ [] = sym e ∙ h.whole in cc
nothing_shaped line e (Line.Spare it) h = let f : [] ≡ codes "spare" ∷ it.relay ∷ it.action ∷ [] = sym e ∙ h in cc
nothing_shaped line e (Line.Outside it) h = let f : [] ≡ codes "outside" ∷ it.name ∷ h.host_word ∷ h.port_word ∷ [] = sym e ∙ h.whole in cc

pub of_kind : (line : Words) (it : Line) → IsLine line it → (behind : Words) × (line ≡ kind it ∷ behind)
of_kind line Line.Policy h = (codes "2" ∷ [], h)
of_kind line (Line.Relay it) h = (it.name ∷ it.file ∷ h.behind, h.whole)
of_kind line (Line.Entry it) h = (it.relay ∷ h.port_word ∷ whole_words it.is_whole, h.whole)
of_kind line (Line.Protect it) h = (h.selector_word ∷ it.relay ∷ it.action ∷ [], h.whole)
of_kind line (Line.Spare it) h = (it.relay ∷ it.action ∷ [], h)
of_kind line (Line.Outside it) h = (it.name ∷ h.host_word ∷ h.port_word ∷ [], h.whole)

pub begins : (word : List ℕ) (line : Words) (it : Line) → IsLine line it → is_kind word line ≡ bytes_eq (kind it) word
begins word line it is = ap (is_kind word) (of_kind line it is).1

-- the most lines of a kind, by their first word
abbrev pub most_of : List ℕ → ℕ
most_of word =
    if bytes_eq word (codes "relay") then RELAYS
    else if bytes_eq word (codes "entry") then ENTRIES
    else if bytes_eq word (codes "protect") then PROTECTIONS
    else if bytes_eq word (codes "spare") then SPARES
    else if bytes_eq word (codes "outside") then OUTSIDES
    else 1

pub most_is : (it : Line) → most it ≡ most_of (kind it)
most_is Line.Policy = refl
most_is (Line.Relay it) = refl
most_is (Line.Entry it) = refl
most_is (Line.Protect it) = refl
most_is (Line.Spare it) = refl
most_is (Line.Outside it) = refl

pub limit_is : (word : List ℕ) (limit : ℕ) → IsLimit word limit → limit ≡ most_of word
limit_is word limit IsLimit.relays = refl
limit_is word limit IsLimit.entries = refl
limit_is word limit IsLimit.protections = refl
limit_is word limit IsLimit.spares = refl
limit_is word limit IsLimit.outsides = refl

pub no_relay : RelayLine
no_relay = record { name = []; file = []; host = host.Name []; listens = None }

pub no_entry : EntryLine
no_entry = record { relay = []; port = 0; is_whole = false }

pub no_protect : ProtectLine
no_protect = record { selector = []; relay = []; action = [] }

pub no_spare : SpareLine
no_spare = record { relay = []; action = [] }

pub no_outside : Outside
no_outside = record { name = []; host = host.Name []; port = 0 }

-- a line of a kind that has a limit
pub limited : (word : List ℕ) (limit : ℕ) → IsLimit word limit → (it : Line) × (kind it ≡ word)
limited word limit IsLimit.relays = (Line.Relay no_relay, refl)
limited word limit IsLimit.entries = (Line.Entry no_entry, refl)
limited word limit IsLimit.protections = (Line.Protect no_protect, refl)
limited word limit IsLimit.spares = (Line.Spare no_spare, refl)
limited word limit IsLimit.outsides = (Line.Outside no_outside, refl)

-- a line of a kind with room is not one too many
pub room_left : (before : List Words) (line : Words) (it : Line) → IsLine line it → HasRoom before it → IsTooMany before line → ⊥
room_left before line it is room many =
    let same : kind it ≡ many.word = (bytes_eq-Decides (kind it) many.word).0 (sym (begins many.word line it is) ∙ many.is_of) in
    let counts = ap (λ word. length (filter (is_kind word) before)) same in
    let limits = ap most_of same in
    omega (arith, counts, limits, most_is it, limit_is many.word many.limit many.is_limit, room, many.many)

too_many_of : (it : Line) (behind : Words) (before : List Words) → IsLimit (kind it) (most it) → most it ≤ length (filter (is_kind (kind it)) before)
    → IsTooMany before (kind it ∷ behind)
too_many_of it behind before limit many = record {
  word = kind it;
  limit = most it;
  is_limit = limit;
  is_of = (bytes_eq-Decides (kind it) (kind it)).1 refl;
  many = many;
}

-- A line that has its place is of a kind with a limit, or none stands before it.
pub too_many : (it : Line) (behind : Words) (found : List Given) → (HasNoPlace (map line_given found) it → ⊥)
    → most it ≤ length (filter (is_kind (kind it)) (map words_given found)) → IsTooMany (map words_given found) (kind it ∷ behind)
too_many Line.Policy behind [] placed many = absurd (omega (arith, many))
too_many Line.Policy behind (given ∷ found) placed many = absurd (placed (λ e. cc))
too_many (Line.Relay it) behind found placed many = too_many_of (Line.Relay it) behind (map words_given found) IsLimit.relays many
too_many (Line.Entry it) behind found placed many = too_many_of (Line.Entry it) behind (map words_given found) IsLimit.entries many
too_many (Line.Protect it) behind found placed many = too_many_of (Line.Protect it) behind (map words_given found) IsLimit.protections many
too_many (Line.Spare it) behind found placed many = too_many_of (Line.Spare it) behind (map words_given found) IsLimit.spares many
too_many (Line.Outside it) behind found placed many = too_many_of (Line.Outside it) behind (map words_given found) IsLimit.outsides many

-- ---- lines that are skipped

abbrev pub is_kept : Words → Bool
is_kept w = not (is_skipped w)

pub again_kept : (o w : Words) → Repeats o w → (is_skipped o ≡ false) × (is_skipped w ≡ false)
again_kept o w (Repeats.same_name name first second) = (refl, refl)
again_kept o w (Repeats.same_entry relay port first second) = (refl, refl)
again_kept o w (Repeats.same_protection ws) = (refl, refl)
again_kept o w (Repeats.same_spare ws) = (refl, refl)
again_kept o w (Repeats.same_receiver name host other port first second) = (refl, refl)
again_kept o w (Repeats.outside_relay name first second) = (refl, refl)
again_kept o w (Repeats.relay_outside name first second) = (refl, refl)

pub misplaced_kept : (before : List Words) (w : Words) → IsMisplaced before w → is_skipped w ≡ false
misplaced_kept before w (IsMisplaced.policy_behind first words e) = refl
misplaced_kept before w (IsMisplaced.spare_without words never) = refl

pub skipped_kind : (it : Line) (w : Words) → is_skipped w ≡ true → is_kind (kind it) w ≡ false
skipped_kind it [] h = refl
skipped_kind it ([] ∷ later) h = absurd (false≢true h)
skipped_kind Line.Policy ((b ∷ word) ∷ later) h = let e : b ≡ 35 = eqb-true b 35 h in rw e refl
skipped_kind (Line.Relay it) ((b ∷ word) ∷ later) h = let e : b ≡ 35 = eqb-true b 35 h in rw e refl
skipped_kind (Line.Entry it) ((b ∷ word) ∷ later) h = let e : b ≡ 35 = eqb-true b 35 h in rw e refl
skipped_kind (Line.Protect it) ((b ∷ word) ∷ later) h = let e : b ≡ 35 = eqb-true b 35 h in rw e refl
skipped_kind (Line.Spare it) ((b ∷ word) ∷ later) h = let e : b ≡ 35 = eqb-true b 35 h in rw e refl
skipped_kind (Line.Outside it) ((b ∷ word) ∷ later) h = let e : b ≡ 35 = eqb-true b 35 h in rw e refl

pub filter_yes : {A : Type 0} (p : A → Bool) (x : A) (xs : List A) → p x ≡ true → filter p (x ∷ xs) ≡ x ∷ filter p xs
filter_yes p x xs e = rw e refl

pub filter_no : {A : Type 0} (p : A → Bool) (x : A) (xs : List A) → p x ≡ false → filter p (x ∷ xs) ≡ filter p xs
filter_no p x xs e = rw e refl

-- what isn't skipped by a test that skips nothing of another one
filter_both : {A : Type 0} (p q : A → Bool) → ((x : A) → q x ≡ false → p x ≡ false) → (xs : List A) → filter p (filter q xs) ≡ filter p xs
filter_both p q only [] = refl
filter_both p q only (x ∷ xs) =
    elim (cases_Bool (q x)) [
      | inl kept ↦
          let first = filter_yes q x xs kept in
          elim (cases_Bool (p x)) [
            | inl there ↦
                rw first (filter_yes p x (filter q xs) there ∙ ap (λ ys. x ∷ ys) (filter_both p q only xs) ∙ sym (filter_yes p x xs there))
            | inr gone ↦ rw first (filter_no p x (filter q xs) gone ∙ filter_both p q only xs ∙ sym (filter_no p x xs gone))
          ]
      | inr left ↦ rw (filter_no q x xs left) (filter_both p q only xs ∙ sym (filter_no p x xs (only x left)))
    ]

pub same_count : (it : Line) (done : List Words) → length (filter (is_kind (kind it)) (filter is_kept done)) ≡ length (filter (is_kind (kind it)) done)
same_count it done = ap length (filter_both (is_kind (kind it)) is_kept (λ w h. skipped_kind it w (not_false (is_skipped w) h)) done)

-- a duplicate of a line is not skipped
pub among_kept : (done : List Words) (w : Words) → IsDuplicate done w → IsDuplicate (filter is_kept done) w
among_kept [] w d = d
among_kept (o ∷ done) w d =
    elim (again_cases o done w d) [
      | inl r ↦
          let there : is_kept o ≡ true = ap not (again_kept o w r).0 in
          rw (filter_yes is_kept o done there) (again_first o (filter is_kept done) w r)
      | inr behind ↦
          elim (cases_Bool (is_kept o)) [
            | inl there ↦ rw (filter_yes is_kept o done there) (again_later o (filter is_kept done) w (among_kept done w behind))
            | inr skipped ↦ rw (filter_no is_kept o done skipped) (among_kept done w behind)
          ]
    ]

pub among_all : (done : List Words) (w : Words) → IsDuplicate (filter is_kept done) w → IsDuplicate done w
among_all [] w d = d
among_all (o ∷ done) w d =
    elim (cases_Bool (is_kept o)) [
      | inl there ↦
          let both : IsDuplicate (o ∷ filter is_kept done) w = rw (filter_yes is_kept o done there) at d in
          elim (again_cases o (filter is_kept done) w both) [
            | inl r ↦ again_first o done w r
            | inr behind ↦ again_later o done w (among_all done w behind)
          ]
      | inr skipped ↦
          let rest : IsDuplicate (filter is_kept done) w = rw (filter_no is_kept o done skipped) at d in again_later o done w (among_all done w rest)
    ]

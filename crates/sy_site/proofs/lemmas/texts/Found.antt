-- The lines of a text that were found so far, and why reading stops at one.
use Rattle.std.proofs.Common.{◌≡◌, ℕ, Bool, true, false, not, ◌+◌, ◌<◌, ◌≤◌, List, [], ◌∷◌, ◌++◌, length, map, Option, Some, None, refl, sym, ap, subst, ◌∙◌, arith, drop, get_or, inl, inr, append_assoc, append-nil, length-append, filter}
use Rattle.std.proofs.lemmas.Bool.{cases_Bool, eqb-true, false≢true}
use Rattle.std.proofs.Math.ListN.{drop_of_length-le}
use Rattle.std.proofs.lemmas.List.{at_drop_more, map-append}
use Rattle.std.proofs.lemmas.List.Elements.{All-push, Contains-append_cases, Contains-append_left, Contains-append_right, Contains-push, Contains-push_cases, filter-append}
use Rattle.std.proofs.lemmas.Slice.Eq.{bytes_eq-Decides}
use Rattle.std.specs.Prelude.{All, Contains, ◌⊎◌, codes, if◌then◌else◌}
use Rattle.std.specs.Str.{bytes_eq}
use Rattle.std.specs.Str.Lines.{lines}
use Rattle.sy_site.specs.declared.fault.SiteFault.TheVariants as fault
use Rattle.sy_site.specs.declared.texts.reading.Given.{Given}
use Rattle.sy_site.specs.declared.texts.shapes.Line.{Line as Read}
use Rattle.sy_site.specs.declared.texts.shapes.Line.TheVariants as read
use Rattle.sy_site.specs.declared.texts.shapes.RelayLine.{RelayLine as ReadRelay}
use Rattle.sy_site.specs.internal.Lines.{line_of}
use Rattle.sy_site.specs.internal.Reading.{kind, most, line_given, words_given, BeginAlike, HasNoPlace, HasRoom, IsAdded, IsAgain, IsPlaced, IsShapeless, IsTooMany, IsUnplaced, IsWrong, IsWrongAt, NoneBefore}
use Rattle.sy_site.specs.texts.Lines.{is_kind, is_skipped, words, word_lines}
use Rattle.sy_site.specs.texts.Shapes.{Line, RelayLine, EntryLine, ProtectLine, SpareLine, IsLine, policy_line}
use Rattle.sy_site.specs.texts.Files.{RELAYS}
use Rattle.sy_site.specs.texts.Describes.{ENTRIES, OUTSIDES, PROTECTIONS, SPARES, AreLines, File, IsDuplicate, IsMisplaced, Repeats, entry_lines, first_line, outside_lines, policy_of, protect_lines, relay_lines, spare_lines}
use Rattle.sy_site.specs.texts.HasFault.{HasFault, IsLimit}
use Rattle.sy_site.proofs.lemmas.texts.Shaped.{behind_first, first_same}
use Rattle.sy_site.proofs.lemmas.texts.Noted.{Words, one_behind, no_words, split, within}
use Rattle.sy_site.proofs.lemmas.texts.OneLine.{one_line}
use Rattle.sy_site.proofs.lemmas.texts.Again.{among_cases, among_first, among_later, none_in}
use Rattle.sy_site.proofs.lemmas.texts.Kinds.{again_kept, among_all, among_kept, filter_no, filter_yes, is_kept, limit_is, limited, most_is, most_of, room_left, same_count, too_many}
use Rattle.sy_site.proofs.lemmas.texts.Placed.{InPlace, in_place_more, misplaced_of, skipped_in_place, unplaced_of}

-- ---- one more line

lines_skip : {done : List Words} {found : List Line} (line : Words) → is_skipped line ≡ true → AreLines done found → AreLines (done ++ line ∷ []) found
lines_skip line skip AreLines.none = AreLines.skip skip AreLines.none
lines_skip line skip (AreLines.skip e h) = AreLines.skip e (lines_skip line skip h)
lines_skip line skip (AreLines.shaped e is h) = AreLines.shaped e is (lines_skip line skip h)

lines_more : {done : List Words} {found : List Line} (line : Words) (it : Line) → is_skipped line ≡ false → IsLine line it → AreLines done found
    → AreLines (done ++ line ∷ []) (found ++ it ∷ [])
lines_more line it there shaped AreLines.none = AreLines.shaped there shaped AreLines.none
lines_more line it there shaped (AreLines.skip e h) = AreLines.skip e (lines_more line it there shaped h)
lines_more line it there shaped (AreLines.shaped e is h) = AreLines.shaped e is (lines_more line it there shaped h)

abbrev pub Single : List Words → Type 0
Single done = (before later : List Words) (line : Words) → done ≡ before ++ line ∷ later → IsDuplicate before line → ⊥

single_more : (done : List Words) (line : Words) → Single done → (IsDuplicate done line → ⊥) → Single (done ++ line ∷ [])
single_more done line single new before later l e again =
    elim (one_behind done line before later l e) [
      | inl h ↦ new (rw (h.0, h.1) again)
      | inr h ↦ single before h.0 l h.1 again
    ]

skipped_single : (done : List Words) (line : Words) → is_skipped line ≡ true → IsDuplicate done line → ⊥
skipped_single done line skip d = false≢true (sym (again_kept d.0 line d.2).1 ∙ skip)

-- of each kind no more than the most
abbrev pub Few : List Words → Type 0
Few done = (word : List ℕ) (limit : ℕ) → IsLimit word limit → length (filter (is_kind word) done) ≤ limit

counted : (word : List ℕ) (done : List Words) (line : Words)
    → length (filter (is_kind word) (done ++ line ∷ [])) ≡ length (filter (is_kind word) done) + length (filter (is_kind word) (line ∷ []))
counted word done line =
    ap length (filter-append (is_kind word) done (line ∷ [])) ∙ length-append (filter (is_kind word) done) (filter (is_kind word) (line ∷ []))

few_more : (it : Line) (behind : Words) (done : List Words) → Few done → HasRoom done it → Few (done ++ (kind it ∷ behind) ∷ [])
few_more it behind done few room word limit is =
    elim (cases_Bool (bytes_eq (kind it) word)) [
      | inl equal ↦
          let same : kind it ≡ word = (bytes_eq-Decides (kind it) word).0 equal in
          let one : length (filter (is_kind word) ((kind it ∷ behind) ∷ [])) ≡ 1 = ap length (filter_yes (is_kind word) (kind it ∷ behind) [] equal) in
          let counts = ap (λ w. length (filter (is_kind w) done)) same in
          let limits = ap most_of same in
          omega (arith, counted word done (kind it ∷ behind), one, counts, limits, most_is it, limit_is word limit is, room)
      | inr other ↦
          let none : length (filter (is_kind word) ((kind it ∷ behind) ∷ [])) ≡ 0 = ap length (filter_no (is_kind word) (kind it ∷ behind) [] other) in
          omega (arith, counted word done (kind it ∷ behind), none, few word limit is)
    ]

-- ---- the lines of a text

pub stands_among : (all before later : List Words) (line : Words) → all ≡ before ++ line ∷ later → Contains all line
stands_among all before later line e =
    subst (λ ws. Contains ws line) (sym e) (Contains-append_right before (line ∷ later) line (among_first line later))

-- a line that is not skipped has a shape, and is there
pub line_there : {all : List Words} {found : List Line} → AreLines all found → (line : Words) → Contains all line → is_skipped line ≡ false
    → (it : Line) × IsLine line it × Contains found it
line_there AreLines.none line c kept = absurd (none_in line c)
line_there (AreLines.skip {words = w} {later = ws} {lines = found} e h) line c kept =
    elim (among_cases w ws line c) [
      | inl same ↦ absurd (false≢true (sym kept ∙ ap is_skipped (sym same) ∙ e))
      | inr behind ↦ line_there h line behind kept
    ]
line_there (AreLines.shaped {words = w} {later = ws} {it = x} {lines = found} e is h) line c kept =
    elim (among_cases w ws line c) [
      | inl same ↦ (x, subst (λ v. IsLine v x) same is, among_first x found)
      | inr behind ↦ let r = line_there h line behind kept in (r.0, r.1, among_later x found r.0 r.2)
    ]

-- how many begin with a word
pub count_no : (p : Words → Bool) (w : Words) (ws : List Words) → p w ≡ false → length (filter p (w ∷ ws)) ≡ length (filter p ws)
count_no p w ws e = rw e refl

pub count_yes : (p : Words → Bool) (w : Words) (ws : List Words) → p w ≡ true → length (filter p (w ∷ ws)) ≡ length (filter p ws) + 1
count_yes p w ws e = let first = ap length (filter_yes p w ws e) in omega (arith, first)

-- one more than those before it
pub counted_in : (word : List ℕ) (all before later : List Words) (line : Words) → all ≡ before ++ line ∷ later → is_kind word line ≡ true
    → length (filter (is_kind word) before) < length (filter (is_kind word) all)
counted_in word all before later line e is =
    let whole : length (filter (is_kind word) all) ≡ length (filter (is_kind word) before) + length (filter (is_kind word) (line ∷ later)) =
    ap (λ ws. length (filter (is_kind word) ws)) e ∙ ap length (filter-append (is_kind word) before (line ∷ later))
    ∙ length-append (filter (is_kind word) before) (filter (is_kind word) (line ∷ later)) in
    omega (arith, whole, count_yes (is_kind word) line later is)

same_cut : (done : List Words) (line : Words) (rest before : List Words) (l : Words) (later : List Words) → done ++ line ∷ rest ≡ before ++ l ∷ later
    → length before ≡ length done
    → (done ≡ before) × (line ≡ l)
same_cut [] line rest [] l later e n = (refl, cc)
same_cut [] line rest (b ∷ before) l later e n = absurd (omega (arith, n))
same_cut (d ∷ done) line rest [] l later e n = absurd (omega (arith, n))
same_cut (d ∷ done) line rest (b ∷ before) l later e n =
    let head : d ≡ b = cc in
    let tail : done ++ line ∷ rest ≡ before ++ l ∷ later = cc in
    let h = same_cut done line rest before l later tail (omega (arith, n)) in (rw (head, h.0) refl, h.1)

-- no line stands before line 1
pub long_first : (text : List ℕ) → NoneBefore text 1
long_first text before later l e less refused = omega (arith, less)

-- ---- the lines so far

pub record Found (text rest : List ℕ) (found : List Given) (place : ℕ) : Type 0 where
  pub done : List Words
  pub whole : word_lines text ≡ done ++ word_lines rest
  pub place_is : place ≡ length done + 1
  pub kept : filter is_kept done ≡ map words_given found
  pub shaped : AreLines done (map line_given found)
  pub placed : All (IsPlaced text) found
  pub single : Single done
  pub in_place : InPlace done
  pub few : Few (map words_given found)

pub found_start : (text : List ℕ) → Found text text [] 1
found_start text = record {
  done = [];
  whole = refl;
  place_is = refl;
  kept = refl;
  shaped = AreLines.none;
  placed = λ k d h. absurd (omega (arith, h));
  single = none;
  in_place = none_placed;
  few = λ word limit is. omega arith;
} where
  none : Single []
  none [] later l e f = cc
  none (b ∷ before) later l e f = cc

  none_placed : InPlace []
  none_placed [] later l e f = cc
  none_placed (b ∷ before) later l e f = cc

module _ {text rest : List ℕ} {found : List Given} {place : ℕ} (so_far : Found text rest found place) where
  count_kept : (it : Line) → length (filter (is_kind (kind it)) (map words_given found)) ≡ length (filter (is_kind (kind it)) so_far.done)
  count_kept it = ap (λ ws. length (filter (is_kind (kind it)) ws)) (sym so_far.kept) ∙ same_count it so_far.done

  count_limited : (word : List ℕ) (limit : ℕ) → IsLimit word limit
      → length (filter (is_kind word) (map words_given found)) ≡ length (filter (is_kind word) so_far.done)
  count_limited word limit is =
      let like = limited word limit is in
      subst (λ w. length (filter (is_kind w) (map words_given found)) ≡ length (filter (is_kind w) so_far.done)) like.1 (count_kept like.0)

  not_within : (before later : List Words) (l : Words) → so_far.done ≡ before ++ l ∷ later → IsWrong before l ⊎ IsDuplicate before l → ⊥
  not_within before later l e (inl (inl h)) =
      let r = line_there so_far.shaped l (stands_among so_far.done before later l e) h.there in h.never r.0 r.1
  not_within before later l e (inl (inr (inl h))) =
      let less = counted_in h.word so_far.done before later l e h.is_of in
      let few = so_far.few h.word h.limit h.is_limit in
      let kept = count_limited h.word h.limit h.is_limit in let many = h.many in omega (arith, less, few, kept, many)
  not_within before later l e (inl (inr (inr h))) = so_far.in_place before later l e h
  not_within before later l e (inr d) = so_far.single before later l e d

  pub none_before : NoneBefore text place
  none_before before later l e less refused =
      let cut = within so_far.done (word_lines rest) before later l (sym so_far.whole ∙ e) (omega (arith, less, so_far.place_is)) in
      not_within before cut.0 l cut.1 refused

module _ {text rest : List ℕ} {found : List Given} {place : ℕ} (so_far : Found text rest found place) (line behind : List ℕ)
    (next : lines rest ≡ line ∷ lines behind) where
  here : word_lines text ≡ so_far.done ++ words line ∷ word_lines behind
  here = split text rest line behind so_far.done so_far.whole next

  whole_more : word_lines text ≡ (so_far.done ++ words line ∷ []) ++ word_lines behind
  whole_more = here ∙ sym (append_assoc so_far.done (words line ∷ []) (word_lines behind))

  place_more : place + 1 ≡ length (so_far.done ++ words line ∷ []) + 1
  place_more = omega (arith, so_far.place_is, length-append so_far.done (words line ∷ []))

  pub found_skip : is_skipped (words line) ≡ true → Found text behind found (place + 1)
  found_skip skip = record {
    done = so_far.done ++ words line ∷ [];
    whole = whole_more;
    place_is = place_more;
    kept =
        filter-append is_kept so_far.done (words line ∷ [])
        ∙ ap (λ x. filter is_kept so_far.done ++ x) (filter_no is_kept (words line) [] (ap not skip)) ∙ append-nil (filter is_kept so_far.done)
        ∙ so_far.kept;
    shaped = lines_skip (words line) skip so_far.shaped;
    placed = so_far.placed;
    single = single_more so_far.done (words line) so_far.single (skipped_single so_far.done (words line) skip);
    in_place = in_place_more so_far.done (words line) so_far.in_place (skipped_in_place so_far.done (words line) skip);
    few = so_far.few;
  }

  pub found_more : {new : List Given} → is_skipped (words line) ≡ false → IsAdded found new place (words line) → Found text behind new (place + 1)
  found_more {new} there added = rw added.behind (record {
    done = so_far.done ++ words line ∷ [];
    whole = whole_more;
    place_is = place_more;
    kept =
        filter-append is_kept so_far.done (words line ∷ [])
        ∙ both so_far.kept (filter_yes is_kept (words line) [] (ap not there) ∙ ap (λ w. w ∷ []) (sym added.is_given.words_are))
        ∙ sym (map-append words_given found (added.given ∷ []));
    shaped =
        rw (map-append line_given found (added.given ∷ []))
        (lines_more (words line) (line_given added.given) there added.is_given.shaped so_far.shaped);
    placed = All-push (IsPlaced text) found added.given so_far.placed it;
    single = single_more so_far.done (words line) so_far.single new_here;
    in_place =
        in_place_more so_far.done (words line) so_far.in_place
        (λ m. added.placed (unplaced_of so_far.shaped (words line) (line_given added.given) added.is_given.shaped m));
    few =
        rw (map-append words_given found (added.given ∷ []))
        (few_more (line_given added.given) (words added.given.behind.now) (map words_given found) so_far.few added.room);
  }) where
    both : {A : Type 0} {a b c d : List A} → a ≡ b → c ≡ d → a ++ c ≡ b ++ d
    both e f = rw (e, f) refl

    it : IsPlaced text added.given
    it = record {
      before = so_far.done;
      line = words line;
      stands = (word_lines behind, here);
      number_is = added.is_given.number_is ∙ so_far.place_is;
      words_are = added.is_given.words_are;
      shaped = added.is_given.shaped;
    }

    new_here : IsDuplicate so_far.done (words line) → ⊥
    new_here d = added.single (subst (λ ws. IsDuplicate ws (words line)) so_far.kept (among_kept so_far.done (words line) d))

  -- ---- reading stops at the next line

  pub line_fault : IsShapeless (words line) ⊎ (IsTooMany (map words_given found) (words line) ⊎ IsUnplaced found (words line)) → (files : List File)
      → HasFault text files (fault.Line place)
  line_fault (inl h) files = rw so_far.place_is (HasFault.no_shape so_far.done (words line) (word_lines behind, here) h.there h.never)
  line_fault (inr (inl h)) files =
      rw so_far.place_is (HasFault.too_many so_far.done (words line) h.word h.limit (word_lines behind, here) h.is_limit h.is_of many)
    where
      many : h.limit ≤ length (filter (is_kind h.word) so_far.done)
      many =
          let kept = count_limited so_far h.word h.limit h.is_limit in omega (arith, kept, h.many)
  line_fault (inr (inr h)) files =
      rw so_far.place_is (HasFault.misplaced so_far.done (words line) (word_lines behind, here)
      (misplaced_of so_far.shaped (words line) h.of h.shaped h.unplaced))

  pub not_wrong : IsAgain found (words line) → IsWrongAt text place → ⊥
  not_wrong a (before, later, l, e, at, wrong) =
      let same = same_cut so_far.done (words line) (word_lines behind) before l later (sym here ∙ e) (omega (arith, at, so_far.place_is)) in
      let shaped : IsLine l a.of = subst (λ w. IsLine w a.of) same.1 a.shaped in
      elim (subst (λ ws. IsWrong ws l) (sym same.0) wrong) [
        | inl shapeless ↦ shapeless.never a.of shaped
        | inr (inl many) ↦
            room_left so_far.done l a.of shaped
            (let kept = count_kept so_far a.of in let room = a.room in omega (arith, kept, room)) many
        | inr (inr misplaced) ↦ a.placed (unplaced_of so_far.shaped l a.of shaped misplaced)
      ]

  pub duplicate_fault : IsAgain found (words line) → (files : List File) → HasFault text files (fault.Duplicate place)
  duplicate_fault a files =
      rw so_far.place_is (HasFault.duplicate so_far.done (words line) (word_lines behind, here)
      (among_all so_far.done (words line) (subst (λ ws. IsDuplicate ws (words line)) (sym so_far.kept) a.again)))

-- ---- the text is at its end

module _ {text rest : List ℕ} {found : List Given} {place : ℕ} (so_far : Found text rest found place) (end : lines rest ≡ []) where
  all_done : word_lines text ≡ so_far.done
  all_done = so_far.whole ∙ ap (λ x. so_far.done ++ x) (no_words rest end) ∙ append-nil so_far.done

  pub found_lines : AreLines (word_lines text) (map line_given found)
  found_lines = rw all_done so_far.shaped

  pub found_single : Single (word_lines text)
  found_single before later line e = so_far.single before later line (sym all_done ∙ e)

  pub found_in_place : InPlace (word_lines text)
  found_in_place before later line e = so_far.in_place before later line (sym all_done ∙ e)

count_relays : (found : List Given) → length (relay_lines (map line_given found)) ≡ length (filter (is_kind (codes "relay")) (map words_given found))
count_relays [] = refl
count_relays (given ∷ found) = one (line_given given) (words given.behind.now) (count_relays found) where
  one : (it : Line) (behind : Words)
      → length (relay_lines (map line_given found)) ≡ length (filter (is_kind (codes "relay")) (map words_given found))
      → length (relay_lines (it ∷ map line_given found)) ≡ length (filter (is_kind (codes "relay")) ((kind it ∷ behind) ∷ map words_given found))
  one (Line.Relay it) behind same = omega (arith, same)
  one (Line.Entry it) behind same = same
  one (Line.Protect it) behind same = same
  one Line.Policy behind same = same
  one (Line.Spare it) behind same = same
  one (Line.Outside it) behind same = same

count_entries : (found : List Given) → length (entry_lines (map line_given found)) ≡ length (filter (is_kind (codes "entry")) (map words_given found))
count_entries [] = refl
count_entries (given ∷ found) = one (line_given given) (words given.behind.now) (count_entries found) where
  one : (it : Line) (behind : Words)
      → length (entry_lines (map line_given found)) ≡ length (filter (is_kind (codes "entry")) (map words_given found))
      → length (entry_lines (it ∷ map line_given found)) ≡ length (filter (is_kind (codes "entry")) ((kind it ∷ behind) ∷ map words_given found))
  one (Line.Relay it) behind same = same
  one (Line.Entry it) behind same = omega (arith, same)
  one (Line.Protect it) behind same = same
  one Line.Policy behind same = same
  one (Line.Spare it) behind same = same
  one (Line.Outside it) behind same = same

count_protections : (found : List Given)
    → length (protect_lines (map line_given found)) ≡ length (filter (is_kind (codes "protect")) (map words_given found))
count_protections [] = refl
count_protections (given ∷ found) = one (line_given given) (words given.behind.now) (count_protections found) where
  one : (it : Line) (behind : Words)
      → length (protect_lines (map line_given found)) ≡ length (filter (is_kind (codes "protect")) (map words_given found))
      → length (protect_lines (it ∷ map line_given found)) ≡ length (filter (is_kind (codes "protect")) ((kind it ∷ behind) ∷ map words_given found))
  one (Line.Relay it) behind same = same
  one (Line.Entry it) behind same = same
  one (Line.Protect it) behind same = omega (arith, same)
  one Line.Policy behind same = same
  one (Line.Spare it) behind same = same
  one (Line.Outside it) behind same = same

count_spares : (found : List Given) → length (spare_lines (map line_given found)) ≡ length (filter (is_kind (codes "spare")) (map words_given found))
count_spares [] = refl
count_spares (given ∷ found) = one (line_given given) (words given.behind.now) (count_spares found) where
  one : (it : Line) (behind : Words)
      → length (spare_lines (map line_given found)) ≡ length (filter (is_kind (codes "spare")) (map words_given found))
      → length (spare_lines (it ∷ map line_given found)) ≡ length (filter (is_kind (codes "spare")) ((kind it ∷ behind) ∷ map words_given found))
  one Line.Policy behind same = same
  one (Line.Relay it) behind same = same
  one (Line.Entry it) behind same = same
  one (Line.Protect it) behind same = same
  one (Line.Spare it) behind same = omega (arith, same)
  one (Line.Outside it) behind same = same

count_outsides : (found : List Given) → length (outside_lines (map line_given found)) ≡ length (filter (is_kind (codes "outside")) (map words_given found))
count_outsides [] = refl
count_outsides (given ∷ found) = one (line_given given) (words given.behind.now) (count_outsides found) where
  one : (it : Line) (behind : Words)
      → length (outside_lines (map line_given found)) ≡ length (filter (is_kind (codes "outside")) (map words_given found))
      → length (outside_lines (it ∷ map line_given found)) ≡ length (filter (is_kind (codes "outside")) ((kind it ∷ behind) ∷ map words_given found))
  one Line.Policy behind same = same
  one (Line.Relay it) behind same = same
  one (Line.Entry it) behind same = same
  one (Line.Protect it) behind same = same
  one (Line.Spare it) behind same = same
  one (Line.Outside it) behind same = omega (arith, same)

module _ {text rest : List ℕ} {found : List Given} {place : ℕ} (so_far : Found text rest found place) where
  pub few_relays : length (relay_lines (map line_given found)) ≤ RELAYS
  few_relays = omega (arith, count_relays found, so_far.few (codes "relay") RELAYS IsLimit.relays)

  pub few_entries : length (entry_lines (map line_given found)) ≤ ENTRIES
  few_entries = omega (arith, count_entries found, so_far.few (codes "entry") ENTRIES IsLimit.entries)

  pub few_protections : length (protect_lines (map line_given found)) ≤ PROTECTIONS
  few_protections = omega (arith, count_protections found, so_far.few (codes "protect") PROTECTIONS IsLimit.protections)

  pub few_spares : length (spare_lines (map line_given found)) ≤ SPARES
  few_spares = omega (arith, count_spares found, so_far.few (codes "spare") SPARES IsLimit.spares)

  pub few_outsides : length (outside_lines (map line_given found)) ≤ OUTSIDES
  few_outsides = omega (arith, count_outsides found, so_far.few (codes "outside") OUTSIDES IsLimit.outsides)

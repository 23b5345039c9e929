-- The places that lines may have.
use Rattle.std.proofs.Common.{◌≡◌, ℕ, Bool, true, false, not, ◌+◌, ◌<◌, ◌≤◌, List, [], ◌∷◌, ◌++◌, length, map, Option, Some, None, refl, sym, ap, subst, ◌∙◌, arith, drop, get_or, inl, inr, append_assoc, append-nil, length-append, filter}
use Rattle.std.proofs.lemmas.Bool.{cases_Bool, eqb-true, false≢true}
use Rattle.std.proofs.Math.ListN.{drop_of_length-le}
use Rattle.std.proofs.lemmas.List.{at_drop_more, map-append}
use Rattle.std.proofs.lemmas.List.Elements.{All-push, Contains-append_cases, Contains-append_left, Contains-append_right, Contains-push, Contains-push_cases, filter-append}
use Rattle.std.proofs.lemmas.Slice.Eq.{bytes_eq-Decides}
use Rattle.std.specs.Prelude.{All, Contains, ◌⊎◌, codes, if◌then◌else◌}
use Rattle.std.specs.Str.{bytes_eq}
use Rattle.std.specs.Str.Lines.{lines}
use Rattle.sy_site.specs.declared.fault.SiteFault.TheVariants as fault
use Rattle.sy_site.specs.declared.texts.reading.Given.{Given}
use Rattle.sy_site.specs.declared.texts.shapes.Line.{Line as Read}
use Rattle.sy_site.specs.declared.texts.shapes.Line.TheVariants as read
use Rattle.sy_site.specs.declared.texts.shapes.RelayLine.{RelayLine as ReadRelay}
use Rattle.sy_site.specs.internal.Lines.{line_of}
use Rattle.sy_site.specs.internal.Reading.{kind, most, line_given, words_given, BeginAlike, HasNoPlace, HasRoom, IsAdded, IsAgain, IsPlaced, IsShapeless, IsTooMany, IsUnplaced, IsWrong, IsWrongAt, NoneBefore}
use Rattle.sy_site.specs.texts.Lines.{is_kind, is_skipped, words, word_lines}
use Rattle.sy_site.specs.texts.Shapes.{Line, RelayLine, EntryLine, ProtectLine, SpareLine, IsLine, policy_line}
use Rattle.sy_site.specs.texts.Files.{RELAYS}
use Rattle.sy_site.specs.texts.Describes.{ENTRIES, PROTECTIONS, SPARES, AreLines, File, IsDuplicate, IsMisplaced, Repeats, entry_lines, first_line, policy_of, protect_lines, relay_lines, spare_lines}
use Rattle.sy_site.specs.texts.HasFault.{HasFault, IsLimit}
use Rattle.sy_site.proofs.lemmas.texts.Shaped.{behind_first, first_same}
use Rattle.sy_site.proofs.lemmas.texts.Noted.{Words, one_behind, no_words, split, within}
use Rattle.sy_site.proofs.lemmas.texts.OneLine.{one_line}
use Rattle.sy_site.proofs.lemmas.texts.Again.{letter}
use Rattle.sy_site.proofs.lemmas.texts.Kinds.{misplaced_kept}

-- ---- the place of a line

abbrev pub InPlace : List Words → Type 0
InPlace done = (before later : List Words) (line : Words) → done ≡ before ++ line ∷ later → IsMisplaced before line → ⊥

pub in_place_more : (done : List Words) (line : Words) → InPlace done → (IsMisplaced done line → ⊥) → InPlace (done ++ line ∷ [])
in_place_more done line placed new before later l e misplaced =
    elim (one_behind done line before later l e) [
      | inl h ↦ new (rw (h.0, h.1) misplaced)
      | inr h ↦ placed before h.0 l h.1 misplaced
    ]

pub skipped_in_place : (done : List Words) (line : Words) → is_skipped line ≡ true → IsMisplaced done line → ⊥
skipped_in_place done line skip m = false≢true (sym (misplaced_kept done line m) ∙ skip)

-- the first line that isn't skipped has the first shape
abbrev pub IsFirstOf : Option Words → List Line → Type 0
IsFirstOf first [] = first ≡ None
IsFirstOf first (it ∷ lines) = (w : Words) × (first ≡ Some w) × IsLine w it

pub skip_first : (w : Words) (ws : List Words) → is_skipped w ≡ true → first_line (w ∷ ws) ≡ first_line ws
skip_first w ws e = rw e refl

pub kept_first : (w : Words) (ws : List Words) → is_skipped w ≡ false → first_line (w ∷ ws) ≡ Some w
kept_first w ws e = rw e refl

pub first_is : {done : List Words} {lines : List Line} → AreLines done lines → IsFirstOf (first_line done) lines
first_is AreLines.none = refl
first_is (AreLines.skip {words = w} {later = ws} {lines = lines} e h) = subst (λ o. IsFirstOf o lines) (sym (skip_first w ws e)) (first_is h)
first_is (AreLines.shaped {words = w} {later = ws} {it = it} {lines = lines} e is h) = (w, kept_first w ws e, is)

none_first : {A : Type 0} {o : Option A} {x : A} → o ≡ None → o ≡ Some x → ⊥
none_first e f = cc

one_first : {A : Type 0} {o : Option A} {x y : A} → o ≡ Some x → o ≡ Some y → x ≡ y
one_first e f = cc

-- where the first line sets the policy, it is a policy line
sets_policy : (first : Option Words) (lines : List Line) → IsFirstOf first lines → first ≡ Some policy_line → policy_of lines ≡ 2
sets_policy first [] is e = absurd (none_first is e)
sets_policy first (it ∷ lines) is e = by_line it (one_line policy_line it Line.Policy (subst (λ w. IsLine w it) (one_first is.1 e) is.2) refl)
  where
    by_line : (x : Line) → x ≡ Line.Policy → policy_of (x ∷ lines) ≡ 2
    by_line x same = ap (λ y. policy_of (y ∷ lines)) same

-- where the policy isn't set, it is 1
no_policy : (first : Option Words) (lines : List Line) → IsFirstOf first lines → (first ≡ Some policy_line → ⊥) → policy_of lines ≡ 1
no_policy first [] is never = refl
no_policy first (Line.Policy ∷ lines) is never = absurd (never (is.1 ∙ ap Some is.2))
no_policy first (Line.Relay it ∷ lines) is never = refl
no_policy first (Line.Entry it ∷ lines) is never = refl
no_policy first (Line.Protect it ∷ lines) is never = refl
no_policy first (Line.Spare it ∷ lines) is never = refl
no_policy first (Line.Outside it ∷ lines) is never = refl

not_empty : {A : Type 0} {x : A} {xs : List A} → x ∷ xs ≡ [] → ⊥
not_empty e = cc

behind_some : (done : List Words) (lines : List Line) → IsFirstOf (first_line done) lines → (lines ≡ [] → ⊥) → (words : Words)
    → IsMisplaced done (codes "policy" ∷ words)
behind_some done [] is some words = absurd (some refl)
behind_some done (it ∷ lines) is some words = IsMisplaced.policy_behind is.0 words is.1

one_is_two : (n : ℕ) → n ≡ 1 → n ≡ 2 → ⊥
one_is_two n e f = omega (arith, e, f)

pub misplaced_of : {done : List Words} {lines : List Line} → AreLines done lines → (w : Words) (it : Line) → IsLine w it → HasNoPlace lines it → IsMisplaced done w
misplaced_of {done} {lines} are w Line.Policy is unplaced = subst (IsMisplaced done) (sym is) (behind_some done lines (first_is are) unplaced (codes "2" ∷ []))
misplaced_of {done} {lines} are w (Line.Spare it) is unplaced =
    subst (IsMisplaced done) (sym is) (IsMisplaced.spare_without (it.relay ∷ it.action ∷ []) (λ e. one_is_two (policy_of lines) unplaced
    (sets_policy (first_line done) lines (first_is are) e)))
misplaced_of are w (Line.Relay it) is unplaced = absurd unplaced
misplaced_of are w (Line.Entry it) is unplaced = absurd unplaced
misplaced_of are w (Line.Protect it) is unplaced = absurd unplaced
misplaced_of are w (Line.Outside it) is unplaced = absurd unplaced

pub unplaced_of : {done : List Words} {lines : List Line} → AreLines done lines → (w : Words) (it : Line) → IsLine w it → IsMisplaced done w → HasNoPlace lines it
unplaced_of {done} {lines} are w Line.Policy is (IsMisplaced.policy_behind first words e) =
    λ empty. none_first (subst (λ ls. IsFirstOf (first_line done) ls) empty (first_is are)) e
unplaced_of are w Line.Policy is (IsMisplaced.spare_without words never) = let h : 112 ≡ 111 = ap letter (first_same is) in absurd (omega (arith, h))
unplaced_of {done} {lines} are w (Line.Spare it) is (IsMisplaced.spare_without words never) = no_policy (first_line done) lines (first_is are) never
unplaced_of are w (Line.Spare it) is (IsMisplaced.policy_behind first words e) = let h : 111 ≡ 112 = ap letter (first_same is) in absurd (omega (arith, h))
unplaced_of are w (Line.Relay it) is (IsMisplaced.policy_behind first words e) =
    let h : 111 ≡ 101 = ap letter (first_same is.whole) in absurd (omega (arith, h))
unplaced_of are w (Line.Relay it) is (IsMisplaced.spare_without words never) =
    let h : 112 ≡ 101 = ap letter (first_same is.whole) in absurd (omega (arith, h))
unplaced_of are w (Line.Entry it) is (IsMisplaced.policy_behind first words e) =
    let h : 111 ≡ 110 = ap letter (first_same is.whole) in absurd (omega (arith, h))
unplaced_of are w (Line.Entry it) is (IsMisplaced.spare_without words never) =
    let h : 112 ≡ 110 = ap letter (first_same is.whole) in absurd (omega (arith, h))
unplaced_of are w (Line.Protect it) is (IsMisplaced.policy_behind first words e) =
    let h : 111 ≡ 114 = ap letter (first_same is.whole) in absurd (omega (arith, h))
unplaced_of are w (Line.Protect it) is (IsMisplaced.spare_without words never) =
    let h : 112 ≡ 114 = ap letter (first_same is.whole) in absurd (omega (arith, h))
unplaced_of are w (Line.Outside it) is (IsMisplaced.policy_behind first words e) =
    let h : 111 ≡ 117 = ap letter (first_same is.whole) in absurd (omega (arith, h))
unplaced_of are w (Line.Outside it) is (IsMisplaced.spare_without words never) =
    let h : 112 ≡ 117 = ap letter (first_same is.whole) in absurd (omega (arith, h))

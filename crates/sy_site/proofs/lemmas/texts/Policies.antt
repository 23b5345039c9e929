-- The policy that the lines of a text set, and that nothing is spare without policy 2.
use Rattle.std.proofs.Common.{◌≡◌, false, true, List, [], ◌∷◌, ◌++◌, Some, None, refl, sym, ap, subst, ◌∙◌, inl, inr}
use Rattle.std.specs.Prelude.{Contains, ◌⊎◌, codes}
use Rattle.sy_site.specs.Sites.{Site}
use Rattle.sy_site.specs.texts.Lines.{is_skipped}
use Rattle.sy_site.specs.texts.Shapes.{Line, IsLine, policy_line}
use Rattle.sy_site.specs.texts.Describes.{AllPaired, AreLines, IsMisplaced, IsSpare, first_line, policy_of, spare_lines}
use Rattle.sy_site.proofs.lemmas.texts.Again.{among_first, among_later, split_at}
use Rattle.sy_site.proofs.lemmas.texts.Placed.{InPlace, kept_first, skip_first}
use Rattle.sy_site.proofs.lemmas.texts.Noted.{Words}
use Rattle.sy_site.proofs.lemmas.texts.OneLine.{one_line}

abbrev IsFree : List Words → Type 0
IsFree all = (words : Words) → Contains all (codes "spare" ∷ words) → ⊥

free_later : (w : Words) (ws : List Words) → IsFree (w ∷ ws) → IsFree ws
free_later w ws free words there = free words (among_later w ws (codes "spare" ∷ words) there)

no_spares : {all : List Words} {lines : List Line} → AreLines all lines → IsFree all → spare_lines lines ≡ []
no_spares AreLines.none free = refl
no_spares (AreLines.skip {words = w} {later = ws} e h) free = no_spares h (free_later w ws free)
no_spares (AreLines.shaped {words = w} {later = ws} {it = Line.Policy} e is h) free = no_spares h (free_later w ws free)
no_spares (AreLines.shaped {words = w} {later = ws} {it = Line.Relay it} e is h) free = no_spares h (free_later w ws free)
no_spares (AreLines.shaped {words = w} {later = ws} {it = Line.Entry it} e is h) free = no_spares h (free_later w ws free)
no_spares (AreLines.shaped {words = w} {later = ws} {it = Line.Protect it} e is h) free = no_spares h (free_later w ws free)
no_spares (AreLines.shaped {words = w} {later = ws} {it = Line.Outside it} e is h) free = no_spares h (free_later w ws free)
no_spares (AreLines.shaped {words = w} {later = ws} {it = Line.Spare it} e is h) free =
    absurd (free (it.relay ∷ it.action ∷ []) (subst (λ x. Contains (w ∷ ws) x) is (among_first w ws)))

-- ---- a line that is skipped

lift : (w : Words) (before : List Words) (line : Words) → is_skipped w ≡ true → IsMisplaced before line → IsMisplaced (w ∷ before) line
lift w before line skip (IsMisplaced.policy_behind first words e) = IsMisplaced.policy_behind first words (skip_first w before skip ∙ e)
lift w before line skip (IsMisplaced.spare_without words never) = IsMisplaced.spare_without words (λ e. never (sym (skip_first w before skip) ∙ e))

place_later : (w : Words) (ws : List Words) → is_skipped w ≡ true → InPlace (w ∷ ws) → InPlace ws
place_later w ws skip placed before later line e m = placed (w ∷ before) later line (ap (λ l. w ∷ l) e) (lift w before line skip m)

-- ---- the first line that isn't skipped

no_first : {w : Words} → None ≡ Some w → ⊥
no_first e = cc

same_first : {v w : Words} → Some v ≡ Some w → v ≡ w
same_first e = cc

module _ (w : Words) (ws : List Words) (it : Line) (kept : is_skipped w ≡ false) (is : IsLine w it) (other : it ≡ Line.Policy → ⊥) where
  not_set : w ≡ policy_line → ⊥
  not_set same = other (one_line policy_line it Line.Policy (subst (λ v. IsLine v it) same is) refl)

  behind_other : (front back : List Words) (line : Words) → w ∷ ws ≡ front ++ line ∷ back → first_line front ≡ Some policy_line → ⊥
  behind_other [] back line e set = no_first set
  behind_other (b ∷ front) back line e set =
      let head : w ≡ b = cc in
      not_set (same_first (sym (kept_first w front kept) ∙ ap (λ v. first_line (v ∷ front)) head ∙ set))

  free_of : InPlace (w ∷ ws) → IsFree (w ∷ ws)
  free_of placed words there =
      let cut = split_at (w ∷ ws) (codes "spare" ∷ words) there in
      placed cut.0 cut.1 (codes "spare" ∷ words) cut.2
      (IsMisplaced.spare_without words (behind_other cut.0 cut.1 (codes "spare" ∷ words) cut.2))

abbrev pub ByPolicy : List Line → Type 0
ByPolicy lines = ((policy_of lines ≡ 1) × (spare_lines lines ≡ [])) ⊎ (policy_of lines ≡ 2)

pub by_policy : {all : List Words} {lines : List Line} → AreLines all lines → InPlace all → ByPolicy lines
by_policy AreLines.none placed = inl (refl, refl)
by_policy (AreLines.skip {words = w} {later = ws} e h) placed = by_policy h (place_later w ws e placed)
by_policy (AreLines.shaped {it = Line.Policy} e is h) placed = inr refl
by_policy (AreLines.shaped {words = w} {later = ws} {it = Line.Relay it} e is h) placed =
    inl (refl, no_spares (AreLines.shaped {it = Line.Relay it} e is h) (free_of w ws (Line.Relay it) e is (λ f. cc) placed))
by_policy (AreLines.shaped {words = w} {later = ws} {it = Line.Entry it} e is h) placed =
    inl (refl, no_spares (AreLines.shaped {it = Line.Entry it} e is h) (free_of w ws (Line.Entry it) e is (λ f. cc) placed))
by_policy (AreLines.shaped {words = w} {later = ws} {it = Line.Protect it} e is h) placed =
    inl (refl, no_spares (AreLines.shaped {it = Line.Protect it} e is h) (free_of w ws (Line.Protect it) e is (λ f. cc) placed))
by_policy (AreLines.shaped {words = w} {later = ws} {it = Line.Spare it} e is h) placed =
    inl (refl, no_spares (AreLines.shaped {it = Line.Spare it} e is h) (free_of w ws (Line.Spare it) e is (λ f. cc) placed))
by_policy (AreLines.shaped {words = w} {later = ws} {it = Line.Outside it} e is h) placed =
    inl (refl, no_spares (AreLines.shaped {it = Line.Outside it} e is h) (free_of w ws (Line.Outside it) e is (λ f. cc) placed))

-- ---- a site of these lines

none_paired : {A B : Type 0} {P : A → B → Type 0} {xs : List A} {ys : List B} → AllPaired P xs ys → xs ≡ [] → ys ≡ []
none_paired AllPaired.none e = refl
none_paired (AllPaired.more p ps) e = cc

pub site_policy : (site : Site) (lines : List Line) → ByPolicy lines → site.policy ≡ policy_of lines
    → AllPaired (IsSpare site) (spare_lines lines) site.spares → ((site.policy ≡ 1) × (site.spares ≡ [])) ⊎ (site.policy ≡ 2)
site_policy site lines by same spares =
    elim by [
      | inl one ↦ inl (same ∙ one.0, none_paired spares one.1)
      | inr two ↦ inr (same ∙ two)
    ]

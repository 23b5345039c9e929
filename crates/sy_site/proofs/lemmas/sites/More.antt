-- What belongs to lines, list after list.
use Rattle.std.proofs.Common.{◌≡◌, ℕ, suc, ◌<◌, true, false, List, [], ◌∷◌, ◌++◌, length, map, filter, get_or, drop, ◌+◌, ◌≤◌, Result, Ok, Err, refl, sym, ap, subst, ◌∙◌, arith, append_assoc, append-nil}
use Rattle.std.specs.Prelude.{All, Contains, OnOk}
use Rattle.std.proofs.lemmas.List.{drop_all, drop_more}
use Rattle.std.proofs.lemmas.List.Elements.{All-append, All-cons, filter-append}
use Rattle.sy_site.specs.texts.Describes.{AllPaired, entry_lines, outside_lines, protect_lines, relay_lines, spare_lines, whole_lines}
use Rattle.sy_site.specs.Sites.{Outside}
use Rattle.sy_site.specs.texts.Shapes.{Line, EntryLine}
use Rattle.sy_site.specs.declared.texts.reading.Given.{Given}
use Rattle.sy_site.specs.declared.texts.shapes.RelayLine.{RelayLine as ReadRelay}
use Rattle.sy_site.specs.declared.texts.shapes.EntryLine.{EntryLine as ReadEntry}
use Rattle.sy_site.specs.declared.texts.shapes.ProtectLine.{ProtectLine as ReadProtect}
use Rattle.sy_site.specs.declared.texts.shapes.SpareLine.{SpareLine as ReadSpare}
use Rattle.sy_site.specs.declared.texts.shapes.OutsideLine.{OutsideLine as ReadOutside}
use Rattle.sy_site.specs.declared.texts.shapes.Line.{Line as Read}
use Rattle.sy_site.specs.declared.texts.shapes.Line.TheVariants as read
use Rattle.sy_site.specs.internal.Lines.{line_of}
use Rattle.sy_site.specs.internal.Reading.{line_given}
use Rattle.sy_site.specs.internal.Relays.{HasMore}

module _ {A B : Type 0} (P : A → B → Type 0) where
  pub more_none : (old : List B) → HasMore P [] old old
  more_none old = record { more = []; new_is = sym (append-nil old); paired = AllPaired.none }

  pub more_one : (x : A) (y : B) (old new : List B) → new ≡ old ++ y ∷ [] → P x y → HasMore P (x ∷ []) old new
  more_one x y old new is belongs = record { more = y ∷ []; new_is = is; paired = AllPaired.more belongs AllPaired.none }

  both_paired : {xs zs : List A} {ys ws : List B} → AllPaired P xs ys → AllPaired P zs ws → AllPaired P (xs ++ zs) (ys ++ ws)
  both_paired AllPaired.none q = q
  both_paired (AllPaired.more p ps) q = AllPaired.more p (both_paired ps q)

  pub more_both : (xs zs : List A) (old mid new : List B) → HasMore P xs old mid → HasMore P zs mid new → HasMore P (xs ++ zs) old new
  more_both xs zs old mid new first second = record {
    more = first.more ++ second.more;
    new_is = second.new_is ∙ ap (λ l. l ++ second.more) first.new_is ∙ append_assoc old first.more second.more;
    paired = both_paired first.paired second.paired;
  }

  -- all that belongs to the lines
  pub all_paired : (xs : List A) (new : List B) → HasMore P xs [] new → AllPaired P xs new
  all_paired xs new h = subst (λ l. AllPaired P xs l) (sym h.new_is) h.paired

  pub paired_lengths : {xs : List A} {ys : List B} → AllPaired P xs ys → length xs ≡ length ys
  paired_lengths AllPaired.none = refl
  paired_lengths (AllPaired.more p ps) = ap suc (paired_lengths ps)

  -- what belongs to an element
  pub partner : {xs : List A} {ys : List B} → AllPaired P xs ys → (x : A) → Contains xs x → (y : B) × Contains ys y × P x y
  partner AllPaired.none x (k, l, is) = absurd (omega (arith, l))
  partner (AllPaired.more {y = y} p ps) x (ℕ.zero, l, is) = (y, (0, omega arith, refl), subst (λ z. P z y) is p)
  partner (AllPaired.more p ps) x (ℕ.suc k, l, is) =
      let found = partner ps x (k, omega (arith, l), is) in
      (found.0, (suc found.1.0, omega (arith, found.1.1), found.1.2), found.2)

  pub partner_back : {xs : List A} {ys : List B} → AllPaired P xs ys → (y : B) → Contains ys y → (x : A) × Contains xs x × P x y
  partner_back AllPaired.none y (k, l, is) = absurd (omega (arith, l))
  partner_back (AllPaired.more {x = x} p ps) y (ℕ.zero, l, is) = (x, (0, omega arith, refl), subst (λ z. P x z) is p)
  partner_back (AllPaired.more p ps) y (ℕ.suc k, l, is) =
      let found = partner_back ps y (k, omega (arith, l), is) in
      (found.0, (suc found.1.0, omega (arith, found.1.1), found.1.2), found.2)

  pub all_right : (Q : B → Type 0) → ((x : A) (y : B) → P x y → Q y) → {xs : List A} {ys : List B} → AllPaired P xs ys → All Q ys
  all_right Q each AllPaired.none = λ k d l. absurd (omega (arith, l))
  all_right Q each (AllPaired.more {y = y} {ys = ys} p ps) = All-cons Q y ys (each _ _ p) (all_right Q each ps)

  pub paired_map : {C : Type 0} (f : B → C) (R : A → C → Type 0) → ((x : A) (y : B) → P x y → R x (f y)) → {xs : List A} {ys : List B}
      → AllPaired P xs ys → AllPaired R xs (map f ys)
  paired_map f R each AllPaired.none = AllPaired.none
  paired_map f R each (AllPaired.more p ps) = AllPaired.more (each _ _ p) (paired_map f R each ps)

pub paired_as : {A B : Type 0} (P Q : A → B → Type 0) → ((x : A) (y : B) → P x y → Q x y) → {xs : List A} {ys : List B} → AllPaired P xs ys → AllPaired Q xs ys
paired_as P Q each AllPaired.none = AllPaired.none
paired_as P Q each (AllPaired.more p ps) = AllPaired.more (each _ _ p) (paired_as P Q each ps)

-- ---- lines of a kind

pub relay_first : (line : Line) (lines : List Line) → relay_lines (line ∷ lines) ≡ relay_lines (line ∷ []) ++ relay_lines lines
relay_first Line.Policy lines = refl
relay_first (Line.Relay it) lines = refl
relay_first (Line.Entry it) lines = refl
relay_first (Line.Protect it) lines = refl
relay_first (Line.Spare it) lines = refl
relay_first (Line.Outside it) lines = refl

pub entry_first : (line : Line) (lines : List Line) → entry_lines (line ∷ lines) ≡ entry_lines (line ∷ []) ++ entry_lines lines
entry_first Line.Policy lines = refl
entry_first (Line.Relay it) lines = refl
entry_first (Line.Entry it) lines = refl
entry_first (Line.Protect it) lines = refl
entry_first (Line.Spare it) lines = refl
entry_first (Line.Outside it) lines = refl

pub whole_first : (line : Line) (lines : List Line) → whole_lines (line ∷ lines) ≡ whole_lines (line ∷ []) ++ whole_lines lines
whole_first line lines =
    ap (filter (λ it. it.is_whole)) (entry_first line lines) ∙ filter-append (λ it. it.is_whole) (entry_lines (line ∷ [])) (entry_lines lines)

pub protect_first : (line : Line) (lines : List Line) → protect_lines (line ∷ lines) ≡ protect_lines (line ∷ []) ++ protect_lines lines
protect_first Line.Policy lines = refl
protect_first (Line.Relay it) lines = refl
protect_first (Line.Entry it) lines = refl
protect_first (Line.Protect it) lines = refl
protect_first (Line.Spare it) lines = refl
protect_first (Line.Outside it) lines = refl

pub spare_first : (line : Line) (lines : List Line) → spare_lines (line ∷ lines) ≡ spare_lines (line ∷ []) ++ spare_lines lines
spare_first Line.Policy lines = refl
spare_first (Line.Relay it) lines = refl
spare_first (Line.Entry it) lines = refl
spare_first (Line.Protect it) lines = refl
spare_first (Line.Spare it) lines = refl
spare_first (Line.Outside it) lines = refl

pub outside_first : (line : Line) (lines : List Line) → outside_lines (line ∷ lines) ≡ outside_lines (line ∷ []) ++ outside_lines lines
outside_first Line.Policy lines = refl
outside_first (Line.Relay it) lines = refl
outside_first (Line.Entry it) lines = refl
outside_first (Line.Protect it) lines = refl
outside_first (Line.Spare it) lines = refl
outside_first (Line.Outside it) lines = refl

-- ---- lines that were read, one after the other

module _ {X B : Type 0} (P : X → B → Type 0) (kind : List Line → List X)
    (first : (line : Line) (lines : List Line) → kind (line ∷ lines) ≡ kind (line ∷ []) ++ kind lines) where
  pub next_line : (next : Given) (rest : List Given) (old mid final : List B) → HasMore P (kind (line_given next ∷ [])) old mid
      → HasMore P (kind (map line_given rest)) mid final → HasMore P (kind (map line_given (next ∷ rest))) old final
  next_line next rest old mid final one others =
      subst (λ l. HasMore P l old final) (sym (first (line_given next) (map line_given rest)))
      (more_both P (kind (line_given next ∷ [])) (kind (map line_given rest)) old mid final one others)

  pub next_at : (found : List Given) (i : ℕ) (next : Given) (old mid final : List B) → i < length found → next ≡ get_or found i next
      → HasMore P (kind (line_given next ∷ [])) old mid → HasMore P (kind (map line_given (drop (i + 1) found))) mid final
      → HasMore P (kind (map line_given (drop i found))) old final
  next_at found i next old mid final within is one others =
      subst (λ l. HasMore P (kind (map line_given l)) old final) (sym cut) (next_line next (drop (i + 1) found) old mid final one others)
    where
      cut : drop i found ≡ next ∷ drop (i + 1) found
      cut = drop_more found i next within ∙ ap (λ g. g ∷ drop (i + 1) found) (sym is)

-- what holds of all that the lines from a place on give
pub all_at : {X : Type 0} (Q : X → Type 0) (kind : List Line → List X)
    → ((line : Line) (lines : List Line) → kind (line ∷ lines) ≡ kind (line ∷ []) ++ kind lines)
    → (found : List Given) (i : ℕ) (next : Given) → i < length found → next ≡ get_or found i next → All Q (kind (line_given next ∷ []))
    → All Q (kind (map line_given (drop (i + 1) found))) → All Q (kind (map line_given (drop i found)))
all_at Q kind first found i next within is one others =
    subst (λ l. All Q (kind (map line_given l))) (sym cut)
    (subst (All Q) (sym (first (line_given next) (map line_given (drop (i + 1) found))))
    (All-append Q (kind (line_given next ∷ [])) (kind (map line_given (drop (i + 1) found))) one others))
  where
    cut : drop i found ≡ next ∷ drop (i + 1) found
    cut = drop_more found i next within ∙ ap (λ g. g ∷ drop (i + 1) found) (sym is)

pub not_relay : (line : Read) → ((it : ReadRelay) → line ≡ read.Relay it → ⊥) → relay_lines (line_of line ∷ []) ≡ []
not_relay read.Policy never = refl
not_relay (read.Relay it) never = absurd (never it refl)
not_relay (read.Entry it) never = refl
not_relay (read.Protect it) never = refl
not_relay (read.Spare it) never = refl
not_relay (read.Outside it) never = refl

pub not_entry : (line : Read) → ((it : ReadEntry) → line ≡ read.Entry it → ⊥) → entry_lines (line_of line ∷ []) ≡ []
not_entry read.Policy never = refl
not_entry (read.Relay it) never = refl
not_entry (read.Entry it) never = absurd (never it refl)
not_entry (read.Protect it) never = refl
not_entry (read.Spare it) never = refl
not_entry (read.Outside it) never = refl

pub not_whole : (line : Read) → ((it : ReadEntry) → line ≡ read.Entry it → ⊥) → whole_lines (line_of line ∷ []) ≡ []
not_whole line never = ap (filter (λ it. it.is_whole)) (not_entry line never)

-- an entry line that isn't whole gives none of these, and one that is whole what it gives as an entry line
pub plain_entry : (it : EntryLine) → it.is_whole ≡ false → whole_lines (Line.Entry it ∷ []) ≡ []
plain_entry it plain = rw plain refl

pub whole_entry : (it : EntryLine) → it.is_whole ≡ true → whole_lines (Line.Entry it ∷ []) ≡ entry_lines (Line.Entry it ∷ [])
whole_entry it whole = rw whole refl

pub not_protect : (line : Read) → ((it : ReadProtect) → line ≡ read.Protect it → ⊥) → protect_lines (line_of line ∷ []) ≡ []
not_protect read.Policy never = refl
not_protect (read.Relay it) never = refl
not_protect (read.Entry it) never = refl
not_protect (read.Protect it) never = absurd (never it refl)
not_protect (read.Spare it) never = refl
not_protect (read.Outside it) never = refl

pub not_spare : (line : Read) → ((it : ReadSpare) → line ≡ read.Spare it → ⊥) → spare_lines (line_of line ∷ []) ≡ []
not_spare read.Policy never = refl
not_spare (read.Relay it) never = refl
not_spare (read.Entry it) never = refl
not_spare (read.Protect it) never = refl
not_spare (read.Spare it) never = absurd (never it refl)
not_spare (read.Outside it) never = refl

pub not_outside : (line : Read) → ((it : ReadOutside) → line ≡ read.Outside it → ⊥) → outside_lines (line_of line ∷ []) ≡ []
not_outside read.Policy never = refl
not_outside (read.Relay it) never = refl
not_outside (read.Entry it) never = refl
not_outside (read.Protect it) never = refl
not_outside (read.Spare it) never = refl
not_outside (read.Outside it) never = absurd (never it refl)

-- the receivers of the lines that were read, up to a place and from there on
pub outsides_at : (found : List Given) (i : ℕ) (next : Given) (old new : List Outside) → i < length found → next ≡ get_or found i next
    → new ≡ old ++ outside_lines (line_given next ∷ []) → old ++ outside_lines (map line_given (drop i found)) ≡ outside_lines (map line_given found)
    → new ++ outside_lines (map line_given (drop (i + 1) found)) ≡ outside_lines (map line_given found)
outsides_at found i next old new within is more so_far =
    ap (λ l. l ++ later) more ∙ append_assoc old (outside_lines (line_given next ∷ [])) later
    ∙ ap (λ l. old ++ l) (sym (outside_first (line_given next) (map line_given (drop (i + 1) found))) ∙ ap (λ l. outside_lines (map line_given l)) (sym cut))
    ∙ so_far
  where
    later : List Outside
    later = outside_lines (map line_given (drop (i + 1) found))

    cut : drop i found ≡ next ∷ drop (i + 1) found
    cut = drop_more found i next within ∙ ap (λ g. g ∷ drop (i + 1) found) (sym is)

pub outsides_end : (found : List Given) (i : ℕ) (old : List Outside) → length found ≤ i
    → old ++ outside_lines (map line_given (drop i found)) ≡ outside_lines (map line_given found) → old ≡ outside_lines (map line_given found)
outsides_end found i old past so_far =
    sym (append-nil old) ∙ ap (λ l. old ++ outside_lines (map line_given l)) (sym (drop_all i found past)) ∙ so_far

pub none_outside : (old more : List Outside) → more ≡ [] → old ≡ old ++ more
none_outside old more none = sym (append-nil old) ∙ ap (λ l. old ++ l) (sym none)

pub none_of : {X B : Type 0} (P : X → B → Type 0) (lines : List X) (old : List B) → lines ≡ [] → HasMore P lines old old
none_of P lines old none = subst (λ l. HasMore P l old old) (sym none) (more_none P old)

-- where putting one was answered Ok, it is what belongs to the line
pub push_one : {A B E : Type 0} (P : A → B → Type 0) (x : A) (y : B) (old new : List B) (r : Result (Unit {0}) E) → P x y
    → OnOk r (new ≡ old ++ y ∷ []) → OnOk r (HasMore P (x ∷ []) old new)
push_one P x y old new (Ok u) belongs is = more_one P x y old new is belongs
push_one P x y old new (Err e) belongs is = tt

-- at the end of the lines
pub at_end : {X B : Type 0} (P : X → B → Type 0) (kind : List Line → List X) (found : List Given) (i : ℕ) (old : List B) → kind [] ≡ [] → length found ≤ i
    → HasMore P (kind (map line_given (drop i found))) old old
at_end P kind found i old none past =
    none_of P (kind (map line_given (drop i found))) old (ap (λ l. kind (map line_given l)) (drop_all i found past) ∙ none)

pub nothing : {A : Type 0} (xs : List A) → length xs ≡ 0 → xs ≡ []
nothing [] none = refl
nothing (x ∷ xs) none = absurd (omega (arith, none))

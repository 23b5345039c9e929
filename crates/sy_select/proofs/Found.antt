-- A text without faults is a selector.
use Rattle.std.proofs.Common.{◌≡◌, ◌<◌, ℕ, zero, suc, Bool, true, false, if◌then◌else◌, ◌==◌, inl, inr, List, [], ◌∷◌, ◌++◌, length, Option, Some, None, codes, refl, sym, arith, eqb-true}
use Rattle.std.specs.List.{flat_map}
use Rattle.std.specs.Str.{bytes_eq, str_eq_ignore_ascii_case}
use Rattle.std.proofs.lemmas.Bool.{cases_Bool}
use Rattle.sy_select.specs.declared.fault.FaultCode.TheVariants as code
use Rattle.sy_select.specs.Faults.{Flaw, behind_dot, behind_sign, behind_signs, cut, facilities_faults, facility_faults, faults, is_some, level_faults, no_name, part_faults, pieces, shape}
use Rattle.sy_select.specs.Names.{facility_of, severity_of}
use Rattle.sy_select.specs.Selectors.{add, all, AreFacilities, every, Facilities, IsFacilities, IsLevel, IsPart, IsSelector, last, Level, listed, more, none, not_star, one, Part, star, take_away}
use Rattle.sy_select.proofs.Cutting.{pieces_last, pieces_more}
use Rattle.sy_select.proofs.LevelLaws.{is_level, named_level, same_text}
use Rattle.sy_select.proofs.PartLaws.{shorter_behind}

pub both_empty : {A : Type 0} (xs ys : List A) → xs ++ ys ≡ [] → (xs ≡ []) × (ys ≡ [])
both_empty [] ys e = (refl, e)
both_empty (x ∷ xs) ys e = cc

-- ---- facilities

name_found : (whole piece : List ℕ) → facility_faults whole piece ≡ [] → (f : ℕ) × (facility_of piece ≡ Some f)
name_found whole piece right = go (facility_of piece) refl
  where
    go : (o : Option ℕ) → facility_of piece ≡ o → (f : ℕ) × (facility_of piece ≡ Some f)
    go None e = let bad : no_name code.Facility whole piece ∷ [] ≡ [] = rw e at right in cc
    go (Some f) e = (f, e)

last_name : (text name : List ℕ) (f : ℕ) → text ≡ name → facility_of name ≡ Some f → AreFacilities text (f ∷ [])
last_name text name f e is = rw e (one name is)

more_names : (text name behind : List ℕ) (f : ℕ) (fs : List ℕ) → text ≡ name ++ 44 ∷ behind → facility_of name ≡ Some f → AreFacilities behind fs → AreFacilities text (f ∷ fs)
more_names text name behind f fs e is later = rw e (more name is later)

names_found : (whole : List ℕ) (n : ℕ) (text : List ℕ) → length text < n → flat_map (facility_faults whole) (pieces 44 text) ≡ [] → (fs : List ℕ) × AreFacilities text fs
names_found whole zero text short right = absurd (omega arith)
names_found whole (suc n) text short right = go (λ behind shorter h. names_found whole n behind (omega arith) h) (cut 44 text).1 refl
  where
    go : ((behind : List ℕ) → length behind < length text → flat_map (facility_faults whole) (pieces 44 behind) ≡ [] → (fs : List ℕ) × AreFacilities behind fs) → (o : Option (List ℕ)) → (cut 44 text).1 ≡ o → (fs : List ℕ) × AreFacilities text fs
    go again None e =
        let cuts = pieces_last 44 text e in
        let f = name_found whole (cut 44 text).0 (both_empty (facility_faults whole (cut 44 text).0) [] (rw cuts.0 at right)).0 in
        (f.0 ∷ [], last_name text (cut 44 text).0 f.0 cuts.1 f.1)
    go again (Some behind) e =
        let cuts = pieces_more 44 text behind e in
        let parts = both_empty (facility_faults whole (cut 44 text).0) (flat_map (facility_faults whole) (pieces 44 behind)) (rw cuts.0 at right) in
        let f = name_found whole (cut 44 text).0 parts.0 in
        let shorter = shorter_behind 44 text behind (sym e) in
        let later = again behind shorter parts.1 in
        (f.0 ∷ later.0, more_names text (cut 44 text).0 behind f.0 later.0 cuts.1 f.1 later.1)

facilities_found : (whole text : List ℕ) → facilities_faults whole text ≡ [] → (fs : Facilities) × IsFacilities text fs
unfolding facilities_faults
facilities_found whole text right =
    elim (cases_Bool (bytes_eq text (codes "*"))) [
      | inl is_star ↦ (all, same_text text (codes "*") is_star)
      | inr other ↦
          let names = names_found whole (suc (length text)) text (omega arith) (rw other at right) in
          (listed names.0, names.1)
    ]

-- ---- levels

-- a text with a sign at its head, or without
sign_or_none : (sign : ℕ) (text : List ℕ) → (has : Bool) × (text ≡ (if has then sign ∷ behind_sign sign text else behind_sign sign text))
sign_or_none sign [] = (false, refl)
sign_or_none sign (b ∷ bytes) =
    elim (cases_Bool (b == sign)) [
      | inl e ↦ (true, rw (e, eqb-true b sign e) refl)
      | inr e ↦ (false, rw e refl)
    ]

abbrev severity_faults : List ℕ → List ℕ → List Flaw
severity_faults whole text = if is_some (severity_of (behind_signs text)) then [] else no_name code.Severity whole (behind_signs text) ∷ []

severity_found : (whole text : List ℕ) → severity_faults whole text ≡ [] → (level : Level) × IsLevel text level
severity_found whole text right = go (severity_of (behind_signs text)) refl
  where
    go : (o : Option ℕ) → severity_of (behind_signs text) ≡ o → (level : Level) × IsLevel text level
    go None e = let bad : no_name code.Severity whole (behind_signs text) ∷ [] ≡ [] = rw e at right in cc
    go (Some s) e =
        let takes = sign_or_none 33 text in
        let alone = sign_or_none 61 (behind_sign 33 text) in
        (named_level s takes.0 alone.0, is_level text (behind_sign 33 text) (behind_signs text) s takes.0 alone.0 e takes.1 alone.1)

level_found : (whole text : List ℕ) → level_faults whole text ≡ [] → (level : Level) × IsLevel text level
unfolding level_faults
level_found whole text right = go (bytes_eq text (codes "*")) (bytes_eq text (codes "!*")) (str_eq_ignore_ascii_case (codes "none") text) (str_eq_ignore_ascii_case (codes "none") (behind_signs text)) refl refl refl refl
  where
    go : (a b c d : Bool) → bytes_eq text (codes "*") ≡ a → bytes_eq text (codes "!*") ≡ b → str_eq_ignore_ascii_case (codes "none") text ≡ c → str_eq_ignore_ascii_case (codes "none") (behind_signs text) ≡ d → (level : Level) × IsLevel text level
    go true b c d p q r s = (add every, rw (same_text text (codes "*") p) star)
    go false true c d p q r s = (take_away every, rw (same_text text (codes "!*") q) not_star)
    go false false true d p q r s = (take_away every, none r)
    go false false false true p q r s = let bad : shape whole ∷ [] ≡ [] = rw (p, q, r, s) at right in cc
    go false false false false p q r s = severity_found whole text (rw (p, q, r, s) at right)

-- ---- parts

part_found : (whole text : List ℕ) → part_faults whole text ≡ [] → (part : Part) × IsPart text part
unfolding part_faults
part_found whole text right = go (cut 46 text).1 refl
  where
    halves : (facilities_faults whole (cut 46 text).0 ≡ []) × (behind_dot whole (cut 46 text).1 ≡ [])
    halves = both_empty (facilities_faults whole (cut 46 text).0) (behind_dot whole (cut 46 text).1) right

    go : (o : Option (List ℕ)) → (cut 46 text).1 ≡ o → (part : Part) × IsPart text part
    go None e = let bad : shape whole ∷ [] ≡ [] = rw e at halves.1 in cc
    go (Some behind) e =
        let fs = facilities_found whole (cut 46 text).0 halves.0 in
        let level = level_found whole behind (rw e at halves.1) in
        let cuts = pieces_more 46 text behind e in
        (record { facilities = fs.0; level = level.0 }, record { front = (cut 46 text).0; behind = behind; facilities = fs.1; level = level.1; whole = cuts.1 })

last_part : (text front : List ℕ) (part : Part) → text ≡ front → IsPart front part → IsSelector text (part ∷ [])
last_part text front part e is = rw e (last is)

more_parts : (text front behind : List ℕ) (part : Part) (parts : List Part) → text ≡ front ++ 59 ∷ behind → IsPart front part → IsSelector behind parts → IsSelector text (part ∷ parts)
more_parts text front behind part parts e is later = rw e (more front is later)

parts_found : (whole : List ℕ) (n : ℕ) (text : List ℕ) → length text < n → flat_map (part_faults whole) (pieces 59 text) ≡ [] → (parts : List Part) × IsSelector text parts
parts_found whole zero text short right = absurd (omega arith)
parts_found whole (suc n) text short right = go (λ behind shorter h. parts_found whole n behind (omega arith) h) (cut 59 text).1 refl
  where
    go : ((behind : List ℕ) → length behind < length text → flat_map (part_faults whole) (pieces 59 behind) ≡ [] → (parts : List Part) × IsSelector behind parts) → (o : Option (List ℕ)) → (cut 59 text).1 ≡ o → (parts : List Part) × IsSelector text parts
    go again None e =
        let cuts = pieces_last 59 text e in
        let part = part_found whole (cut 59 text).0 (both_empty (part_faults whole (cut 59 text).0) [] (rw cuts.0 at right)).0 in
        (part.0 ∷ [], last_part text (cut 59 text).0 part.0 cuts.1 part.1)
    go again (Some behind) e =
        let cuts = pieces_more 59 text behind e in
        let halves = both_empty (part_faults whole (cut 59 text).0) (flat_map (part_faults whole) (pieces 59 behind)) (rw cuts.0 at right) in
        let part = part_found whole (cut 59 text).0 halves.0 in
        let shorter = shorter_behind 59 text behind (sym e) in
        let later = again behind shorter halves.1 in
        (part.0 ∷ later.0, more_parts text (cut 59 text).0 behind part.0 later.0 cuts.1 part.1 later.1)

pub selector_found : (text : List ℕ) → faults text ≡ [] → (parts : List Part) × IsSelector text parts
unfolding faults
selector_found text right = parts_found text (suc (length text)) text (omega arith) right

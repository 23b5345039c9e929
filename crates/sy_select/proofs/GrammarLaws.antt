-- A selector has no fault.
use Rattle.std.proofs.Common.{◌≡◌, ℕ, Bool, true, false, ◌||◌, if◌then◌else◌, ◌==◌, List, [], ◌∷◌, ◌++◌, Some, None, codes, refl, sym, ap, ◌∙◌}
use Rattle.std.specs.Char.{is_ascii_alphanumeric}
use Rattle.std.specs.List.{flat_map}
use Rattle.std.specs.Str.{bytes_eq, str_eq_ignore_ascii_case, str_to_ascii_lowercase}
use Rattle.std.proofs.lemmas.Bool.{ne_eqb, true≢false}
use Rattle.sy_select.specs.Faults.{Flaw, all_alphanumeric, behind_sign, behind_signs, cut, facilities_faults, facility_faults, faults, level_faults, part_faults, pieces}
use Rattle.sy_select.specs.Names.{severity_of}
use Rattle.sy_select.specs.Selectors.{all, AreFacilities, equal, Facilities, IsFacilities, IsLevel, IsPart, IsSelector, last, Level, listed, more, named, none, not_equal, not_named, not_star, one, Part, star}
use Rattle.sy_select.proofs.Cutting.{cut_at, cut_whole, Lacks, pieces_last, pieces_more}
use Rattle.sy_select.proofs.LevelLaws.{or_right, same_text}
use Rattle.sy_select.proofs.NameLaws.{both, facility_alphanumeric, none_alphanumeric, severity_alphanumeric}

-- ---- bytes that names lack

pub lacks_other : (mark : ℕ) (text : List ℕ) → is_ascii_alphanumeric mark ≡ false → all_alphanumeric text ≡ true → Lacks mark text
lacks_other mark [] other h = tt
lacks_other mark (b ∷ bytes) other h =
    let parts = both (is_ascii_alphanumeric b) (all_alphanumeric bytes) h in
    (ne_eqb b mark (λ e. true≢false (sym (rw e at parts.0) ∙ other)), lacks_other mark bytes other parts.1)

pub lacks_append : (mark : ℕ) (a b : List ℕ) → Lacks mark a → Lacks mark b → Lacks mark (a ++ b)
lacks_append mark [] b p q = q
lacks_append mark (x ∷ a) b p q = (p.0, lacks_append mark a b p.1 q)

lacks_in_names : (mark : ℕ) (text fs : List ℕ) → is_ascii_alphanumeric mark ≡ false → (44 == mark) ≡ false → AreFacilities text fs → Lacks mark text
lacks_in_names mark text fs other apart (one name e) = lacks_other mark name other (facility_alphanumeric name _ e)
lacks_in_names mark text fs other apart (more name {rest} {fs = gs} e h) = lacks_append mark name (44 ∷ rest) (lacks_other mark name other (facility_alphanumeric name _ e)) (apart, lacks_in_names mark rest gs other apart h)

pub lacks_in_facilities : (mark : ℕ) (text : List ℕ) (fs : Facilities) → is_ascii_alphanumeric mark ≡ false → (44 == mark) ≡ false → (42 == mark) ≡ false → IsFacilities text fs → Lacks mark text
lacks_in_facilities mark text all other comma apart e = rw e (apart, tt)
lacks_in_facilities mark text (listed fs) other comma apart h = lacks_in_names mark text fs other comma h

lacks_in_level : (text : List ℕ) (level : Level) → IsLevel text level → Lacks 59 text
lacks_in_level text level star = (refl, tt)
lacks_in_level text level (none e) = lacks_other 59 text refl (none_alphanumeric (codes "none") text refl e)
lacks_in_level text level not_star = (refl, (refl, tt))
lacks_in_level text level (named e) = lacks_other 59 text refl (severity_alphanumeric text _ e)
lacks_in_level text level (equal {name} e) = (refl, lacks_other 59 name refl (severity_alphanumeric name _ e))
lacks_in_level text level (not_named {name} e) = (refl, lacks_other 59 name refl (severity_alphanumeric name _ e))
lacks_in_level text level (not_equal {name} e) = (refl, (refl, lacks_other 59 name refl (severity_alphanumeric name _ e)))

pub lacks_in_part : (text : List ℕ) (part : Part) → IsPart text part → Lacks 59 text
lacks_in_part text part p =
    rw p.whole (lacks_append 59 p.front (46 ∷ p.behind) (lacks_in_facilities 59 p.front part.facilities refl refl refl p.facilities) (refl, lacks_in_level p.behind part.level p.level))

-- ---- pieces

pub pieces_whole : (mark : ℕ) (text : List ℕ) → Lacks mark text → pieces mark text ≡ text ∷ []
pieces_whole mark text l =
    let e = cut_whole mark text l in
    let cuts = pieces_last mark text (rw e refl) in
    cuts.0 ∙ ap (λ x. x ∷ []) (sym cuts.1)

pub pieces_at : (mark : ℕ) (text behind : List ℕ) → Lacks mark text → pieces mark (text ++ mark ∷ behind) ≡ text ∷ pieces mark behind
pieces_at mark text behind l =
    let e = cut_at mark text behind l in
    let cuts = pieces_more mark (text ++ mark ∷ behind) behind (rw e refl) in
    rw e at cuts.0

-- ---- no faults

names_right : (whole text fs : List ℕ) → AreFacilities text fs → flat_map (facility_faults whole) (pieces 44 text) ≡ []
names_right whole text fs (one name e) =
    rw (pieces_whole 44 name (lacks_other 44 name refl (facility_alphanumeric name _ e)), e) refl
names_right whole text fs (more name {rest} {fs = gs} e h) =
    rw (pieces_at 44 name rest (lacks_other 44 name refl (facility_alphanumeric name _ e)), e) (names_right whole rest gs h)

either_way : (b : Bool) (xs : List Flaw) → xs ≡ [] → (if b then [] else xs) ≡ []
either_way true xs e = refl
either_way false xs e = e

facilities_right : (whole text : List ℕ) (fs : Facilities) → IsFacilities text fs → facilities_faults whole text ≡ []
unfolding facilities_faults
facilities_right whole text all e = rw e refl
facilities_right whole text (listed fs) h = either_way (bytes_eq text (codes "*")) (flat_map (facility_faults whole) (pieces 44 text)) (names_right whole text fs h)

-- `none` is no severity
never : (name : List ℕ) (s : ℕ) → severity_of name ≡ Some s → str_eq_ignore_ascii_case (codes "none") name ≡ true → ⊥
unfolding severity_of
never name s e same =
    let lower : codes "none" ≡ str_to_ascii_lowercase name = same_text (codes "none") (str_to_ascii_lowercase name) same in
    let none : None ≡ Some s = rw (sym lower) at e in
    cc

-- a severity's name is not `none`
pub severity_is_not_none : (name : List ℕ) (s : ℕ) → severity_of name ≡ Some s → str_eq_ignore_ascii_case (codes "none") name ≡ false
severity_is_not_none name s e = go (str_eq_ignore_ascii_case (codes "none") name) refl
  where
    go : (b : Bool) → str_eq_ignore_ascii_case (codes "none") name ≡ b → b ≡ false
    go false same = refl
    go true same = absurd (never name s e same)

pub behind_other_sign : (sign : ℕ) (text : List ℕ) → Lacks sign text → behind_sign sign text ≡ text
behind_other_sign sign [] l = refl
behind_other_sign sign (b ∷ bytes) l = rw l.0 refl

pub name_has_no_sign : (name : List ℕ) (s : ℕ) → severity_of name ≡ Some s → (behind_sign 33 name ≡ name) × (behind_sign 61 name ≡ name)
name_has_no_sign name s e =
    let h = severity_alphanumeric name s e in
    (behind_other_sign 33 name (lacks_other 33 name refl h), behind_other_sign 61 name (lacks_other 61 name refl h))

-- a level with a severity's name after its signs
named_right : (whole text name : List ℕ) (s : ℕ) → behind_signs text ≡ name → severity_of name ≡ Some s → level_faults whole text ≡ []
unfolding level_faults
named_right whole text name s signs e =
    either_way (bytes_eq text (codes "*") || bytes_eq text (codes "!*") || str_eq_ignore_ascii_case (codes "none") text) _ (rw (signs, severity_is_not_none name s e, e) refl)

level_right : (whole text : List ℕ) (level : Level) → IsLevel text level → level_faults whole text ≡ []
unfolding level_faults
level_right whole text level star = refl
level_right whole text level (none e) = rw (e, or_right (bytes_eq text (codes "*") || bytes_eq text (codes "!*"))) refl
level_right whole text level not_star = refl
level_right whole text level (named {name} {s} e) = let p = name_has_no_sign name s e in named_right whole name name s (rw (p.0, p.1) refl) e
level_right whole text level (equal {name} {s} e) = named_right whole (61 ∷ name) name s refl e
level_right whole text level (not_named {name} {s} e) = named_right whole (33 ∷ name) name s (name_has_no_sign name s e).1 e
level_right whole text level (not_equal {name} {s} e) = named_right whole (33 ∷ 61 ∷ name) name s refl e

pub part_cut : (text : List ℕ) (part : Part) (p : IsPart text part) → cut 46 text ≡ (p.front, Some p.behind)
part_cut text part p = rw p.whole (cut_at 46 p.front p.behind (lacks_in_facilities 46 p.front part.facilities refl refl refl p.facilities))

part_right : (whole text : List ℕ) (part : Part) → IsPart text part → part_faults whole text ≡ []
unfolding part_faults
part_right whole text part p =
    let e = part_cut text part p in
    rw (e, facilities_right whole p.front part.facilities p.facilities, level_right whole p.behind part.level p.level) refl

pub selector_right : (whole text : List ℕ) (parts : List Part) → IsSelector text parts → flat_map (part_faults whole) (pieces 59 text) ≡ []
selector_right whole text parts (last {part} p) = rw (pieces_whole 59 text (lacks_in_part text part p), part_right whole text part p) refl
selector_right whole text parts (more front {rest} {part} {parts = others} p h) = rw (pieces_at 59 front rest (lacks_in_part front part p), part_right whole front part p) (selector_right whole rest others h)

pub no_faults : (text : List ℕ) (parts : List Part) → IsSelector text parts → faults text ≡ []
unfolding faults
no_faults text parts h = selector_right text text parts h

pub refused_is_none : (text : List ℕ) (fault : Flaw) (later : List Flaw) → faults text ≡ fault ∷ later → (parts : List Part) → IsSelector text parts → ⊥
refused_is_none text fault later e parts h = let none = no_faults text parts h in cc

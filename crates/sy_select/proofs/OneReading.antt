-- A text has at most one list of parts.
use Rattle.std.proofs.Common.{◌≡◌, ℕ, Bool, true, false, ◌||◌, if◌then◌else◌, ◌==◌, List, [], ◌∷◌, ◌++◌, Option, Some, None, codes, refl, sym, ap, ◌∙◌, append_assoc}
use Rattle.std.specs.Str.{bytes_eq, str_eq_ignore_ascii_case}
use Rattle.sy_select.specs.Faults.{behind_sign, pieces}
use Rattle.sy_select.specs.Names.{facility_of, severity_of}
use Rattle.sy_select.specs.Selectors.{add, all, AreFacilities, equal, every, Facilities, IsFacilities, IsLevel, IsPart, IsSelector, last, Level, listed, more, named, none, not_equal, not_named, not_star, one, only, Part, star, take_away, up_to, pairs_of}
use Rattle.sy_select.proofs.Cutting.{Lacks}
use Rattle.sy_select.proofs.GrammarLaws.{lacks_in_part, lacks_other, name_has_no_sign, part_cut, pieces_at, pieces_whole, severity_is_not_none}
use Rattle.sy_select.proofs.NameLaws.{facility_alphanumeric, none_alphanumeric, severity_alphanumeric}
use Rattle.sy_select.proofs.SelectorLaws.{one_more}

pub same_some : {A : Type 0} (a b : A) → Some a ≡ Some b → a ≡ b
same_some a b e = cc

-- ---- facilities

-- the names, one by one
Names : List (List ℕ) → List ℕ → Type 0
Names [] [] = Unit {0}
Names (x ∷ xs) (f ∷ fs) = (facility_of x ≡ Some f) × Names xs fs
Names xs fs = ⊥

names_of : (text fs : List ℕ) → AreFacilities text fs → Names (pieces 44 text) fs
unfolding Names
names_of text fs (one name {f} e) = rw (pieces_whole 44 name (lacks_other 44 name refl (facility_alphanumeric name f e))) (e, tt)
names_of text fs (more name {rest} {fs = gs} {f} e h) = rw (pieces_at 44 name rest (lacks_other 44 name refl (facility_alphanumeric name f e))) (e, names_of rest gs h)

one_names : (xs : List (List ℕ)) (a b : List ℕ) → Names xs a → Names xs b → a ≡ b
unfolding Names
one_names [] [] [] p q = refl
one_names [] [] (b ∷ bs) p q = absurd q
one_names [] (a ∷ az) bs p q = absurd p
one_names (x ∷ xs) [] bs p q = absurd p
one_names (x ∷ xs) (a ∷ az) [] p q = absurd q
one_names (x ∷ xs) (a ∷ az) (b ∷ bs) p q =
    let head : a ≡ b = same_some a b (sym p.0 ∙ q.0) in
    let tail : az ≡ bs = one_names xs az bs p.1 q.1 in
    rw (head, tail) refl

star_is_no_name : (fs : List ℕ) → Names (pieces 44 (codes "*")) fs → ⊥
unfolding Names facility_of
star_is_no_name [] h = h
star_is_no_name (f ∷ fs) h = let never : None ≡ Some f = h.0 in cc

star_or_names : (text fs : List ℕ) → text ≡ codes "*" → AreFacilities text fs → ⊥
star_or_names text fs e h = star_is_no_name fs (rw e at (names_of text fs h))

one_facilities : (text : List ℕ) (a b : Facilities) → IsFacilities text a → IsFacilities text b → a ≡ b
one_facilities text all all p q = refl
one_facilities text all (listed bs) p q = absurd (star_or_names text bs p q)
one_facilities text (listed az) all p q = absurd (star_or_names text az q p)
one_facilities text (listed az) (listed bs) p q = ap listed (one_names (pieces 44 text) az bs (names_of text az p) (names_of text bs q))

-- ---- levels

starts_with : ℕ → List ℕ → Bool
starts_with sign [] = false
starts_with sign (b ∷ bytes) = b == sign

level_with : Bool → Bool → Option ℕ → Option Level
level_with takes alone None = None
level_with false false (Some s) = Some (add (up_to s))
level_with false true (Some s) = Some (add (only s))
level_with true false (Some s) = Some (take_away (up_to s))
level_with true true (Some s) = Some (take_away (only s))

-- the level of a text, sign by sign
level_of : List ℕ → Option Level
level_of text =
    if bytes_eq text (codes "*") then Some (add every)
    else if bytes_eq text (codes "!*") || str_eq_ignore_ascii_case (codes "none") text then Some (take_away every)
    else level_with (starts_with 33 text) (starts_with 61 (behind_sign 33 text)) (severity_of (behind_sign 61 (behind_sign 33 text)))

starts_other : (sign : ℕ) (text : List ℕ) → Lacks sign text → starts_with sign text ≡ false
unfolding starts_with
starts_other sign [] l = refl
starts_other sign (b ∷ bytes) l = l.0

word_is_no_star : (text : List ℕ) → Lacks 42 text → bytes_eq text (codes "*") ≡ false
word_is_no_star [] l = refl
word_is_no_star (b ∷ bytes) l = rw l.0 refl

word_is_no_not_star : (text : List ℕ) → Lacks 33 text → bytes_eq text (codes "!*") ≡ false
word_is_no_not_star [] l = refl
word_is_no_not_star (b ∷ bytes) l = rw l.0 refl

has_level : (text : List ℕ) (level : Level) → IsLevel text level → level_of text ≡ Some level
unfolding level_of level_with starts_with
has_level text level star = refl
has_level text level (none e) =
    let h = none_alphanumeric (codes "none") text refl e in
    rw (word_is_no_star text (lacks_other 42 text refl h), word_is_no_not_star text (lacks_other 33 text refl h), e) refl
has_level text level not_star = refl
has_level text level (named {name} {s} e) =
    let h = severity_alphanumeric name s e in
    let p = name_has_no_sign name s e in
    rw (word_is_no_star name (lacks_other 42 name refl h), word_is_no_not_star name (lacks_other 33 name refl h), severity_is_not_none name s e, p.0, starts_other 33 name (lacks_other 33 name refl h), starts_other 61 name (lacks_other 61 name refl h), p.1, e) refl
has_level text level (equal {name} {s} e) = rw e refl
has_level text level (not_named {name} {s} e) =
    let h = severity_alphanumeric name s e in
    let p = name_has_no_sign name s e in
    rw (word_is_no_star name (lacks_other 42 name refl h), starts_other 61 name (lacks_other 61 name refl h), p.1, e) refl
has_level text level (not_equal {name} {s} e) = rw e refl

one_level : (text : List ℕ) (a b : Level) → IsLevel text a → IsLevel text b → a ≡ b
one_level text a b p q = same_some a b (sym (has_level text a p) ∙ has_level text b q)

-- ---- parts

same_part : (f g : Facilities) (l m : Level) → f ≡ g → l ≡ m → (let x : Part = record { facilities = f; level = l } in x) ≡ record { facilities = g; level = m }
same_part f g l m p q = rw (p, q) refl

one_part : (text : List ℕ) (a b : Part) → IsPart text a → IsPart text b → a ≡ b
one_part text a b p q =
    let cuts : (p.front, Some p.behind) ≡ (q.front, Some q.behind) = sym (part_cut text a p) ∙ part_cut text b q in
    let fronts : p.front ≡ q.front = ap (λ c. c.0) cuts in
    let behinds : p.behind ≡ q.behind = same_some p.behind q.behind (ap (λ c. c.1) cuts) in
    let facilities : a.facilities ≡ b.facilities = one_facilities q.front a.facilities b.facilities (rw fronts at p.facilities) q.facilities in
    let levels : a.level ≡ b.level = one_level q.behind a.level b.level (rw behinds at p.level) q.level in
    same_part a.facilities b.facilities a.level b.level facilities levels

Parts : List (List ℕ) → List Part → Type 0
Parts [] [] = Unit {0}
Parts (x ∷ xs) (p ∷ ps) = IsPart x p × Parts xs ps
Parts xs ps = ⊥

parts_of : (text : List ℕ) (parts : List Part) → IsSelector text parts → Parts (pieces 59 text) parts
unfolding Parts
parts_of text parts (last {part} p) = rw (pieces_whole 59 text (lacks_in_part text part p)) (p, tt)
parts_of text parts (more front {rest} {part} {parts = others} p h) = rw (pieces_at 59 front rest (lacks_in_part front part p)) (p, parts_of rest others h)

one_parts : (xs : List (List ℕ)) (a b : List Part) → Parts xs a → Parts xs b → a ≡ b
unfolding Parts
one_parts [] [] [] p q = refl
one_parts [] [] (b ∷ bs) p q = absurd q
one_parts [] (a ∷ az) bs p q = absurd p
one_parts (x ∷ xs) [] bs p q = absurd p
one_parts (x ∷ xs) (a ∷ az) [] p q = absurd q
one_parts (x ∷ xs) (a ∷ az) (b ∷ bs) p q =
    let head : a ≡ b = one_part x a b p.0 q.0 in
    let tail : az ≡ bs = one_parts xs az bs p.1 q.1 in
    rw (head, tail) refl

pub one_list : (text : List ℕ) (a b : List Part) → IsSelector text a → IsSelector text b → a ≡ b
one_list text a b p q = one_parts (pieces 59 text) a b (parts_of text a p) (parts_of text b q)

-- ---- one part more

joined : (text behind : List ℕ) (parts others : List Part) → IsSelector text parts → IsSelector behind others → IsSelector (text ++ 59 ∷ behind) (parts ++ others)
joined text behind parts others (last p) h = more text p h
joined text behind parts others (more front {rest} {parts = ps} p g) h = rw append_assoc (more front p (joined rest behind ps others g h))

abbrev star_none : Part
star_none = record { facilities = all; level = take_away every }

abbrev star_star : Part
star_star = record { facilities = all; level = add every }

pub none_last : (text : List ℕ) (parts : List Part) → IsSelector text parts → (ps : List Part) × IsSelector (text ++ codes ";*.none") ps × ((f s : ℕ) → pairs_of ps f s ≡ false)
none_last text parts h =
    (parts ++ star_none ∷ [], joined text (codes "*.none") parts (star_none ∷ []) h (last (record { front = codes "*"; behind = codes "none"; facilities = refl; level = none refl; whole = refl })), λ f s. rw (one_more parts star_none) refl)

pub all_last : (text : List ℕ) (parts : List Part) → IsSelector text parts → (ps : List Part) × IsSelector (text ++ codes ";*.*") ps × ((f s : ℕ) → pairs_of ps f s ≡ true)
all_last text parts h =
    (parts ++ star_star ∷ [], joined text (codes "*.*") parts (star_star ∷ []) h (last (record { front = codes "*"; behind = codes "*"; facilities = refl; level = star; whole = refl })), λ f s. rw (one_more parts star_star) refl)

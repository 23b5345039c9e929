-- Names, each once.
use Rattle.std.proofs.Common.{◌≡◌, ℕ, Bool, true, false, ◌||◌, List, [], ◌∷◌, ◌++◌, refl, sym, ap, ◌∙◌, inl, inr}
use Rattle.std.specs.Prelude.{if◌then◌else◌}
use Rattle.std.specs.Str.{bytes_eq}
use Rattle.std.proofs.lemmas.Bool.{cases_Bool}
use Rattle.std.proofs.lemmas.Slice.Eq.{bytes_eq-Decides}
use Rattle.std.proofs.lemmas.List.Folds.{list_any-append}
use Rattle.sy_site.specs.texts.Files.{is_among, with_names}
use Rattle.sy_site.proofs.lemmas.texts.Noted.{one_behind}

or_false : (a : Bool) → (a || false) ≡ a
or_false true = refl
or_false false = refl

or_assoc : (a b c : Bool) → ((a || b) || c) ≡ (a || (b || c))
or_assoc true b c = refl
or_assoc false b c = refl

same_test : (x file : List ℕ) (names : List (List ℕ)) → is_among file names ≡ true → is_among x names ≡ (is_among x names || bytes_eq file x)
same_test x file names there =
    elim (cases_Bool (bytes_eq file x)) [
      | inl same ↦
          let equal : file ≡ x = (bytes_eq-Decides file x).0 same in
          let found : is_among x names ≡ true = rw equal at there in
          rw (same, found) refl
      | inr apart ↦ rw apart (sym (or_false (is_among x names)))
    ]

one_more : (x file : List ℕ) (names : List (List ℕ)) → is_among x (if is_among file names then names else names ++ file ∷ []) ≡ (is_among x names || bytes_eq file x)
one_more x file names =
    elim (cases_Bool (is_among file names)) [
      | inl there ↦ rw there (same_test x file names there)
      | inr new ↦
          rw new (list_any-append (λ o. bytes_eq o x) names (file ∷ []) ∙ ap (λ b. is_among x names || b) (or_false (bytes_eq file x)))
    ]

pub among_all : (x : List ℕ) (names files : List (List ℕ)) → is_among x (with_names names files) ≡ (is_among x names || is_among x files)
among_all x names [] = sym (or_false (is_among x names))
among_all x names (file ∷ files) =
    among_all x (if is_among file names then names else names ++ file ∷ []) files
    ∙ ap (λ b. b || is_among x files) (one_more x file names)
    ∙ or_assoc (is_among x names) (bytes_eq file x) (is_among x files)

abbrev pub Once : List (List ℕ) → Type 0
Once names = (before later : List (List ℕ)) (name : List ℕ) → names ≡ before ++ name ∷ later → is_among name before ≡ false

pub nothing_once : Once []
nothing_once [] later name e = cc
nothing_once (b ∷ before) later name e = cc

once_more : (names : List (List ℕ)) (file : List ℕ) → Once names → is_among file names ≡ false → Once (names ++ file ∷ [])
once_more names file once new before later name e =
    elim (one_behind names file before later name e) [
      | inl h ↦ rw (sym h.0, sym h.1) new
      | inr h ↦ once before h.0 name h.1
    ]

pub stays_once : (names files : List (List ℕ)) → Once names → Once (with_names names files)
stays_once names [] once = once
stays_once names (file ∷ files) once =
    elim (cases_Bool (is_among file names)) [
      | inl there ↦ rw there (stays_once names files once)
      | inr new ↦ rw new (stays_once (names ++ file ∷ []) files (once_more names file once new))
    ]

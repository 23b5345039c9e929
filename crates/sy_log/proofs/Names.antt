-- Names are gathered, each at its place.
use Rattle.std.proofs.Common.{◌≡◌, ◌<◌, ◌+◌, ℕ, List, [], ◌∷◌, ◌++◌, map, take, length, get_or, refl, sym, ap, ◌∙◌, ap₂}
use Rattle.std.specs.Prelude.{Option, Some, None, Bool, true, option_map, slice_get}
use Rattle.std.specs.List.{position}
use Rattle.std.specs.Str.{bytes_eq}
use Rattle.std.proofs.lemmas.List.{map-append, take_more}
use Rattle.std.proofs.lemmas.List.Quantifiers.{position-Some}
use Rattle.std.proofs.lemmas.Option.{slice_get-get_or, slice_get-map}
use Rattle.std.proofs.lemmas.Slice.Eq.{bytes_eq-Decides}
use Rattle.sy_log.specs.internal.Names.{KeepsNames}

same_name : (a b : List ℕ) → bytes_eq a b ≡ true → a ≡ b
same_name a b e = (bytes_eq-Decides a b).0 e

one_value : {A : Type 0} {x y : A} → Some x ≡ Some y → x ≡ y
one_value e = cc

-- what was found is at its place
pub found_there : {A : Type 0} (f : A → List ℕ) (names : List A) (name : List ℕ) (place : ℕ)
    → position (λ n. bytes_eq (f n) name) names ≡ Some place → slice_get (map f names) place ≡ Some name
found_there f [] name place is = cc
found_there f (first ∷ names) name place is =
    let all = first ∷ names in
    let at = position-Some (λ n. bytes_eq (f n) name) all place first is in
    slice_get-map f all place ∙ ap (option_map f) (slice_get-get_or all place first at.0) ∙ ap Some (same_name (f (get_or all place first)) name at.1)

-- a name that becomes the last is at the place after the others
pub pushed_there : {A : Type 0} (f : A → List ℕ) (names : List A) (name : A) (place : ℕ) → place ≡ length names
    → slice_get (map f (names ++ name ∷ [])) place ≡ Some (f name)
pushed_there {A = A} f names name place is = rw is (go names)
  where
    go : (before : List A) → slice_get (map f (before ++ name ∷ [])) (length before) ≡ Some (f name)
    go [] = refl
    go (first ∷ before) = go before

-- and the others stay
pub pushed_kept : {A : Type 0} (f : A → List ℕ) (names : List A) (name : A) → KeepsNames (map f names) (map f (names ++ name ∷ []))
pushed_kept f [] name place other is = cc
pushed_kept f (first ∷ names) name ℕ.zero other is = is
pushed_kept f (first ∷ names) name (ℕ.suc place) other is = pushed_kept f names name place other is

file_kept : (old new : List (List ℕ)) → KeepsNames old new → (file : Option ℕ) (name : Option (List ℕ))
    → option_map (slice_get old) file ≡ option_map Some name → option_map (slice_get new) file ≡ option_map Some name
file_kept old new kept None None is = refl
file_kept old new kept None (Some name) is = cc
file_kept old new kept (Some place) None is = cc
file_kept old new kept (Some place) (Some name) is = ap Some (kept place name (one_value is))

same_head : {A : Type 0} {x y : A} {xs ys : List A} → x ∷ xs ≡ y ∷ ys → x ≡ y
same_head e = cc

same_tail : {A : Type 0} {x y : A} {xs ys : List A} → x ∷ xs ≡ y ∷ ys → xs ≡ ys
same_tail e = cc

files_kept : {A : Type 0} (g : A → Option (List ℕ)) (old new : List (List ℕ)) → KeepsNames old new → (files : List (Option ℕ)) (inputs : List A)
    → map (λ file. option_map (slice_get old) file) files ≡ map (λ input. option_map Some (g input)) inputs
    → map (λ file. option_map (slice_get new) file) files ≡ map (λ input. option_map Some (g input)) inputs
files_kept g old new kept [] [] is = refl
files_kept g old new kept [] (input ∷ inputs) is = cc
files_kept g old new kept (file ∷ files) [] is = cc
files_kept g old new kept (file ∷ files) (input ∷ inputs) is =
    ap₂ (λ x xs. x ∷ xs) (file_kept old new kept file (g input) (same_head is)) (files_kept g old new kept files inputs (same_tail is))

-- the files of one input more
pub one_more : (A : Type 0) (g : A → Option (List ℕ)) (inputs : List A) (index : ℕ) (input : A) (old new : List (List ℕ)) (files : List (Option ℕ))
    (file : Option ℕ) → index < length inputs → input ≡ get_or inputs index input → KeepsNames old new
    → map (λ it. option_map (slice_get old) it) files ≡ map (λ it. option_map Some (g it)) (take index inputs)
    → option_map (slice_get new) file ≡ option_map Some (g input)
    → map (λ it. option_map (slice_get new) it) (files ++ file ∷ []) ≡ map (λ it. option_map Some (g it)) (take (index + 1) inputs)
one_more A g inputs index input old new files file within is kept so_far there =
    let of : A → Option (Option (List ℕ)) = λ it. option_map Some (g it) in
    let looked : Option ℕ → Option (Option (List ℕ)) = λ it. option_map (slice_get new) it in
    let before : map looked files ≡ map of (take index inputs) = files_kept g old new kept files (take index inputs) so_far in
    map-append looked files (file ∷ [])
    ∙ ap₂ (λ xs x. xs ++ x ∷ []) before there
    ∙ sym (map-append of (take index inputs) (input ∷ []))
    ∙ ap (map of) (ap (λ x. take index inputs ++ x ∷ []) is ∙ sym (take_more inputs index input within))

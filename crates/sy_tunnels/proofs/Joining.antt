-- Lines one after the other.
use Rattle.std.proofs.Common.{◌≡◌, ℕ, ◌+◌, ◌<◌, List, [], ◌∷◌, ◌++◌, get_or, length, map, take, refl, sym, ap, ◌∙◌}
use Rattle.std.specs.List.{join_with_byte}
use Rattle.std.proofs.lemmas.List.{append_assoc, map_push, take_more}

-- one line more behind some
join_more : (c : ℕ) (x : List ℕ) (xs : List (List ℕ)) (y : List ℕ) → join_with_byte c (x ∷ xs ++ y ∷ []) ≡ join_with_byte c (x ∷ xs) ++ c ∷ y
join_more c x [] y = refl
join_more c x (z ∷ xs) y = ap (λ rest. x ++ c ∷ rest) (join_more c z xs y) ∙ sym (append_assoc x (c ∷ join_with_byte c (z ∷ xs)) (c ∷ y))

-- the first so many of a list, and the next, seen through a function
pub map_take_next : {A B : Type 0} (f : A → B) (xs : List A) (k : ℕ) (x : A) → k < length xs → get_or xs k x ≡ x
    → map f (take (k + 1) xs) ≡ map f (take k xs) ++ f x ∷ []
map_take_next f xs k x within is =
    ap (map f) (take_more xs k x within ∙ ap (λ y. take k xs ++ y ∷ []) is) ∙ map_push f (take k xs) x

-- a line that is appended behind a separating byte
pub joined_next : {A : Type 0} (f : List ℕ → List ℕ) (g : A → List ℕ) (c : ℕ) (first : List ℕ) (later : List A) (k : ℕ) (x : A) (old apart new : List ℕ)
    → k < length later → get_or later k x ≡ x → old ≡ join_with_byte c (first ∷ map f (map g (take k later))) → apart ≡ old ++ c ∷ []
    → new ≡ apart ++ f (g x) → new ≡ join_with_byte c (first ∷ map f (map g (take (k + 1) later)))
joined_next f g c first later k x old apart new within is so parted more =
    more ∙ ap (λ t. t ++ f (g x)) parted ∙ append_assoc old (c ∷ []) (f (g x)) ∙ ap (λ t. t ++ c ∷ f (g x)) so
    ∙ sym (join_more c first (map f (map g (take k later))) (f (g x)))
    ∙ ap (λ lines. join_with_byte c (first ∷ lines))
    (sym (map_push f (map g (take k later)) (g x)) ∙ ap (map f) (sym (map_take_next g later k x within is)))

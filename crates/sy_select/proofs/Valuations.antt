-- Valuations of several expressions, joined and cut. Crates above use it for expressions that share one valuation.
use Rattle.std.proofs.Common.{◌≡◌, ◌≤◌, suc, Bool, ◌||◌, ◌&&◌, not, List, [], ◌∷◌, ◌++◌, Option, length, drop, take, refl, sym, ap, ◌∙◌, arith}
use Rattle.std.proofs.lemmas.List.{drop_at, drop-append-le, length-append, length-drop, length-map, take-append-drop}
use Rattle.sy_select.specs.Truth.{Formula, Valuation, behind, occurrences, truth, valuation, Admits, Can, Must}

module _ {T : Type 0} where
  -- an expression looks at no values after those of its test occurrences
  pub truth_front : (x : Formula T) (v w : Valuation) → length (occurrences x) ≤ length v → truth x (v ++ w) ≡ truth x v
  truth_front (Formula.Test t) [] w long = absurd (omega arith)
  truth_front (Formula.Test t) (b ∷ v) w long = refl
  truth_front (Formula.Not x) v w long = ap not (truth_front x v w long)
  truth_front (Formula.Or x y) v w long =
      let l = length-append (occurrences x) (occurrences y) in
      let d = length-drop (length (occurrences x)) v in
      let rest : behind (occurrences x) (v ++ w) ≡ behind (occurrences x) v ++ w = drop-append-le (length (occurrences x)) v w (omega arith) in
      ap (λ r. r || truth y (behind (occurrences x) (v ++ w))) (truth_front x v w (omega arith))
      ∙ ap (λ r. truth x v || r) (ap (truth y) rest ∙ truth_front y (behind (occurrences x) v) w (omega arith))
  truth_front (Formula.And x y) v w long =
      let l = length-append (occurrences x) (occurrences y) in
      let d = length-drop (length (occurrences x)) v in
      let rest : behind (occurrences x) (v ++ w) ≡ behind (occurrences x) v ++ w = drop-append-le (length (occurrences x)) v w (omega arith) in
      ap (λ r. r && truth y (behind (occurrences x) (v ++ w))) (truth_front x v w (omega arith))
      ∙ ap (λ r. truth x v && r) (ap (truth y) rest ∙ truth_front y (behind (occurrences x) v) w (omega arith))
  truth_front Formula.Never v w long = refl
  truth_front Formula.Always v w long = refl

  -- the truth under what each test says, where other values follow
  pub truth_of_tests : (says : T → Bool) (x : Formula T) (w : Valuation) → truth x (valuation says (occurrences x) ++ w) ≡ truth x (valuation says (occurrences x))
  truth_of_tests says x w = let l = length-map (occurrences x) says in truth_front x (valuation says (occurrences x)) w (omega arith)

module _ {T : Type 0} (k : T → Option Bool) where
  pub admits_length : (ts : List T) (v : Valuation) → Admits k ts v → length v ≡ length ts
  admits_length [] [] h = refl
  admits_length [] (b ∷ v) h = absurd h
  admits_length (t ∷ ts) [] h = absurd h
  admits_length (t ∷ ts) (b ∷ v) h = ap suc (admits_length ts v h.1)

  pub admits_append : (ts us : List T) (v w : Valuation) → Admits k ts v → Admits k us w → Admits k (ts ++ us) (v ++ w)
  admits_append [] us [] w h g = g
  admits_append [] us (b ∷ v) w h g = absurd h
  admits_append (t ∷ ts) us [] w h g = absurd h
  admits_append (t ∷ ts) us (b ∷ v) w h g = (h.0, admits_append ts us v w h.1 g)

  pub admits_front : (ts us : List T) (v : Valuation) → Admits k (ts ++ us) v → Admits k ts (take (length ts) v)
  admits_front [] us v h = tt
  admits_front (t ∷ ts) us [] h = absurd h
  admits_front (t ∷ ts) us (b ∷ v) h = (h.0, admits_front ts us v h.1)

  pub admits_behind : (ts us : List T) (v : Valuation) → Admits k (ts ++ us) v → Admits k us (behind ts v)
  admits_behind [] us v h = h
  admits_behind (t ∷ ts) us [] h = absurd h
  admits_behind (t ∷ ts) us (b ∷ v) h = admits_behind ts us v h.1

  pub behind_append : (ts : List T) (v w : Valuation) → Admits k ts v → behind ts (v ++ w) ≡ w
  behind_append ts v w h = drop_at v w (length ts) (admits_length ts v h)

  -- what all, or some, admitted valuations give an expression, where other values follow
  pub must_front : (x : Formula T) (b : Bool) (us : List T) (v : Valuation) → Must k x b → Admits k (occurrences x ++ us) v → truth x v ≡ b
  must_front x b us v must h =
      let n = length (occurrences x) in
      let front = admits_front (occurrences x) us v h in
      let l = admits_length (occurrences x) (take n v) front in
      ap (truth x) (sym (take-append-drop n v)) ∙ truth_front x (take n v) (drop n v) (omega arith) ∙ must (take n v) front

  pub can_front : (x : Formula T) (b : Bool) (can : Can k x b) (w : Valuation) → truth x (can.values ++ w) ≡ b
  can_front x b can w =
      let l = admits_length (occurrences x) can.values can.admitted in
      truth_front x can.values w (omega arith) ∙ can.is

-- A guard's table, filled pair by pair.
use Rattle.std.proofs.Common.{◌≡◌, ℕ, ◌<◌, ◌≤◌, ◌==◌, ◌&&◌, ◌||◌, Bool, true, false, if◌then◌else◌, nat_lt, List, [], ◌∷◌, ◌++◌, length, refl, sym, ap, ◌∙◌, arith, get_or, set, replicate, inl, inr}
use Rattle.std.proofs.lemmas.Bool.{and_from, and_left, and_parts, cases_eq, eq-eqb, eqb-true, false_from_ne_true, ltb-false, ne_eqb}
use Rattle.std.proofs.lemmas.List.{get_or-replicate, get_or-set_other, get_or-set_same, length-replicate, length-set}
use Rattle.std.proofs.lemmas.List.Recursion.{or_push}
use Rattle.sy_wire.specs.declared.class.Class.{Class}
use Rattle.sy_board.specs.relay.Totals.{Pairs, guards}
use Rattle.sy_board.specs.internal.Guarding.{IsTable, marked, place}

abbrev pub is_pair : ℕ → Class → ℕ × Class → Bool
is_pair input class pair = pair.0 == input && (pair.1.facility == class.facility && pair.1.severity == class.severity)

-- a place is one pair's alone
pair_at : (i j : ℕ) (c d : Class) → place j d ≡ place i c → is_pair i c (j, d) ≡ true
pair_at i j c d e =
    let severity : d.severity < 8 = d.severity_in_range in
    let of_c : c.severity < 8 = c.severity_in_range in
    let facility : d.facility < 24 = d.facility_in_range in
    let facility_c : c.facility < 24 = c.facility_in_range in
    and_from (j == i) _ (eq-eqb j i (omega arith)) (and_from (d.facility == c.facility) _ (eq-eqb d.facility c.facility (omega arith)) (eq-eqb d.severity c.severity (omega arith)))

place_of : (i j : ℕ) (c d : Class) → is_pair i c (j, d) ≡ true → place j d ≡ place i c
place_of i j c d e =
    let parts = and_parts (j == i) _ e in
    let class_parts = and_parts (d.facility == c.facility) _ parts.1 in
    let input = eqb-true j i parts.0 in
    let facility = eqb-true d.facility c.facility class_parts.0 in
    let severity = eqb-true d.severity c.severity class_parts.1 in
    omega arith

no_pair : (i j : ℕ) (c d : Class) → (place j d ≡ place i c → ⊥) → is_pair i c (j, d) ≡ false
no_pair i j c d n = false_from_ne_true (is_pair i c (j, d)) (λ e. n (place_of i j c d e))

or_false : (b : Bool) → (b || false) ≡ b
or_false true = refl
or_false false = refl

or_true : (b : Bool) → (b || true) ≡ true
or_true true = refl
or_true false = refl

guards_more : (pairs : Pairs) (j i : ℕ) (d c : Class) → guards (pairs ++ (j, d) ∷ []) i c ≡ (guards pairs i c || is_pair i c (j, d))
guards_more pairs j i d c = or_push (λ xs. guards xs i c) (is_pair i c) refl (λ _ _. refl) pairs (j, d)

within : (i : ℕ) (c : Class) → i < 64 → place i c < 12288
within i c l =
    let severity : c.severity < 8 = c.severity_in_range in
    let facility : c.facility < 24 = c.facility_in_range in
    omega arith

marked_pair : (pairs : Pairs) (table : List Bool) (j : ℕ) (d : Class) → IsTable pairs table → (below : Bool) → nat_lt j 64 ≡ below
    → IsTable (pairs ++ (j, d) ∷ []) (if below then set table (place j d) true else table)
marked_pair pairs table j d is true below = record {
  size = length-set table (place j d) true ∙ is.size;
  reports = λ i c l. elim (cases_eq (place j d) (place i c)) [
    | inl same ↦ (let there : place j d < length table = rw is.size (rw same (within i c l)) in
        ap (λ k. get_or (set table (place j d) true) k false) (sym same)
        ∙ get_or-set_same table (place j d) true false there
        ∙ sym (guards_more pairs j i d c ∙ ap (λ b. guards pairs i c || b) (pair_at i j c d same) ∙ or_true (guards pairs i c)))
    | inr apart ↦ get_or-set_other table (place j d) (place i c) true false (λ e. apart (sym e))
        ∙ is.reports i c l
        ∙ sym (guards_more pairs j i d c ∙ ap (λ b. guards pairs i c || b) (no_pair i j c d apart) ∙ or_false (guards pairs i c))
  ];
}
marked_pair pairs table j d is false below = record {
  size = is.size;
  reports = λ i c l.
      let above : 64 ≤ j = ltb-false j 64 below in
      let other : is_pair i c (j, d) ≡ false = and_left (j == i) _ (ne_eqb j i (omega arith)) in
      is.reports i c l ∙ sym (guards_more pairs j i d c ∙ ap (λ b. guards pairs i c || b) other ∙ or_false (guards pairs i c));
}

-- one pair more
pub is_marked : (pairs : Pairs) (table : List Bool) (j : ℕ) (d : Class) → IsTable pairs table → IsTable (pairs ++ (j, d) ∷ []) (marked table j d)
is_marked pairs table j d is = marked_pair pairs table j d is (nat_lt j 64) refl

-- no pair yet
pub none_marked : IsTable [] (replicate 12288 false)
none_marked = record {
  size = length-replicate 12288 false;
  reports = λ i c l. get_or-replicate 12288 (place i c) false false (within i c l);
}

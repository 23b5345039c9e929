-- The runs of one action that stand next for a worker, found one after the other.
use Rattle.std.proofs.Common.{◌≡◌, ℕ, ◌-◌, ◌<◌, List, [], ◌∷◌, ◌++◌, drop, length, map, take, refl, sym, subst, ap, ◌∙◌, arith, append_assoc, inl, inr, Some}
use Rattle.std.specs.Prelude.{◌≢◌, slice_get}
use Rattle.sy_wire.specs.Messages.{Said}
use Rattle.sy_chain.specs.Entries.{Entry}
use Rattle.sy_rules.specs.declared.lists.occurrence.Occurrence.{Occurrence}
use Rattle.sy_rules.specs.declared.lists.occurrence.Occurrence.TheVariants as occurrence
use Rattle.sy_rules.specs.lists.Sets.{IsLowest}
use Rattle.sy_rules.specs.PlanValue.{Plan}
use Rattle.sy_rules.proofs.lemmas.lists.Lowest.{one_lowest}
use Rattle.sy_board.specs.internal.Jobs.{HasNextRun, IsNext}
use Rattle.sy_board.specs.relay.Plans.{occurrences_at}
use Rattle.sy_board.specs.relay.Runs.{AreRuns, BeginsWith}

-- ---- the first of some entries

same_entry : (e f : Entry) (es fs : List Entry) → e ∷ es ≡ f ∷ fs → e ≡ f
same_entry e f es fs h = cc

begins_of : (plan : Plan) (entries others : List Entry) (e : Entry) (action left : ℕ) → entries ≡ e ∷ others → IsNext plan entries (occurrence.Run action) left
    → BeginsWith plan action e left
begins_of plan entries others e action left is next =
    subst (λ (x : Entry). BeginsWith plan action x left) (same_entry next.entry e next.others others (sym next.held ∙ is))
    (record { number = next.number; first = next.first; found = next.found })

next_of : (plan : Plan) (e : Entry) (others : List Entry) (action left : ℕ) → BeginsWith plan action e left → IsNext plan (e ∷ others) (occurrence.Run action) left
next_of plan e others action left b = record { entry = e; others = others; held = refl; number = b.number; first = b.first; found = b.found }

same_run : (a b : ℕ) → Some (occurrence.Run a) ≡ Some (occurrence.Run b) → a ≡ b
same_run a b e = cc

-- an entry begins with one run
one_action : (plan : Plan) (e : Entry) (a b left other : ℕ) → BeginsWith plan a e left → BeginsWith plan b e other → a ≡ b
one_action plan e a b left other x y =
    let number : x.number ≡ y.number = one_lowest e.due x.number y.number left other x.first y.first in
    same_run a b (sym x.found ∙ ap (slice_get (occurrences_at plan e.list)) number ∙ y.found)

-- ---- where the runs end

pub no_run : (plan : Plan) (action most : ℕ) (entries : List Entry) → (HasNextRun plan entries → ⊥) → AreRuns plan action most entries []
no_run plan action ℕ.zero entries none = refl
no_run plan action (ℕ.suc most) [] none = refl
no_run plan action (ℕ.suc most) (e ∷ others) none = inl ((λ left b. none (action, left, next_of plan e others action left b)), refl)

pub another_run : (plan : Plan) (action other most left : ℕ) (entries : List Entry) → IsNext plan entries (occurrence.Run other) left → other ≢ action
    → AreRuns plan action most entries []
another_run plan action other ℕ.zero left entries next apart = refl
another_run plan action other (ℕ.suc most) left [] next apart = refl
another_run plan action other (ℕ.suc most) left (e ∷ others) next apart =
    let here = begins_of plan (e ∷ others) others e other left refl next in
    inl ((λ l b. apart (one_action plan e other action left l here b)), refl)

-- ---- one run more

module _ (plan : Plan) (action most left : ℕ) (entries others : List Entry) (e : Entry) (some : 0 < most) (is : entries ≡ e ∷ others)
    (next : IsNext plan entries (occurrence.Run action) left) where
  one_more : (behind : List Said) → (left ≢ 0 → behind ≡ []) → (left ≡ 0 → AreRuns plan action (most - 1) others behind) → AreRuns plan action most entries (e.message ∷ behind)
  one_more behind ends goes =
      let suc : most ≡ ℕ.suc (most - 1) = omega (arith, some) in
      subst (λ n. AreRuns plan action n entries (e.message ∷ behind)) (sym suc)
      (subst (λ es. AreRuns plan action (ℕ.suc (most - 1)) es (e.message ∷ behind)) (sym is)
      (inr (left, behind, begins_of plan entries others e action left is next, refl, ends, goes)))

  -- there is more due behind it
  pub last_run : left ≢ 0 → AreRuns plan action most entries (e.message ∷ [])
  last_run more = one_more [] (λ n. refl) (λ z. absurd (more z))

  -- there isn't
  pub whole_run : left ≡ 0 → (behind : List Said) → AreRuns plan action (most - 1) others behind → AreRuns plan action most entries (e.message ∷ behind)
  whole_run none behind runs = one_more behind (λ n. absurd (n none)) (λ z. runs)

-- ---- the messages given

map_last : {A : Type 0} (f : A → Said) (xs : List A) (x : A) → map f (xs ++ x ∷ []) ≡ map f xs ++ f x ∷ []
map_last f [] x = refl
map_last f (y ∷ ys) x = ap (λ (zs : List Said). f y ∷ zs) (map_last f ys x)

tail_is : {A : Type 0} (y z : A) (ys zs : List A) → z ∷ zs ≡ y ∷ ys → zs ≡ ys
tail_is y z ys zs e = cc

head_is : {A : Type 0} (y z : A) (ys zs : List A) → z ∷ zs ≡ y ∷ ys → z ≡ y
head_is y z ys zs e = cc

-- one message more stands behind those that were there
pub one_given : {A : Type 0} (f : A → Said) (front items : List A) (x : A) → take (length front) items ≡ front
    → map f (drop (length front) (items ++ x ∷ [])) ≡ map f (drop (length front) items) ++ f x ∷ []
one_given f [] items x kept = map_last f items x
one_given f (y ∷ ys) [] x kept = cc
one_given f (y ∷ ys) (z ∷ zs) x kept = one_given f ys zs x (tail_is y z ys (take (length ys) zs) kept)

pub still_first : {A : Type 0} (front items : List A) (x : A) → take (length front) items ≡ front → take (length front) (items ++ x ∷ []) ≡ front
still_first [] items x kept = refl
still_first (y ∷ ys) [] x kept = cc
still_first (y ∷ ys) (z ∷ zs) x kept = ap (λ w. w ∷ take (length ys) (zs ++ x ∷ [])) (head_is y z ys (take (length ys) zs) kept)
    ∙ ap (λ ws. y ∷ ws) (still_first ys zs x (tail_is y z ys (take (length ys) zs) kept))

pub none_given : {A : Type 0} (f : A → Said) (items : List A) → map f (drop (length items) items) ≡ []
none_given f [] = refl
none_given f (y ∷ ys) = none_given f ys

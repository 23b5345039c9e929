-- The files' steps are a life's.
use Rattle.std.proofs.Common.{◌⊎◌, ⊎_elim, ◌≡◌, inl, inr, ℕ, zero, suc, ◌+◌, ◌<◌, ◌≤◌, List, [], ◌∷◌, ◌++◌, length, refl, sym, ◌∙◌, ap, subst, arith}
use Rattle.sy_journal.specs.Storage.{written_at}
use Rattle.sy_journal.specs.Frames.{blank}
use Rattle.sy_journal.specs.Life.{with_finished, Slot, fresh, finish_slots, FadesTo}
use Rattle.sy_journal.specs.Bridge.{numbered, slots, AppendsAsInLife, FinishesAsInLife, FadesAsInLife, HasNone, HaveNone, HasItsOwn, FinishesInOne}
use Rattle.sy_journal.proofs.Living.{finish_it, finish_other}

bare : (base : ℕ) (batch : List (List ℕ)) → slots base batch [] ≡ fresh (numbered base batch)
bare base [] = refl
bare base (e ∷ batch) = ap (λ (l : List Slot). ((base, e), 0) ∷ l) (bare (suc base) batch)

unfinished : (base : ℕ) (batch : List (List ℕ)) (finishes : List ℕ) (left : ℕ) → finishes ≡ blank left → slots base batch finishes ≡ fresh (numbered base batch)
unfinished base [] finishes left is = refl
unfinished base (e ∷ batch) [] left is = bare base (e ∷ batch)
unfinished base (e ∷ batch) (m ∷ finishes) zero is = absurd (cc is)
unfinished base (e ∷ batch) (m ∷ finishes) (suc left) is =
    let first : m ≡ 0 = cc is in
    let rest : finishes ≡ blank left = cc is in
    λ i. ((base, e), first i) ∷ unfinished (suc base) batch finishes left rest i

pub appends : AppendsAsInLife
appends base [] batch finishes left is = let same : base ≡ base + 0 = omega arith in unfinished base batch finishes left is ∙ ap (λ (n : ℕ). fresh (numbered n batch)) same
appends base (e ∷ es) batch [] left is =
    let next : suc base + length es ≡ base + suc (length es) = omega arith in
    ap (λ (l : List Slot). ((base, e), 0) ∷ l) (bare_more (suc base) es batch ∙ ap (λ (n : ℕ). slots (suc base) es [] ++ fresh (numbered n batch)) next)
  where
    bare_more : (b : ℕ) (xs ys : List (List ℕ)) → slots b (xs ++ ys) [] ≡ slots b xs [] ++ fresh (numbered (b + length xs) ys)
    bare_more b [] ys = let same : b ≡ b + 0 = omega arith in bare b ys ∙ ap (λ (n : ℕ). fresh (numbered n ys)) same
    bare_more b (x ∷ xs) ys =
        let on : suc b + length xs ≡ b + suc (length xs) = omega arith in
        ap (λ (l : List Slot). ((b, x), 0) ∷ l) (bare_more (suc b) xs ys ∙ ap (λ (n : ℕ). slots (suc b) xs [] ++ fresh (numbered n ys)) on)
appends base (e ∷ es) batch (m ∷ finishes) left is =
    let next : suc base + length es ≡ base + suc (length es) = omega arith in
    ap (λ (l : List Slot). ((base, e), m) ∷ l) (appends (suc base) es batch finishes left is ∙ ap (λ (n : ℕ). slots (suc base) es finishes ++ fresh (numbered n batch)) next)

-- a number below those of the slots finishes none
below : (n base : ℕ) (es : List (List ℕ)) (finishes : List ℕ) → n < base → finish_slots n (slots base es finishes) ≡ slots base es finishes
below n base [] finishes less = refl
below n base (e ∷ es) [] less = λ i. finish_other n ((base, e), 0) (λ is. omega (arith, is, less)) i ∷ below n (suc base) es [] (omega (arith, less)) i
below n base (e ∷ es) (m ∷ finishes) less = λ i. finish_other n ((base, e), m) (λ is. omega (arith, is, less)) i ∷ below n (suc base) es finishes (omega (arith, less)) i

written_none : (finishes : List ℕ) → written_at zero [] finishes ≡ finishes
written_none [] = refl
written_none (m ∷ finishes) = refl

pub finishes_at : FinishesAsInLife
finishes_at base place [] finishes less = refl
finishes_at base place (e ∷ es) [] less = absurd (omega (arith, less))
finishes_at base zero (e ∷ es) (m ∷ finishes) less =
    let here : base ≡ base + 0 = omega arith in
    (λ i. sym (finish_it (base + 0) ((base, e), m) here) i ∷ (ap (λ (l : List ℕ). slots (suc base) es l) (written_none finishes) ∙ sym (below (base + 0) (suc base) es finishes (omega arith))) i)
finishes_at base (suc place) (e ∷ es) (m ∷ finishes) less =
    let next : suc base + place ≡ base + suc place = omega arith in
    let rest = finishes_at (suc base) place es finishes (omega (arith, less)) ∙ ap (λ (n : ℕ). finish_slots n (slots (suc base) es finishes)) next in
    (λ i. sym (finish_other (base + suc place) ((base, e), m) (λ is. omega (arith, is))) i ∷ rest i)

same_slots : (found : List Slot) → FadesTo found found
same_slots [] = refl
same_slots (s ∷ found) = (refl, (λ none. none), same_slots found)

pub fades : FadesAsInLife
fades base [] finishes found fade = refl
fades base (e ∷ es) [] found fade = subst (λ (l : List ℕ). FadesTo (slots base (e ∷ es) []) (slots base (e ∷ es) l)) (sym fade) (same_slots (slots base (e ∷ es) []))
fades base (e ∷ es) (m ∷ finishes) [] fade = absurd fade
fades base (e ∷ es) (m ∷ finishes) (c ∷ found) fade = (refl, fade.0, fades (suc base) es finishes found fade.1)

pub has_its_own : HasItsOwn
has_its_own n base [] finishes out = tt
has_its_own n base (e ∷ es) [] out = ((λ is. other is out), has_its_own n (suc base) es [] (⊎_elim (λ less. inl (omega (arith, less))) (λ more. inr (omega (arith, more))) out))
  where
    other : base ≡ n → (n < base) ⊎ (base + suc (length es) ≤ n) → ⊥
    other is (inl less) = omega (arith, is, less)
    other is (inr more) = omega (arith, is, more)
has_its_own n base (e ∷ es) (m ∷ finishes) out = ((λ is. other is out), has_its_own n (suc base) es finishes (⊎_elim (λ less. inl (omega (arith, less))) (λ more. inr (omega (arith, more))) out))
  where
    other : base ≡ n → (n < base) ⊎ (base + suc (length es) ≤ n) → ⊥
    other is (inl less) = omega (arith, is, less)
    other is (inr more) = omega (arith, is, more)

finish_none : (n : ℕ) (segment : List Slot) → HasNone n segment → finish_slots n segment ≡ segment
finish_none n [] none = refl
finish_none n (slot ∷ segment) none = λ i. finish_other n slot none.0 i ∷ finish_none n segment none.1 i

finished_none : (n : ℕ) (segments : List (List Slot)) → HaveNone n segments → with_finished n segments ≡ segments
finished_none n [] none = refl
finished_none n (segment ∷ segments) none = λ i. finish_none n segment none.0 i ∷ finished_none n segments none.1 i

pub finishes_in_one : FinishesInOne
finishes_in_one [] back base place es finishes less front_none back_none = λ i. finishes_at base place es finishes less i ∷ sym (finished_none (base + place) back back_none) i
finishes_in_one (segment ∷ front) back base place es finishes less front_none back_none =
    λ i. sym (finish_none (base + place) segment front_none.0) i ∷ finishes_in_one front back base place es finishes less front_none.1 back_none i

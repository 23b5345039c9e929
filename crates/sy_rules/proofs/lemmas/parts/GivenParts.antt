-- Parts that objects give in the order of the text: they are one list, and the list that a function collects of the objects is one.
use Rattle.std.proofs.Common.{◌≡◌, ℕ, ◌+◌, ◌⊎◌, List, [], ◌∷◌, ◌++◌, length, Option, Some, None, inl, inr, refl, sym, ap, ◌∙◌, append_assoc, arith}
use Rattle.std.specs.List.{cons_option, filter_map}
use Rattle.sy_rules.specs.parts.Given.{Given, Stands}
use Rattle.sy_rules.specs.items.Outline.{Item}

-- ---- one list

module _ {X : Type 0} (Gives : List Item → Item → ℕ → X → Type 0) where
  -- what the objects from x on give: x gives the first part, or none
  abbrev OneMore : ℕ → List Item → Item → List Item → List X → Type 0
  OneMore number before x later parts =
      ((part : X) × (others : List X) × (parts ≡ part ∷ others) × Gives before x number part × Given Gives (number + 1) (before ++ x ∷ []) later others)
      ⊎ (((n : ℕ) (part : X) → Gives before x n part → ⊥) × Given Gives number (before ++ x ∷ []) later parts)

  taken : {number : ℕ} {before : List Item} {x : Item} {later : List Item} {parts : List X} → Given Gives number before (x ∷ later) parts → OneMore number before x later parts
  taken (Given.One {part = p} {parts = ps} g rest) = inl (p, ps, refl, g, rest)
  taken (Given.Nothing none rest) = inr (none, rest)

  nothing : {number : ℕ} {before : List Item} {parts : List X} → Given Gives number before [] parts → parts ≡ []
  nothing Given.End = refl

  module _ (same : (before : List Item) (x : Item) (n : ℕ) (p q : X) → Gives before x n p → Gives before x n q → p ≡ q) where
    both : (number : ℕ) (before : List Item) (x : Item) (later : List Item) (ps qs : List X) → ((n : ℕ) (ps qs : List X) → Given Gives n (before ++ x ∷ []) later ps → Given Gives n (before ++ x ∷ []) later qs → ps ≡ qs) → OneMore number before x later ps → OneMore number before x later qs → ps ≡ qs
    both number before x later ps qs next (inl a) (inl b) =
        a.2 ∙ (ap (λ p. p ∷ a.1) (same before x number a.0 b.0 a.3 b.3) ∙ (ap (λ others. b.0 ∷ others) (next (number + 1) a.1 b.1 a.4 b.4) ∙ sym b.2))
    both number before x later ps qs next (inl a) (inr b) = absurd (b.0 number a.0 a.3)
    both number before x later ps qs next (inr a) (inl b) = absurd (a.0 number b.0 b.3)
    both number before x later ps qs next (inr a) (inr b) = next number ps qs a.1 b.1

    -- the parts of the same objects are the same
    pub one_list : (number : ℕ) (before later : List Item) (ps qs : List X) → Given Gives number before later ps → Given Gives number before later qs → ps ≡ qs
    one_list number before [] ps qs d e = nothing d ∙ sym (nothing e)
    one_list number before (x ∷ later) ps qs d e = both number before x later ps qs (λ n rs ss f g. one_list n (before ++ x ∷ []) later rs ss f g) (taken d) (taken e)

-- ---- what a function collects

-- so many objects stand before the next one
counted : {A : Type 0} (at : Item → Option A) (before : List Item) (x : Item) (o : Option A) → at x ≡ o → length (filter_map at (before ++ x ∷ [])) ≡ length (filter_map at before) + length (cons_option o [])
counted at [] x o e = ap (λ o. length (cons_option o [])) e ∙ omega arith
counted at (b ∷ before) x o e = more (at b) (filter_map at (before ++ x ∷ [])) (filter_map at before) (length (cons_option o [])) (counted at before x o e)
  where
    more : {A : Type 0} (o : Option A) (xs ys : List A) (k : ℕ) → length xs ≡ length ys + k → length (cons_option o xs) ≡ length (cons_option o ys) + k
    more None xs ys k h = h
    more (Some a) xs ys k h = omega (arith, h)

pub counted_none : {A : Type 0} (at : Item → Option A) (before : List Item) (x : Item) → at x ≡ None → length (filter_map at (before ++ x ∷ [])) ≡ length (filter_map at before)
counted_none at before x e = omega (arith, counted at before x None e)

pub counted_one : {A : Type 0} (at : Item → Option A) (before : List Item) (x : Item) (a : A) → at x ≡ Some a → length (filter_map at (before ++ x ∷ [])) ≡ length (filter_map at before) + 1
counted_one at before x a e = omega (arith, counted at before x (Some a) e)

abbrev pub pushed : {A X : Type 0} → Option A → (A → X) → List X → List X → List X
pushed None part same next = same
pushed (Some a) part same next = part a ∷ next

-- the parts of the objects after others, from this number on
abbrev pub collected : {A X : Type 0} → (Item → Option A) → (List Item → Item → ℕ → A → X) → ℕ → List Item → List Item → List X
collected at part number before [] = []
collected at part number before (x ∷ later) = pushed (at x) (part before x number) (collected at part number (before ++ x ∷ []) later) (collected at part (number + 1) (before ++ x ∷ []) later)

module _ {A X : Type 0} (Gives : List Item → Item → ℕ → X → Type 0) (at : Item → Option A) (part : List Item → Item → ℕ → A → X) (first : ℕ) (all : List Item)
    (gives : (before : List Item) (x : Item) (number : ℕ) (a : A) → Stands all before x → at x ≡ Some a → number ≡ first + length (filter_map at before) → Gives before x number (part before x number a))
    (none : (before : List Item) (x : Item) (n : ℕ) (p : X) → at x ≡ None → Gives before x n p → ⊥) where
  by_case : (number : ℕ) (before : List Item) (x : Item) (later : List Item) (o : Option A) → Stands all before x → at x ≡ o → number ≡ first + length (filter_map at before) → ((n : ℕ) → n ≡ first + length (filter_map at (before ++ x ∷ [])) → Given Gives n (before ++ x ∷ []) later (collected at part n (before ++ x ∷ []) later)) → Given Gives number before (x ∷ later) (pushed o (part before x number) (collected at part number (before ++ x ∷ []) later) (collected at part (number + 1) (before ++ x ∷ []) later))
  by_case number before x later None stands h e next = Given.Nothing (λ n p g. none before x n p h g) (next number (omega (arith, e, counted_none at before x h)))
  by_case number before x later (Some a) stands h e next = Given.One (gives before x number a stands h e) (next (number + 1) (omega (arith, e, counted_one at before x a h)))

  -- what is collected is given
  pub all_given : (number : ℕ) (before later : List Item) → all ≡ before ++ later → number ≡ first + length (filter_map at before) → Given Gives number before later (collected at part number before later)
  all_given number before [] split e = Given.End
  all_given number before (x ∷ later) split e =
      by_case number before x later (at x) (record { later = later; whole = split }) refl e (λ n f. all_given n (before ++ x ∷ []) later (split ∙ sym (append_assoc before (x ∷ []) later)) f)

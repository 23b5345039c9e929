-- Reading the parts of a chain, one part on and at its end; and chains of `or` as chains of `and`.
use Rattle.std.proofs.Common.{◌≡◌, inl, inr, ◌≤◌, ◌<◌, ◌+◌, ℕ, List, [], ◌∷◌, ◌++◌, length, drop, get_or, map, refl, sym, ap, subst, ◌∙◌, append_assoc, append-nil}
use Rattle.std.proofs.lemmas.List.{drop_more, at_drop_all, map-append}
use Rattle.sy_script.specs.declared.tree.ExprTree.{ExprTree}
use Rattle.sy_script.specs.declared.tree.ExprTree.TheVariants as e
use Rattle.sy_script.specs.declared.tree.ExprTree.TheOpen.{ExprTree-F}
use Rattle.sy_script.specs.declared.tree.ExprTree.TheFolds.{fold-roll-ExprTree}
use Rattle.sy_select.specs.declared.condition.Test.{Test}
use Rattle.sy_select.specs.declared.fault.SelectFault.{SelectFault}
use Rattle.sy_select.specs.declared.node.Node.{Node}
use Rattle.sy_select.specs.declared.node.Node.TheVariants as n
use Rattle.sy_select.specs.declared.node.Node.TheOpen.{Node-F}
use Rattle.sy_select.specs.declared.node.Node.TheFolds.{fold-roll-Node}
use Rattle.sy_select.specs.internal.Nodes.{formula, formula_step}
use Rattle.sy_select.specs.Faults.{IsRefusal}
use Rattle.sy_select.specs.Trees.{Written, written, written_step, all_faults, Means}
use Rattle.sy_select.specs.Truth.{Formula, any, all}

abbrev pub Chain : List ExprTree → Formula Written
Chain xs = any (map written xs)

-- the parts from here on
here : (xs : List ExprTree) (i : ℕ) (x : ExprTree) → i < length xs → x ≡ get_or xs i x → drop i xs ≡ x ∷ drop (i + 1) xs
here xs i x below is = drop_more xs i x below ∙ ap (λ y. y ∷ drop (i + 1) xs) (sym is)

module _ (xs : List ExprTree) (i : ℕ) (x : ExprTree) (below : i < length xs) (is : x ≡ get_or xs i x) (so_far : all_faults (Chain xs) ≡ all_faults (Chain (drop i xs))) where
  faults_here : all_faults (Chain xs) ≡ all_faults (written x) ++ all_faults (Chain (drop (i + 1) xs))
  faults_here = so_far ∙ ap (λ ys. all_faults (Chain ys)) (here xs i x below is)

  pub right_on : all_faults (written x) ≡ [] → all_faults (Chain xs) ≡ all_faults (Chain (drop (i + 1) xs))
  right_on none = faults_here ∙ ap (λ fs. fs ++ all_faults (Chain (drop (i + 1) xs))) none

  pub refusal_on : (fault : SelectFault) → IsRefusal (all_faults (written x)) fault → IsRefusal (all_faults (Chain xs)) fault
  refusal_on fault (inl no_memory) = inl no_memory
  refusal_on fault (inr first) = inr (first.0 ++ all_faults (Chain (drop (i + 1) xs)), faults_here ∙ ap (λ fs. fs ++ all_faults (Chain (drop (i + 1) xs))) first.1)

pub right_end : (xs : List ExprTree) (i : ℕ) → length xs ≤ i → all_faults (Chain xs) ≡ all_faults (Chain (drop i xs)) → all_faults (Chain xs) ≡ []
right_end xs i past so_far = so_far ∙ at_drop_all (λ ys. all_faults (Chain ys)) xs i past

abbrev pub MeansFrom : List ExprTree → ℕ → List Node → Type 0
MeansFrom xs i nodes = (later : List (Formula Test)) → Means (Chain (drop i xs)) (any later) → Means (Chain xs) (any (map formula nodes ++ later))

pub means_on : (xs : List ExprTree) (i : ℕ) (x : ExprTree) (nodes : List Node) (node : Node) → i < length xs → x ≡ get_or xs i x → Means (written x) (formula node) → MeansFrom xs i nodes → MeansFrom xs (i + 1) (nodes ++ node ∷ [])
means_on xs i x nodes node below is means so_far later rest =
    let joined : map formula (nodes ++ node ∷ []) ++ later ≡ map formula nodes ++ (formula node ∷ later) = ap (λ ys. ys ++ later) (map-append formula nodes (node ∷ [])) ∙ append_assoc (map formula nodes) (formula node ∷ []) later in
    let from_here : Means (Chain (drop i xs)) (any (formula node ∷ later)) = subst (λ ys. Means (Chain ys) (any (formula node ∷ later))) (sym (here xs i x below is)) (means, rest) in
    subst (λ ys. Means (Chain xs) (any ys)) (sym joined) (so_far (formula node ∷ later) from_here)

pub means_end : (xs : List ExprTree) (i : ℕ) (nodes : List Node) → length xs ≤ i → MeansFrom xs i nodes → Means (Chain xs) (any (map formula nodes))
means_end xs i nodes past so_far =
    let none : Means (Chain (drop i xs)) (any []) = subst (λ y. Means y Formula.Never) (sym (at_drop_all Chain xs i past)) tt in
    subst (λ ys. Means (Chain xs) (any ys)) (append-nil (map formula nodes)) (so_far [] none)

-- ---- `or` and `and`

pub all_means : (xs : List (Formula Written)) (ys : List (Formula Test)) → Means (any xs) (any ys) → Means (all xs) (all ys)
all_means [] [] h = tt
all_means [] (y ∷ ys) h = absurd h
all_means (x ∷ xs) [] h = absurd h
all_means (x ∷ xs) (y ∷ ys) h = (h.0, all_means xs ys h.1)

pub all_same : (xs : List (Formula Written)) → all_faults (all xs) ≡ all_faults (any xs)
all_same [] = refl
all_same (x ∷ xs) = ap (λ fs. all_faults x ++ fs) (all_same xs)

pub written_and : (xs : List ExprTree) → written (e.And xs) ≡ all (map written xs)
written_and xs = ap written (sym (e.rolls-And xs)) ∙ fold-roll-ExprTree (Formula Written) written_step (ExprTree-F.And xs)

pub formula_and : (xs : List Node) → formula (n.And xs) ≡ all (map formula xs)
formula_and xs = ap formula (sym (n.rolls-And xs)) ∙ fold-roll-Node (Formula Test) formula_step (Node-F.And xs)

-- The first of a list of faults is one.
use Rattle.std.proofs.Common.{◌≡◌, inl, inr, List, ◌∷◌, sym, ◌∙◌}
use Rattle.sy_select.specs.declared.fault.SelectFault.{SelectFault}
use Rattle.sy_select.specs.Faults.{IsRefusal, no_memory}

pub one_refusal : (found : List SelectFault) (a b : SelectFault) → IsRefusal found a → IsRefusal found b → (a ≡ no_memory → ⊥) → (b ≡ no_memory → ⊥) → a ≡ b
one_refusal found a b (inl x) y other_a other_b = absurd (other_a x)
one_refusal found a b (inr x) (inl y) other_a other_b = absurd (other_b y)
one_refusal found a b (inr x) (inr y) other_a other_b = let e : a ∷ x.0 ≡ b ∷ y.0 = sym x.1 ∙ y.1 in cc

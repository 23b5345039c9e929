-- The inputs of a relay are looked through for a whole entry that no file keeps.
use Rattle.std.proofs.Common.{◌≡◌, ◌<◌, ◌≤◌, ◌+◌, ℕ, List, length, get_or, refl, sym, subst, ap, ◌∙◌, arith, inl, inr}
use Rattle.std.specs.Prelude.{Option, Some, None, true, slice_get}
use Rattle.std.proofs.lemmas.Bool.{cases_eq}
use Rattle.std.proofs.lemmas.Option.{slice_get-get_or, slice_get_within}
use Rattle.sy_rules.specs.declared.parts.Input.{Input}
use Rattle.sy_site.specs.Sites.{Site, is_whole, plan_at}
use Rattle.sy_log.specs.UnreadFiles.{unread_file}
use Rattle.sy_inputs.specs.WholeEntries.{IsFirstUnkept, IsUnkept, KeepsWhole}
use Rattle.sy_inputs.specs.internal.Unkept.{NoneBefore}

one_value : {A : Type 0} {x y : A} → Some x ≡ Some y → x ≡ y
one_value e = cc

-- before the first
pub begun : (site : Site) (relay : ℕ) (given : Option (List ℕ)) → NoneBefore site relay given 0
begun site relay given before less is = omega (arith, less)

module _ (site : Site) (relay : ℕ) (given : Option (List ℕ)) (number : ℕ) (input : Input) (inputs : List Input) (same : inputs ≡ (plan_at site relay).inputs)
    (index : ℕ) (at : number ≡ index) (within : index < length inputs) (is : input ≡ get_or inputs index input) where
  at_it : slice_get (plan_at site relay).inputs number ≡ Some input
  at_it =
      ap (λ xs. slice_get xs number) (sym same) ∙ ap (λ n. slice_get inputs n) at ∙ slice_get-get_or inputs index input within ∙ ap Some (sym is)

  -- the one that was found
  pub found : is_whole site (record { relay = relay; input = number }) ≡ true → unread_file given input ≡ None → NoneBefore site relay given number
      → IsFirstUnkept site relay given (Some (number, input.port))
  found whole none before =
      ((record { input = input; there = at_it; whole = whole; no_file = none }, refl), before)

  it_is_none : (is_whole site (record { relay = relay; input = number }) ≡ true → unread_file given input ≡ None → ⊥) → IsUnkept site relay given number → ⊥
  it_is_none not_one one =
      not_one one.whole (subst (λ (i : Input). unread_file given i ≡ None) (one_value (sym one.there ∙ at_it)) one.no_file)

  -- one more that isn't
  pub one_more : (is_whole site (record { relay = relay; input = number }) ≡ true → unread_file given input ≡ None → ⊥)
      → NoneBefore site relay given number → NoneBefore site relay given (number + 1)
  one_more not_one none before less unkept =
      elim (cases_eq number before) [
        | inl same ↦ it_is_none not_one (subst (λ n. IsUnkept site relay given n) (sym same) unkept)
        | inr apart ↦ none before (omega (arith, less, apart)) unkept
      ]

-- all were looked at
pub none_at_all : (site : Site) (relay : ℕ) (given : Option (List ℕ)) (number : ℕ) (inputs : List Input) → inputs ≡ (plan_at site relay).inputs
    → length inputs ≤ number → NoneBefore site relay given number → KeepsWhole site relay given
none_at_all site relay given number inputs same all none any unkept =
    none any (let low = slice_get_within inputs any unkept.input (ap (λ xs. slice_get xs any) same ∙ unkept.there) in omega (arith, all, low)) unkept

-- Where a name is found in the rest of a list.
use Rattle.std.proofs.Common.{◌≡◌, ℕ, suc, ◌+◌, Bool, true, false, cond, List, Option, Some, None, drop, drop-cons, get_or, add-one, length, ◌<◌, refl, ap, ◌∙◌, arith}
use Rattle.std.specs.Str.{bytes_eq}
use Rattle.sy_rules.specs.declared.parameters.objects.RulesetParameters.{RulesetParameters}
use Rattle.sy_rules.specs.parts.Plans.{names_of, place_of, one_more}

-- a place in what stands after so many others
abbrev pub past : ℕ → Option ℕ → Option ℕ
past n None = None
past n (Some k) = Some (n + k)

past_zero : (o : Option ℕ) → past 0 o ≡ o
past_zero None = refl
past_zero (Some k) = ap Some (omega arith)

past_more : (n : ℕ) (o : Option ℕ) → past n (one_more o) ≡ past (n + 1) o
past_more n None = refl
past_more n (Some k) = ap Some (omega arith)

at_test : (n : ℕ) (b : Bool) (o : Option ℕ) → b ≡ false → past n (cond b (Some 0) (one_more o)) ≡ past (n + 1) o
at_test n b o e = rw e (past_more n o)

-- a name that is not the one at this place
pub not_here : (name : List ℕ) (rulesets : List RulesetParameters) (n : ℕ) (r : RulesetParameters) → n < length rulesets → r ≡ get_or rulesets n r → bytes_eq name r.name ≡ false → past n (place_of name (names_of (drop n rulesets))) ≡ past (n + 1) (place_of name (names_of (drop (n + 1) rulesets)))
not_here name rulesets n r within is other =
    rw (add-one, drop-cons rulesets n r, ← is) (at_test n (bytes_eq name r.name) (place_of name (names_of (drop (suc n) rulesets))) other ∙ rw add-one refl)

-- the one at this place
pub here : (name : List ℕ) (rulesets : List RulesetParameters) (n : ℕ) (r : RulesetParameters) → n < length rulesets → r ≡ get_or rulesets n r → bytes_eq name r.name ≡ true → past n (place_of name (names_of (drop n rulesets))) ≡ Some n
here name rulesets n r within is same = rw (drop-cons rulesets n r, ← is, same) (ap Some (omega arith))

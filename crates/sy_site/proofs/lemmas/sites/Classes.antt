-- Looking for a class of a selector.
use Rattle.std.proofs.Common.{◌≡◌, ℕ, ◌+◌, ◌*◌, ◌<◌, ◌≤◌, false, List, sym, arith, inl, inr}
use Rattle.std.proofs.lemmas.Bool.{cases_eq}
use Rattle.sy_select.specs.Selectors.{holds}
use Rattle.sy_site.specs.internal.Classes.{HasNoneBelow}
use Rattle.sy_site.specs.texts.HasFault.{IsEmpty}

pub none_first : (selector : List ℕ) → HasNoneBelow selector 0
none_first selector f s few_f few_s low = absurd (omega (arith, low))

pub none_more : (selector : List ℕ) (number facility severity : ℕ) → HasNoneBelow selector number → facility < 24 → severity < 8
    → 8 * facility + severity ≡ number → false ≡ holds selector facility severity → HasNoneBelow selector (number + 1)
none_more selector number facility severity none few_f few_s is here f s low_f low_s low =
    elim (cases_eq (8 * f + s) number) [
      | inl same ↦
          let one : f ≡ facility = omega (arith, same, is, low_s, few_s) in
          let other : s ≡ severity = omega (arith, same, is, one) in
          rw (one, other) (sym here)
      | inr apart ↦ none f s low_f low_s (omega (arith, low, apart))
    ]

pub none_all : (selector : List ℕ) (number : ℕ) → HasNoneBelow selector number → 192 ≤ number → IsEmpty selector
none_all selector number none all f s low_f low_s = none f s low_f low_s (omega (arith, low_f, low_s, all))

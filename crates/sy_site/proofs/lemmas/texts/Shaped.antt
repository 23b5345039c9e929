-- Words of lines, and words that are no part of a line.
use Rattle.std.proofs.Common.{◌≡◌, ℕ, List, [], ◌∷◌, sym, ◌∙◌}
use Rattle.std.specs.Prelude.{codes}
use Rattle.sy_select.specs.Selectors.{IsSetOf}
use Rattle.sy_site.specs.texts.Shapes.{IsProtectLine, ProtectLine}

pub behind_first : {x y : List ℕ} {xs ys : List (List ℕ)} → x ∷ xs ≡ y ∷ ys → xs ≡ ys
behind_first e = cc

pub first_same : {x y : List ℕ} {xs ys : List (List ℕ)} → x ∷ xs ≡ y ∷ ys → x ≡ y
first_same e = cc

pub no_selector : (behind : List (List ℕ)) (word : List ℕ) (later : List (List ℕ)) → behind ≡ word ∷ later → ((sets : List ℕ) → IsSetOf word sets → ⊥)
    → (it : ProtectLine) → IsProtectLine (codes "protect" ∷ behind) it → ⊥
no_selector behind word later e never it h = never it.selector (rw (first_same (sym e ∙ behind_first h.whole)) h.selector)

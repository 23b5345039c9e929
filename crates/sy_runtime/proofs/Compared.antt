-- Totals that are compared.
use Rattle.std.proofs.Common.{◌≡◌, ℕ, List, [], ◌∷◌, map, refl, sym, ap, ◌∙◌}
use Rattle.sy_board.specs.relay.Boards.{counts_of}
use Rattle.sy_board.specs.relay.Totals.{Counts}
use Rattle.sy_board.specs.declared.relay.accounts.ActionCounts.{ActionCounts}

done_map : (actions : List ActionCounts) → map (λ c. c.done) actions ≡ map (λ c. c.done) (map counts_of actions)
done_map [] = refl
done_map (a ∷ actions) = ap (λ xs. a.done ∷ xs) (done_map actions)

-- what is done of the actions is what their counts say
pub done_are : (actions : List ActionCounts) (counts : List Counts) (made : List ℕ) → map counts_of actions ≡ counts → map (λ c. c.done) actions ≡ made
    → map (λ c. c.done) counts ≡ made
done_are actions counts made same is = ap (map (λ c. c.done)) (sym same) ∙ sym (done_map actions) ∙ is

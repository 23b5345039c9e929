-- One text of a file, one text that its plan is read from.
use Rattle.std.proofs.Common.{◌≡◌, ℕ, List, Bool, true, false, sym, ap, ◌∙◌}
use mathlib.Core.Logic.{inl, inr}
use Rattle.sy_script.proofs.ReadBackStmt.{one_tree}
use Rattle.sy_host_parameters.specs.HostParameters.{IsMachineText, machine_of}

no_both : {b : Bool} → b ≡ true → b ≡ false → ⊥
no_both is other = cc

pub one_machine : (text a b : List ℕ) → IsMachineText text a → IsMachineText text b → a ≡ b
one_machine text a b (inl (none, is)) (inl (nothing, other)) = is ∙ sym other
one_machine text a b (inl (none, is)) (inr (inl (gives, lacks, same))) = absurd (no_both gives none)
one_machine text a b (inl (none, is)) (inr (inr (gives, tree, read, same))) = absurd (no_both gives none)
one_machine text a b (inr (inl (gives, lacks, is))) (inl (none, other)) = absurd (no_both gives none)
one_machine text a b (inr (inl (gives, lacks, is))) (inr (inl (given, not, other))) = is ∙ sym other
one_machine text a b (inr (inl (gives, lacks, is))) (inr (inr (given, tree, read, same))) = absurd (lacks tree read)
one_machine text a b (inr (inr (gives, script, read, is))) (inl (none, other)) = absurd (no_both gives none)
one_machine text a b (inr (inr (gives, script, read, is))) (inr (inl (given, lacks, other))) = absurd (lacks script read)
one_machine text a b (inr (inr (gives, script, read, is))) (inr (inr (given, tree, found, other))) =
    is ∙ ap (machine_of text) (one_tree text script tree read found) ∙ sym other

use Rattle.std.proofs.Common.{◌≡◌, ◌+◌, ◌++◌, ◌∷◌, drop, sym, ◌∙◌, ap}
use Rattle.std.specs.Prelude.{flat_map}
use Rattle.std.proofs.lemmas.List.{append_assoc, drop_more}
use Rattle.sy_survey.specs.Converting.{entry_line}
use Rattle.sy_survey.proofs.converting.append_entries.Goals as goal

pub loop-input-preserved : goal.loop-input-preserved
loop-input-preserved c =
    let xs = c.args.inputs.now in
    let i = c.loop-input.input-index in
    let x = c.input-item.result in
    let split : drop i xs ≡ x ∷ drop (i + 1) xs = drop_more xs i x c.loop-input-test.true ∙ ap (λ y. y ∷ drop (i + 1) xs) (sym c.input-item.is) in
    ap (λ text. text ++ flat_map entry_line (drop (i + 1) xs)) c.in_ok-append_entry.ensures
    ∙ append_assoc c.loop-input.text.items (entry_line x) (flat_map entry_line (drop (i + 1) xs))
    ∙ ap (λ ys. c.loop-input.text.items ++ flat_map entry_line ys) (sym split) ∙ c.loop-input.invariant

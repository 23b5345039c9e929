use Rattle.std.proofs.Common.{rules, ◌≡◌, ◌++◌, ◌∷◌, ap, sym, ◌∙◌}
use Rattle.std.proofs.lemmas.List.{append_assoc}
use Rattle.sy_escapes.specs.Escapes.{escaped, written}
use Rattle.sy_escapes.proofs.Exact.{step}
use Rattle.sy_escapes.proofs.escaping.append_first.Goals as goal

pub returns-in_ok-append_byte-in-Some-clause-text : goal.returns-in_ok-append_byte-in-Some-clause-text
returns-in_ok-append_byte-in-Some-clause-text c =
    let b = c.in-Some.byte.now in
    let later = c.in-Some.later.now in
    let old = c.args.text.now.items in
    let cut : c.args.bytes.now ≡ b ∷ later = search rules in
    let wrote : c.append_byte.new.text.items ≡ old ++ written b later = search rules in
    ap (λ t. t ++ escaped later) wrote ∙ append_assoc old (written b later) (escaped later) ∙ ap (λ t. old ++ t) (sym (step b later) ∙ ap escaped (sym cut))

use Rattle.std.proofs.Common.{rules, ◌≡◌, ◌++◌, ◌∷◌, [], ap, sym, ◌∙◌, arith}
use Rattle.sy_escapes.specs.Escapes.{line_feed, trimmed}
use Rattle.sy_escapes.proofs.Exact.{empty, trimmed_feed, trimmed_nil, trimmed_other}
use Rattle.sy_escapes.proofs.escaping.trimmed.Goals as goal

pub returns-in-Some : goal.returns-in-Some
returns-in-Some c =
    let cut : c.args.bytes.now ≡ c.in-Some.front.now ++ c.in-Some.last.now ∷ [] = search rules in
    let is : c.in-Some.last.now ≡ line_feed = search rules in
    sym (ap trimmed (cut ∙ ap (λ b. c.in-Some.front.now ++ b ∷ []) is) ∙ trimmed_feed c.in-Some.front.now)

pub returns-in_default : goal.returns-in_default
returns-in_default c =
    let cut : c.args.bytes.now ≡ c.in-Some.front.now ++ c.in-Some.last.now ∷ [] = search rules in
    sym (ap trimmed cut ∙ trimmed_other c.in-Some.front.now c.in-Some.last.now c.if-last-eq10.false ∙ sym cut)

pub returns-in_default-2 : goal.returns-in_default-2
returns-in_default-2 c =
    let none : c.args.bytes.now ≡ [] = empty _ (search (rules, arith)) in
    none ∙ sym (ap trimmed none ∙ trimmed_nil)

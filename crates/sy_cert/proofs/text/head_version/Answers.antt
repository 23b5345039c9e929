use Rattle.std.proofs.Common.{refl, sym, ap, inl, inr, ◌∙◌}
use Rattle.sy_cert.specs.Rows.{head}
use Rattle.sy_cert.proofs.Texts.{head_1, head_2, other_line, same_line}
use Rattle.sy_cert.proofs.text.head_version.Goals as goal

pub returns-then-eq-clause-some : goal.returns-then-eq-clause-some
returns-then-eq-clause-some c =
    (inl refl, same_line c.args.line.now c.as_slice.result.now c.eq.result c.eq.ensures c.if-eq.true ∙ c.as_slice.ensures ∙ sym head_1)

pub returns-then-eq-2-clause-some : goal.returns-then-eq-2-clause-some
returns-then-eq-2-clause-some c =
    (inr refl, same_line c.args.line.now c.as_slice-2.result.now c.eq-2.result c.eq-2.ensures c.if-eq-2.true ∙ c.as_slice-2.ensures ∙ sym head_2)

pub returns-clause-none : goal.returns-clause-none
returns-clause-none c version (inl is) e =
    other_line c.args.line.now c.as_slice.result.now c.eq.result c.eq.ensures c.if-eq.false (e ∙ ap head is ∙ head_1 ∙ sym c.as_slice.ensures)
returns-clause-none c version (inr is) e =
    other_line c.args.line.now c.as_slice-2.result.now c.eq-2.result c.eq-2.ensures c.if-eq-2.false (e ∙ ap head is ∙ head_2 ∙ sym c.as_slice-2.ensures)

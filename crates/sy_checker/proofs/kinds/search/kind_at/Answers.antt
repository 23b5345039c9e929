use Rattle.std.proofs.Common.{◌∙◌, sym}
use Rattle.std.proofs.lemmas.Bool.{false≢true}
use Rattle.sy_checker.proofs.Ways.{kind_by}
use Rattle.sy_checker.proofs.kinds.search.kind_at.Goals as goal

pub returns-then-is_not_full : goal.returns-then-is_not_full
returns-then-is_not_full c = c.is_not_full.ensures.0 c.if-is_not_full.true

pub returns-then-is_mark_off : goal.returns-then-is_mark_off
returns-then-is_mark_off c = c.is_mark_off.ensures.0 c.if-is_mark_off.true

pub returns-then-is_mark_above_size : goal.returns-then-is_mark_above_size
returns-then-is_mark_above_size c = c.is_mark_above_size.ensures.0 c.if-is_mark_above_size.true

pub returns-then-may_discard : goal.returns-then-may_discard
returns-then-may_discard c = c.may_discard.ensures.0 c.if-may_discard.true

pub returns : goal.returns
returns c =
    kind_by c.args.site.now c.args.class c.args.input c.risk_at.result
    (λ h. false≢true (sym c.if-is_not_full.false ∙ c.is_not_full.ensures.1 h))
    (λ h. false≢true (sym c.if-is_mark_off.false ∙ c.is_mark_off.ensures.1 h))
    (λ h. false≢true (sym c.if-is_mark_above_size.false ∙ c.is_mark_above_size.ensures.1 h))
    (λ h. false≢true (sym c.if-may_discard.false ∙ c.may_discard.ensures.1 h)) c.risk_at.ensures

use Rattle.std.proofs.Common.{◌∙◌, sym}
use Rattle.std.proofs.lemmas.Bool.{false≢true}
use Rattle.sy_site.specs.machine.Findings.{Kind}
use Rattle.sy_fit.proofs.Risky.{all_clean, clean_by}
use Rattle.sy_fit.proofs.kinds.is_clean.Goals as goal

pub returns-then-is_not_full : goal.returns-then-is_not_full
returns-then-is_not_full c = (
  λ no. absurd (false≢true no),
  λ clean. absurd (clean Kind.NotFull (λ e. cc) (c.is_not_full.ensures.0 c.if-is_not_full.true)),
)

pub returns-then-is_mark_off : goal.returns-then-is_mark_off
returns-then-is_mark_off c = (
  λ no. absurd (false≢true no),
  λ clean. absurd (clean Kind.MarkOff (λ e. cc) (c.is_mark_off.ensures.0 c.if-is_mark_off.true)),
)

pub returns-then-is_mark_above_size : goal.returns-then-is_mark_above_size
returns-then-is_mark_above_size c = (
  λ no. absurd (false≢true no),
  λ clean. absurd (clean Kind.MarkAboveSize (λ e. cc) (c.is_mark_above_size.ensures.0 c.if-is_mark_above_size.true)),
)

pub returns-then-may_discard : goal.returns-then-may_discard
returns-then-may_discard c = (
  λ no. absurd (false≢true no),
  λ clean. absurd (clean Kind.Discards (λ e. cc) (c.may_discard.ensures.0 c.if-may_discard.true)),
)

pub returns : goal.returns
returns c =
    clean_by c.args.site.now c.args.class c.args.input c.is_risky.result c.is_risky.ensures
    (λ risky. all_clean c.args.site.now c.args.class c.args.input
    (λ h. false≢true (sym c.if-is_not_full.false ∙ c.is_not_full.ensures.1 h))
    (λ h. false≢true (sym c.if-is_mark_off.false ∙ c.is_mark_off.ensures.1 h))
    (λ h. false≢true (sym c.if-is_mark_above_size.false ∙ c.is_mark_above_size.ensures.1 h))
    (λ h. false≢true (sym c.if-may_discard.false ∙ c.may_discard.ensures.1 h)) risky)

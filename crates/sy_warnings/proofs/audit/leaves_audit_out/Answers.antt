use Rattle.std.proofs.Common.{◌∙◌, refl, sym}
use Rattle.std.proofs.lemmas.Bool.{false≢true}
use Rattle.sy_warnings.proofs.audit.leaves_audit_out.Goals as goal

pub returns-then-not-protects_of : goal.returns-then-not-protects_of
returns-then-not-protects_of c = (
  λ no. absurd (false≢true no),
  λ it. absurd (false≢true (sym c.if-not-protects_of.true ∙ c.protects_of.ensures.1 it.protects)),
)

pub returns-then-protects_of : goal.returns-then-protects_of
returns-then-protects_of c = (
  λ no. absurd (false≢true no),
  λ it. absurd (it.leaves_out (c.protects_of-2.ensures.0 c.if-protects_of.true)),
)

pub returns : goal.returns
returns c = (
  λ yes. record {
    protects = c.protects_of.ensures.0 c.if-not-protects_of.false;
    leaves_out = λ it. false≢true (sym c.if-protects_of.false ∙ c.protects_of-2.ensures.1 it);
  },
  λ it. refl,
)

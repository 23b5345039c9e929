use Rattle.std.proofs.Common.{◌∙◌, inl, refl, subst, sym}
use Rattle.sy_fit.specs.Fit.{IsFit}
use Rattle.sy_fit.proofs.Uniqueness.{fault_of, only_memory}
use Rattle.sy_fit.proofs.verifying.verify.Goals as goal

pub returns-then-version-policy-clause-wrong : goal.returns-then-version-policy-clause-wrong
returns-then-version-policy-clause-wrong c =
    inl (λ same. c.if-version-policy.true (c.version.ensures ∙ same ∙ sym c.policy.ensures), refl, refl)

pub returns-then-version-policy-clause-only : goal.returns-then-version-policy-clause-only
returns-then-version-policy-clause-only c = λ fit.
    absurd (c.if-version-policy.true (c.version.ensures ∙ fit.version ∙ sym c.policy.ensures))

pub returns-in-Ok-clause-fit : goal.returns-in-Ok-clause-fit
returns-in-Ok-clause-fit c = record {
  version = sym c.version.ensures ∙ c.if-version-policy.false ∙ c.policy.ensures;
  rows = subst (IsFit c.args.site.now) c.rows.ensures c.in-Ok.ensures.fit;
}

pub returns-in-Ok-clause-sound : goal.returns-in-Ok-clause-sound
returns-in-Ok-clause-sound c = c.fit_is_sound.ensures c.args.site.now c.rows.result.now c.in-Ok.ensures.fit

pub returns-in-Ok-clause-confined : goal.returns-in-Ok-clause-confined
returns-in-Ok-clause-confined c =
    c.claims_of_sound_sites.ensures.confined c.args.site.now (c.fit_is_sound.ensures c.args.site.now c.rows.result.now c.in-Ok.ensures.fit)

pub returns-in-Ok-clause-falling : goal.returns-in-Ok-clause-falling
returns-in-Ok-clause-falling c =
    c.claims_of_sound_sites.ensures.falling c.args.site.now (c.fit_is_sound.ensures c.args.site.now c.rows.result.now c.in-Ok.ensures.fit)

pub returns-in-Ok-clause-written : goal.returns-in-Ok-clause-written
returns-in-Ok-clause-written c =
    c.claims_of_sound_sites.ensures.written c.args.site.now c.is_lawful.ensures
    (c.fit_is_sound.ensures c.args.site.now c.rows.result.now c.in-Ok.ensures.fit)

pub returns-in-Ok-clause-safe : goal.returns-in-Ok-clause-safe
returns-in-Ok-clause-safe c = λ events state runs.
    c.fit_is_safe.ensures c.args.site.now c.rows.result.now c.is_lawful.ensures c.in-Ok.ensures.fit events state runs

pub returns-in-Err-clause-wrong : goal.returns-in-Err-clause-wrong
returns-in-Err-clause-wrong c =
    fault_of c.args.site.now c.args.certificate.now c.rows.result.now c.in-Err.fault
    (sym c.version.ensures ∙ c.if-version-policy.false ∙ c.policy.ensures) c.rows.ensures c.in-Err.ensures.wrong

pub returns-in-Err-clause-only : goal.returns-in-Err-clause-only
returns-in-Err-clause-only c =
    only_memory c.args.site.now c.args.certificate.now c.in-Err.fault
    (fault_of c.args.site.now c.args.certificate.now c.rows.result.now c.in-Err.fault
    (sym c.version.ensures ∙ c.if-version-policy.false ∙ c.policy.ensures) c.rows.ensures c.in-Err.ensures.wrong)

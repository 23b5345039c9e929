use Rattle.std.proofs.Common.{refl, subst}
use Rattle.sy_fit.specs.Acceptance.{AreReached}
use Rattle.sy_fit.proofs.Uniqueness.{wrong_rows}
use Rattle.sy_fit.proofs.Verified.{fit_by}
use Rattle.sy_fit.proofs.verifying.verify_rows.Goals as goal

pub returns-in-Err-clause-wrong : goal.returns-in-Err-clause-wrong
returns-in-Err-clause-wrong c =
    wrong_rows c.args.site.now c.in-Ok.classes.items c.as_slice.result.now c.args.rows.now c.args.rows.now c.in-Err.fault c.in-Ok.ensures
    c.as_slice.ensures.value refl c.in-Err.ensures.err

pub new-requires-clause-pairs : goal.new-requires-clause-pairs
new-requires-clause-pairs c =
    subst (λ l. AreReached c.args.site.now l c.check_rows.new.pairs.items) c.as_slice.ensures.value c.in_default-check_rows.ensures.pairs

pub new-requires-clause-sound : goal.new-requires-clause-sound
new-requires-clause-sound c =
    c.fit_is_sound.ensures c.args.site.now c.args.rows.now
    (fit_by c.args.site.now c.in-Ok.classes.items c.as_slice.result.now c.args.rows.now c.args.rows.now c.in-Ok.ensures
    c.as_slice.ensures.value refl c.in_default-check_rows.ensures.ok)

pub returns-clause-fit : goal.returns-clause-fit
returns-clause-fit c =
    fit_by c.args.site.now c.in-Ok.classes.items c.as_slice.result.now c.args.rows.now c.args.rows.now c.in-Ok.ensures
    c.as_slice.ensures.value refl c.in_default-check_rows.ensures.ok

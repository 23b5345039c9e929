use Rattle.std.proofs.Common.{◌≡◌, ◌∙◌, arith, length, ap, subst, sym}
use Rattle.sy_fit.specs.Fit.{AreWanted}
use Rattle.sy_fit.proofs.Verified.{right_rows, wrong_row}
use Rattle.sy_fit.proofs.verifying.judge.Goals as goal

pub returns-in-Some : goal.returns-in-Some
returns-in-Some c =
    wrong_row c.args.site.now c.args.class c.as_slice.result.now c.args.rows.now
    (subst (AreWanted c.args.site.now c.args.class) (sym c.as_slice.ensures.value) c.in_ok-part.ensures) c.in-Some.place c.in-Some.kind
    c.in-Some.ensures.some

pub returns : goal.returns
returns c =
    let count : c.len.result ≡ length c.in_ok-part.part.items = omega (arith, c.len.ensures) in
    right_rows c.args.site.now c.args.class c.as_slice.result.now c.args.rows.now
    (subst (AreWanted c.args.site.now c.args.class) (sym c.as_slice.ensures.value) c.in_ok-part.ensures) c.in-None.ensures.none c.len.result
    (count ∙ ap length (sym c.as_slice.ensures.value))

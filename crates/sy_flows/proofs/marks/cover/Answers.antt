use Rattle.std.proofs.Common.{◌≡◌, ◌<◌, ◌≤◌, ◌+◌, ◌-◌, ◌∙◌, ap, arith, false, get_or, length, refl}
use Rattle.std.proofs.lemmas.List.{length_push}
use Rattle.sy_flows.proofs.Marked.{one_unmarked}
use Rattle.sy_flows.proofs.marks.cover.Goals as goal

pub loop-marks-init : goal.loop-marks-init
loop-marks-init c = λ at. refl

pub loop-marks-preserved : goal.loop-marks-preserved
loop-marks-preserved c = λ at.
    ap (λ l. get_or l at false) c.in_ok-push.ensures.items ∙ one_unmarked c.loop-marks.marks.items at ∙ c.loop-marks.invariant at

pub loop-marks-smaller : goal.loop-marks-smaller
loop-marks-smaller c =
    let one : length c.push.new.self.items ≡ length c.loop-marks.marks.items + 1 =
    ap length c.in_ok-push.ensures.items ∙ length_push c.loop-marks.marks.items false in
    let low : length c.loop-marks.marks.items ≤ c.args.place = omega (arith, c.loop-marks-test.true, c.len.ensures) in
    let less : c.args.place + 1 - length c.push.new.self.items < c.args.place + 1 - length c.loop-marks.marks.items = omega (arith, one, low) in
    less

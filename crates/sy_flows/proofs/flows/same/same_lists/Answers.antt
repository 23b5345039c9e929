use Rattle.std.proofs.Common.{arith, refl}
use Rattle.sy_flows.proofs.Alike.{same_list}
use Rattle.sy_flows.proofs.flows.same.same_lists.Goals as goal

pub returns : goal.returns
returns c =
    let end = c.loop-place.auto.place-end in
    let past = c.loop-place-test.false in (
      λ yes. same_list c.args.one.now c.args.other.now c.if-one-other.false (λ k low. c.loop-place.invariant k (omega (arith, low, end, past))),
      λ same. refl,
    )

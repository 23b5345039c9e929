use Rattle.std.proofs.Common.{◌∙◌, arith}
use Rattle.std.proofs.lemmas.List.{length-map}
use Rattle.sy_select.proofs.ApplyLaws.{applied, applied_small}
use Rattle.sy_select.proofs.part.Part.apply.Goals as goal

pub returns : goal.returns
returns c =
    let so_far = c.loop-facility.invariant in
    record {
      size = length-map c.loop-facility.sets (λ x. x.0) ∙ so_far.size;
      small = applied_small _ _ _ _ c.args.sets.now c.loop-facility.sets so_far;
      pairs = applied _ _ _ _ c.args.sets.now c.loop-facility.sets so_far (omega arith);
    }

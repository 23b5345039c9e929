use Rattle.std.proofs.Common.{arith, length, refl}
use Rattle.std.proofs.lemmas.Option.{slice_get_read}
use Rattle.sy_findings.proofs.verdicts.instances.is_of.Goals as goal

pub returns : goal.returns
returns c =
    let low = c.if-place-instances.false in
    record {
      instance = c.index-instances-place.result;
      stands = slice_get_read c.args.instances.now (length c.args.instances.now) c.args.place c.index-instances-place.result refl (omega (arith, low))
          c.index-instances-place.is;
      is_of = c.is_at.ensures.0 c.if-not-is_at.false;
    }

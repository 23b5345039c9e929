use Rattle.std.proofs.Common.{◌++◌, refl}
use Rattle.sy_outlets.specs.Left.{texts_of}
use Rattle.sy_outlets.proofs.LeftFrames.{both, kept_after}
use Rattle.sy_outlets.proofs.leaving.left.write_input.Goals as goal

pub returns-in-Ok : goal.returns-in-Ok
returns-in-Ok g c =
    let r = c.in_ok-write_rests.ensures in (
      texts_of c.args.input.at.input c.args.entries.now ++ r.0,
      record { others = r.0; rests = r.1; texts_are = refl },
      kept_after _ _ _ _ (both _ _ _ (texts_of c.args.input.at.input c.args.entries.now) r.0 c.in_ok-write_held.ensures r.2) c.in-Ok.ensures.bytes,
    )

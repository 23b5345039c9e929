use Rattle.std.proofs.Common.{arith, length, refl}
use Rattle.std.proofs.lemmas.Option.{slice_get_read}
use Rattle.sy_checker.proofs.kinds.groups.place_of.Goals as goal

pub returns-then-is_of-clause-some : goal.returns-then-is_of-clause-some
returns-then-is_of-clause-some c =
    let low = c.if-likely-groups.false in
    record {
      group = c.index-groups-likely.result;
      stands = slice_get_read c.args.groups.now (length c.args.groups.now) c.args.likely c.index-groups-likely.result refl (omega (arith, low))
          c.index-groups-likely.is;
      is_of = c.is_of.ensures.0 c.if-is_of.true;
    }

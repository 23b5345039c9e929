use Rattle.std.proofs.Common.{rules, ◌≡◌, take, sym, subst, true, get_or, arith}
use Rattle.std.proofs.lemmas.List.{take_more}
use Rattle.sy_escapes.specs.internal.Plain.{ArePlain, is_plain}
use Rattle.sy_escapes.proofs.Exact.{plain_more}
use Rattle.sy_escapes.proofs.escaping.plain_len.Goals as goal

pub loop-len-preserved : goal.loop-len-preserved
loop-len-preserved c =
    let bytes = c.args.bytes.now in
    let k = c.loop-len.len in
    let is : is_plain (get_or bytes k 0) ≡ true = search rules in
    record {
      within = omega (arith, c.loop-len-test.true);
      plain = subst ArePlain (sym (take_more bytes k 0 c.loop-len-test.true)) (plain_more (take k bytes) (get_or bytes k 0) c.loop-len.invariant.plain is);
    }

use Rattle.std.proofs.Common.{rules, ◌+◌, ◌*◌, ap, arith}
use Rattle.sy_wire.specs.declared.class.Class.{Class}
use Rattle.sy_unread.proofs.repair.judged.placed.Goals as goal

pub returns-then-same_text-clause-some : goal.returns-then-same_text-clause-some
returns-then-same_text-clause-some c =
    let number = ap (λ (k : Class). 8 * k.facility + k.severity) c.class.ensures in
    record {
      is_message = c.is_message.ensures;
      fits = c.requires.fits;
      within = omega arith;
      text = search rules;
      whole = search rules;
      class = λ text rest n is whole. omega (arith, number, c.number.ensures.value, c.requires.class text rest n is whole, c.if-number-class.false);
    }

use Rattle.std.proofs.Common.{◌≡◌, true, ◌+◌, ◌&&◌, ap, sym, ◌∙◌, drop, get_or, arith}
use Rattle.std.specs.Char.{is_ascii_digit}
use Rattle.std.specs.List.{list_all}
use Rattle.std.proofs.lemmas.List.{at_drop_more}
use Rattle.sy_wire.proofs.Numerals.{too_large, value_more}
use Rattle.sy_wire.proofs.numbers.number_up_to.Goals as goal

pub returns-then-next-from : goal.returns-then-next-from
returns-then-next-from c =
    let ds = c.args.digits.now in
    let i = c.loop-digit.digit-index in
    let is = c.if-not-is_ascii_digit.ensures.cases in
    let next = value_more ds i c.from.result c.from-in-loop-digit.result c.loop-digit-test.true is.0 is.1 (c.from.ensures ∙ c.loop-digit.invariant.value) c.from-in-loop-digit.ensures in
    sym (too_large c.args.most ds (i + 1) (omega (arith, next, c.from-in-loop-digit-2.ensures, c.if-next-from.true)))

pub loop-digit-preserved : goal.loop-digit-preserved
loop-digit-preserved c =
    let ds = c.args.digits.now in
    let i = c.loop-digit.digit-index in
    let is = c.if-not-is_ascii_digit.ensures.cases in
    let yes : is_ascii_digit (get_or ds i 0) ≡ true = sym c.is_ascii_digit.ensures.value ∙ c.if-not-is_ascii_digit.false in
    record {
      value = value_more ds i c.from.result c.from-in-loop-digit.result c.loop-digit-test.true is.0 is.1 (c.from.ensures ∙ c.loop-digit.invariant.value) c.from-in-loop-digit.ensures;
      digits = c.loop-digit.invariant.digits ∙ at_drop_more (list_all is_ascii_digit) ds i 0 c.loop-digit-test.true
          ∙ ap (λ b. b && list_all is_ascii_digit (drop (i + 1) ds)) yes;
      small = omega (arith, c.from-in-loop-digit-2.ensures, c.if-next-from.false);
    }

use Rattle.std.proofs.Common.{◌∙◌, sym, arith}
use Rattle.std.proofs.lemmas.Fmt.{decimal_injective}
use Rattle.sy_cert.proofs.reading.port.Goals as goal

pub returns-in-Some-eq0-clause-none : goal.returns-in-Some-eq0-clause-none
returns-in-Some-eq0-clause-none c n is e =
    let small = c.in-Some-eq0.ensures.some.0 in
    let same = decimal_injective n c.in-Some-eq0.field-0 (omega (arith, is.1)) (omega (arith, small)) (sym e ∙ c.in-Some-eq0.ensures.some.1) in
    omega (arith, same, is.0, c.in-Some-eq0.field-0-test)

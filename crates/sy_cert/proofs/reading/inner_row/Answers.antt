use Rattle.std.proofs.Common.{◌∷◌, [], ap, sym, ◌∙◌, ◌≡◌, true, subst}
use Rattle.std.specs.Prelude.{codes}
use Rattle.std.specs.Fmt.{decimal}
use Rattle.sy_cert.specs.Rows.{is_name}
use Rattle.sy_cert.specs.Faults.{HasShape}
use Rattle.sy_cert.proofs.RowLines.{inner_unwritten}
use Rattle.sy_cert.proofs.reading.inner_row.Goals as goal

pub returns-in-Ok-clause-ok : goal.returns-in-Ok-clause-ok
returns-in-Ok-clause-ok c version =
    let line = c.in-Some.ensures.some in
    let relay = c.in-Ok.ensures.ok in
    let list = c.in-Some-number.ensures.some in
    let number = c.in-Some-number-2.ensures.some in
    record {
      is_row = (subst (λ r. is_name r ≡ true) (sym relay) line.relay_is, list.0, number.0);
      words_are = ap (λ r. codes "inner" ∷ r ∷ decimal c.in-Some-number.list ∷ decimal c.in-Some-number-2.number ∷ []) relay
          ∙ ap (λ w. codes "inner" ∷ c.in-Some.line.relay.now ∷ w ∷ decimal c.in-Some-number-2.number ∷ []) (sym list.1)
          ∙ ap (λ w. codes "inner" ∷ c.in-Some.line.relay.now ∷ c.in-Some.line.list.now ∷ w ∷ []) (sym number.1) ∙ sym line.whole;
    }

pub returns-in-None-number-clause-err : goal.returns-in-None-number-clause-err
returns-in-None-number-clause-err c version =
    let line = c.in-Some.line in (
      HasShape.inner_line line.relay.now line.list.now line.number.now c.in-Some.ensures.some,
      inner_unwritten version _ line.relay.now line.list.now line.number.now c.in-Some.ensures.some
          (λ m n small low e f. c.in-None-number.ensures.none m small e),
    )

pub returns-in-None-number-2-clause-err : goal.returns-in-None-number-2-clause-err
returns-in-None-number-2-clause-err c version =
    let line = c.in-Some.line in (
      HasShape.inner_line line.relay.now line.list.now line.number.now c.in-Some.ensures.some,
      inner_unwritten version _ line.relay.now line.list.now line.number.now c.in-Some.ensures.some
          (λ m n small low e f. c.in-None-number-2.ensures.none n low f),
    )

use Rattle.std.proofs.Common.{◌∷◌, [], ap, sym, ◌∙◌, ◌≡◌, true, subst}
use Rattle.std.specs.Prelude.{codes}
use Rattle.std.specs.Fmt.{decimal}
use Rattle.sy_cert.specs.Rows.{is_name}
use Rattle.sy_cert.specs.Faults.{HasShape}
use Rattle.sy_cert.proofs.RowLines.{reach_unwritten}
use Rattle.sy_cert.proofs.reading.reach_row.Goals as goal

pub returns-in-Ok-clause-ok : goal.returns-in-Ok-clause-ok
returns-in-Ok-clause-ok c version =
    let line = c.in-Some.ensures.some (codes "reach") in
    let relay = c.in-Ok.ensures.ok in
    let port = c.in-Some-port.ensures.some in
    record {
      is_row = (subst (λ r. is_name r ≡ true) (sym relay) line.relay_is, port.0);
      words_are = ap (λ r. codes "reach" ∷ r ∷ decimal c.in-Some-port.port ∷ []) relay
          ∙ ap (λ w. codes "reach" ∷ c.in-Some.line.relay.now ∷ w ∷ []) (sym port.1) ∙ sym line.whole;
    }

pub returns-in-None-port-clause-err : goal.returns-in-None-port-clause-err
returns-in-None-port-clause-err c version =
    let line = c.in-Some.ensures.some (codes "reach") in (
      HasShape.reach_line c.in-Some.line.relay.now c.in-Some.line.number.now line,
      reach_unwritten version _ c.in-Some.line.relay.now c.in-Some.line.number.now line c.in-None-port.ensures.none,
    )

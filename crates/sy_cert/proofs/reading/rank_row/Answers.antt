use Rattle.std.proofs.Common.{◌∷◌, [], ap, sym, ◌∙◌, ◌≡◌, true, subst}
use Rattle.std.specs.Prelude.{codes}
use Rattle.std.specs.Fmt.{decimal}
use Rattle.sy_cert.specs.Rows.{is_name}
use Rattle.sy_cert.specs.Faults.{HasShape}
use Rattle.sy_cert.proofs.RowLines.{rank_unwritten}
use Rattle.sy_cert.proofs.reading.rank_row.Goals as goal

pub returns-in-Ok-clause-ok : goal.returns-in-Ok-clause-ok
returns-in-Ok-clause-ok c version =
    let line = c.in-Some.ensures.some (codes "rank") in
    let relay = c.in-Ok.ensures.ok in
    let rank = c.in-Some-number.ensures.some in
    record {
      is_row = (subst (λ r. is_name r ≡ true) (sym relay) line.relay_is, rank.0);
      words_are = ap (λ r. codes "rank" ∷ r ∷ decimal c.in-Some-number.rank ∷ []) relay
          ∙ ap (λ w. codes "rank" ∷ c.in-Some.line.relay.now ∷ w ∷ []) (sym rank.1) ∙ sym line.whole;
    }

pub returns-in-None-number-clause-err : goal.returns-in-None-number-clause-err
returns-in-None-number-clause-err c version =
    let line = c.in-Some.ensures.some (codes "rank") in (
      HasShape.rank_line c.in-Some.line.relay.now c.in-Some.line.number.now line,
      rank_unwritten version _ c.in-Some.line.relay.now c.in-Some.line.number.now line c.in-None-number.ensures.none,
    )

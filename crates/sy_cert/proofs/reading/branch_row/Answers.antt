use Rattle.std.proofs.Common.{◌∷◌, [], ap, sym, ◌∙◌, ◌≡◌, true, subst}
use Rattle.std.specs.Prelude.{codes}
use Rattle.std.specs.Fmt.{decimal}
use Rattle.sy_cert.specs.Rows.{is_name}
use Rattle.sy_cert.specs.Faults.{HasShape}
use Rattle.sy_cert.proofs.RowLines.{branch_unwritten, no_branch}
use Rattle.sy_cert.proofs.reading.branch_row.Goals as goal

pub returns-in-Ok-clause-ok : goal.returns-in-Ok-clause-ok
returns-in-Ok-clause-ok c =
    let line = c.in-Some.ensures.some (codes "branch") in
    let relay = c.in-Ok.ensures.ok in
    let port = c.in-Some-port.ensures.some in
    record {
      is_row = (c.if-version-ne-BRANCH_VERSION.false, subst (λ r. is_name r ≡ true) (sym relay) line.relay_is, port.0);
      words_are = ap (λ r. codes "branch" ∷ r ∷ decimal c.in-Some-port.port ∷ []) relay
          ∙ ap (λ w. codes "branch" ∷ c.in-Some.line.relay.now ∷ w ∷ []) (sym port.1) ∙ sym line.whole;
    }

pub returns-in-None-port-clause-err : goal.returns-in-None-port-clause-err
returns-in-None-port-clause-err c =
    let line = c.in-Some.ensures.some (codes "branch") in (
      HasShape.branch_line c.in-Some.line.relay.now c.in-Some.line.number.now c.if-version-ne-BRANCH_VERSION.false line,
      branch_unwritten c.args.version _ c.in-Some.line.relay.now c.in-Some.line.number.now line c.in-None-port.ensures.none,
    )

pub returns-then-version-ne-BRANCH_VERSION-clause-err : goal.returns-then-version-ne-BRANCH_VERSION-clause-err
returns-then-version-ne-BRANCH_VERSION-clause-err c = no_branch c.args.version _ c.if-version-ne-BRANCH_VERSION.true

use Rattle.std.proofs.Common.{◌∷◌, ◌++◌, [], ap, append-nil, append_assoc, subst, sym, ◌∙◌}
use Rattle.sy_cert.specs.declared.kinds.Kind.TheVariants as kinds
use Rattle.sy_cert.specs.Rows.{IsRow, last_kind}
use Rattle.sy_checker.specs.internal.Certifying.{AreShaped}
use Rattle.sy_site.proofs.lemmas.sites.More.{nothing}
use Rattle.sy_checker.proofs.Shaped.{last_more}
use Rattle.sy_checker.proofs.certifying.certificate_of.Goals as goal

pub push_row-requires : goal.push_row-requires
push_row-requires c =
    let shaped = subst (AreShaped c.args.version (last_kind c.loop-row.certificate.rows)) c.in-Some.ensures.steps.0 c.loop-row.invariant.shaped in
    record {
      shape = λ range. subst (λ v. IsRow v c.in-Some.row) (sym c.loop-row.invariant.version) (shaped.0 range);
      place = shaped.1;
    }

pub loop-row-init : goal.loop-row-init
loop-row-init c =
    let rest = c.into_iter-row-iterator.result.rest.items in
    record {
      version = c.new-certificate.ensures.version;
      whole = ap (λ l. l ++ rest) c.new-certificate.ensures.rows;
      shaped = subst (λ l. AreShaped c.args.version (last_kind l) rest) (sym c.new-certificate.ensures.rows)
          (subst (AreShaped c.args.version kinds.Cert) (sym c.into_iter-row-iterator.ensures.into_iter_gives.0) c.requires.shaped);
    }

pub loop-row-preserved : goal.loop-row-preserved
loop-row-preserved c =
    let rows = c.loop-row.certificate.rows in
    let rest = c.next.new.self.rest.items in
    let shaped = subst (AreShaped c.args.version (last_kind rows)) c.in-Some.ensures.steps.0 c.loop-row.invariant.shaped in
    record {
      version = c.in_ok-push_row.ensures.version ∙ c.loop-row.invariant.version;
      whole = ap (λ l. l ++ rest) c.in_ok-push_row.ensures.rows ∙ append_assoc rows (c.in-Some.row ∷ []) rest
          ∙ ap (λ l. rows ++ l) (sym c.in-Some.ensures.steps.0) ∙ c.loop-row.invariant.whole;
      shaped = subst (λ l. AreShaped c.args.version (last_kind l) rest) (sym c.in_ok-push_row.ensures.rows)
          (subst (λ k. AreShaped c.args.version k rest) (sym (last_more kinds.Cert rows c.in-Some.row)) shaped.2);
    }

pub returns-clause-rows : goal.returns-clause-rows
returns-clause-rows c =
    let rows = c.loop-row.certificate.rows in
    let rest = c.loop-row.row-iterator.rest.items in
    let none = nothing rest (sym c.loop-row.row-iterator.rest.ok.0 ∙ c.in-None.ensures.steps.0) in
    sym (append-nil rows) ∙ ap (λ l. rows ++ l) (sym none) ∙ c.loop-row.invariant.whole ∙ c.into_iter-row-iterator.ensures.into_iter_gives.0

pub returns-clause-version : goal.returns-clause-version
returns-clause-version c = c.loop-row.invariant.version

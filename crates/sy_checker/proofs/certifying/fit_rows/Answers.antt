use Rattle.std.proofs.Common.{subst}
use Rattle.std.specs.Prelude.{Contains}
use Rattle.sy_fit.specs.Fit.{AreFit}
use Rattle.sy_checker.proofs.certifying.fit_rows.Goals as goal

pub rows_of_classes-requires : goal.rows_of_classes-requires
rows_of_classes-requires c = record {
  protected = λ class there. (c.in_ok-classes.ensures.member class).0 (subst (λ l. Contains l class) c.as_slice.ensures.value there);
}

pub returns-clause-ok : goal.returns-clause-ok
returns-clause-ok c = record {
  classes = c.in_ok-classes.classes.items;
  protected = c.in_ok-classes.ensures;
  fit = subst (λ l. AreFit c.args.site.now l c.in_ok-rows.rows.items) c.as_slice.ensures.value c.in_ok-rows.ensures.ok;
}

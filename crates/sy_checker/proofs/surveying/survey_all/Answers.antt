use Rattle.std.proofs.Common.{subst, sym}
use Rattle.std.specs.Prelude.{Contains}
use Rattle.sy_checker.proofs.Reporting.{survey_as}
use Rattle.sy_checker.proofs.surveying.survey_all.Goals as goal

pub survey_of-requires : goal.survey_of-requires
survey_of-requires c = record {
  protected = λ class there. (c.in_ok-classes.ensures.member class).0 (subst (λ l. Contains l class) c.as_slice.ensures.value there);
}

pub returns : goal.returns
returns c =
    survey_as c.args.site.now (Contains c.as_slice.result.now) c.in_ok-groups.groups.items c.in_ok-groups.ensures
    (λ class is. subst (λ l. Contains l class) (sym c.as_slice.ensures.value) ((c.in_ok-classes.ensures.member class).1 is))

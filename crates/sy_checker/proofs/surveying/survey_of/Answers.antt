use Rattle.std.proofs.Common.{[], subst, sym, take}
use Rattle.std.specs.Prelude.{Contains}
use Rattle.std.proofs.lemmas.List.{take_all}
use Rattle.std.proofs.lemmas.List.Elements.{Contains-get_or}
use Rattle.sy_checker.specs.Survey.{IsSurveyOf}
use Rattle.sy_flows.specs.Walks.{AreWalks}
use Rattle.sy_fit.proofs.Guarded.{take_next}
use Rattle.sy_checker.proofs.Reporting.{survey_first, survey_more}
use Rattle.sy_flows.proofs.Walked.{no_walks}
use Rattle.sy_checker.proofs.surveying.survey_of.Goals as goal

pub push_next-requires : goal.push_next-requires
push_next-requires c = record {
  firm = c.in_ok-firm.ensures;
  walks = c.loop-class.invariant.1;
  protected = c.requires.protected c.class-item.result
      (subst (Contains c.args.classes.now) (sym c.class-item.is)
      (Contains-get_or c.args.classes.now c.loop-class.class-index c.class-item.result c.loop-class-test.true));
}

pub loop-class-init : goal.loop-class-init
loop-class-init c = (
  subst (IsSurveyOf c.args.site.now (Contains [])) (sym c.nothing_gathered-found.ensures) (survey_first c.args.site.now),
  subst (AreWalks c.args.site.now) (sym c.new-walks.ensures.items) (no_walks c.args.site.now),
)

pub loop-class-preserved : goal.loop-class-preserved
loop-class-preserved c =
    let site = c.args.site.now in
    let before = take c.loop-class.class-index c.args.classes.now in (
      subst (λ l. IsSurveyOf site (Contains l) c.push_next.new.found.groups.items)
          (take_next c.args.classes.now c.loop-class.class-index c.class-item.result c.loop-class-test.true c.class-item.is)
          (survey_more site before c.class-item.result c.loop-class.found.groups.items c.push_next.new.found.groups.items c.loop-class.invariant.0
          c.in_ok-push_next.ensures.reports c.in_ok-push_next.ensures.reported),
      c.in_ok-push_next.ensures.walks,
    )

pub returns : goal.returns
returns c =
    subst (λ l. IsSurveyOf c.args.site.now (Contains l) c.loop-class.found.groups.items)
    (take_all c.loop-class.class-index c.args.classes.now c.loop-class-test.false) c.loop-class.invariant.0

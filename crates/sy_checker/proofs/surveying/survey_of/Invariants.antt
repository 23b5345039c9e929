use Rattle.std.proofs.Common.{take}
use Rattle.std.specs.Prelude.{Contains}
use Rattle.sy_checker.specs.Survey.{IsSurveyOf}
use Rattle.sy_flows.specs.Walks.{AreWalks}
use Rattle.sy_checker.proofs.surveying.survey_of.Given as goal

abbrev pub invariant-loop-class : goal.invariant-loop-class
invariant-loop-class l = IsSurveyOf l.site (Contains (take l.class-index l.classes)) l.found.groups.items × AreWalks l.site l.walks.items

-- All that is found in a site, as a text.
use Rattle.std.specs.Prelude.{ℕ, List}
use Rattle.sy_site.specs.Sites.{Site}
use Rattle.sy_checker.specs.Survey.{IsSurvey}
use Rattle.sy_checker.specs.declared.kinds.groups.Group.{Group}
use Rattle.sy_findings.specs.Checks.{IsTally, IsTallyInWords}

-- the text tells all that is found in the site
pub record IsSurveyed (site : Site) (text : List ℕ) : Type 0 where
  pub groups : List Group
  pub is_survey : IsSurvey site groups
  pub is_tally : IsTally site groups text

-- the same with words on each
pub record IsSurveyedInWords (site : Site) (text : List ℕ) : Type 0 where
  pub groups : List Group
  pub is_survey : IsSurvey site groups
  pub is_tally : IsTallyInWords site groups text

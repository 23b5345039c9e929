-- The text of a site file, part by part.
use Rattle.std.specs.Prelude.{◌≡◌, ℕ, List, ◌++◌, flat_map}
use Rattle.sy_survey.specs.Surveys.{site_text, spare_line}

-- a text with lines of spare actions behind it
pub record AddsSpares (before after : List ℕ) : Type 0 where
  pub spares : List ℕ
  pub after_is : after ≡ before ++ flat_map spare_line spares

pub record IsSiteText (selector : List ℕ) (input action : ℕ) (text : List ℕ) : Type 0 where
  pub spares : List ℕ
  pub text_is : text ≡ site_text selector input action spares

-- Archives that were met for classes before: each entry leads there by the course of such a class, which others share.
use Rattle.std.specs.Prelude.{ℕ, Bool, ◌==◌, ◌&&◌, Contains, List}
use Rattle.std.specs.List.{list_any}
use Rattle.sy_wire.specs.declared.class.Class.{Class}
use Rattle.sy_site.specs.declared.site.SiteAction.{SiteAction}
use Rattle.sy_site.specs.declared.site.SiteInput.{SiteInput}
use Rattle.sy_site.specs.Sites.{Site, same_action}
use Rattle.sy_site.specs.machine.Reach.{LeadsTo}
use Rattle.sy_checker.specs.declared.course.Course.{Course}
use Rattle.sy_checker.specs.declared.archives.met.Met.{Met}
use Rattle.sy_checker.specs.internal.Course.{IsCourseAt}

abbrev pub met_at : ℕ → SiteAction → Met
met_at place archive = record { place = place; archive = archive }

-- the same archive by the same course
abbrev pub same_met : Met → Met → Bool
same_met a b = a.place == b.place && same_action a.archive b.archive

-- it is among them
abbrev pub is_met : List Met → ℕ → SiteAction → Bool
is_met met place archive = list_any (same_met (met_at place archive)) met

-- At this place stands the course of some class, by which each entry leads to the archive.
pub record IsMet (site : Site) (courses : List Course) (met : Met) : Type 0 where
  pub class : Class
  pub course : IsCourseAt site class courses met.place
  pub leads : (entry : SiteInput) → Contains site.entries entry → LeadsTo site class met.archive entry

abbrev pub AreMet : Site → List Course → List Met → Type 0
AreMet site courses met = (m : Met) → Contains met m → IsMet site courses m

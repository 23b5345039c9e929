-- Courses of which a greater severity is seen to be clean.
use Rattle.std.proofs.Common.{◌≡◌, ℕ, List, Some, refl, sym, subst, ◌∙◌, inl, inr}
use Rattle.std.specs.Prelude.{slice_get}
use Rattle.std.proofs.lemmas.Bool.{cases_eq}
use Rattle.sy_wire.specs.declared.class.Class.{Class}
use Rattle.sy_site.specs.Sites.{Site}
use Rattle.sy_site.specs.machine.Lawful.{IsLawful}
use Rattle.sy_checker.specs.declared.course.Course.{Course}
use Rattle.sy_checker.specs.internal.Course.{AreClean, AreCourses, AreKept, IsCourse, IsCourseAt, IsRaised}
use Rattle.sy_flows.proofs.Alike.{alike, one_value, turned}
use Rattle.sy_checker.proofs.Courses.{through}
use Rattle.sy_checker.proofs.Cleaner.{clean_as}

raised : (site : Site) → IsLawful site → (class other : Class) (course : Course) → IsCourse site class course → AreClean site class
    → IsCourse site other course → IsCourse site other (record course { severity = class.severity })
raised site law class other course own clean is =
    let both = alike site other class course.flows.lists is.flows.lists own.flows.lists in
    record {
      flows = is.flows;
      spread = is.spread;
      reached = is.reached;
      every = is.every;
      ranks = is.ranks;
      many = is.many;
      numbers = is.numbers;
      leads = is.leads;
      clean = λ third like low. clean_as site law third class (through site third other class (turned site other third like) both) low clean;
    }

module _ (site : Site) (law : IsLawful site) (class : Class) (old new : List Course) (place : ℕ) (rises : IsRaised old new place class.severity)
    (at : IsCourseAt site class old place) (clean : AreClean site class) where
  -- the course at that place
  raised_here : (other : Class) → IsCourse site other at.course → IsCourseAt site other new place
  raised_here other is = record {
    course = record at.course { severity = class.severity };
    stands = rises.here at.course at.stands;
    is = raised site law class other at.course at.is clean is;
  }

  pub raised_at : IsCourseAt site class new place
  raised_at = raised_here class at.is

  pub raised_kept : AreKept site old new
  raised_kept other k found = elim (cases_eq k place) [
    | inl same ↦
        (let here : slice_get old place ≡ Some found.course = subst (λ n. slice_get old n ≡ Some found.course) same found.stands in
        subst (IsCourseAt site other new) (sym same)
        (raised_here other (subst (IsCourse site other) (one_value (sym here ∙ at.stands)) found.is)))
    | inr apart ↦ record { course = found.course; stands = rises.others k apart ∙ found.stands; is = found.is }
  ]

  pub raised_courses : AreCourses site old → AreCourses site new
  raised_courses are k course stands = elim (cases_eq k place) [
    | inl same ↦
        (let here : slice_get new place ≡ Some course = subst (λ n. slice_get new n ≡ Some course) same stands in
        (class, subst (IsCourse site class) (one_value (sym raised_at.stands ∙ here)) raised_at.is))
    | inr apart ↦ are k course (sym (rises.others k apart) ∙ stands)
  ]

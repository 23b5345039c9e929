-- Classes that execute the same of each list have the same course.
use Rattle.std.proofs.Common.{[], ◌≡◌, ℕ, true, ◌<◌, List, ◌∷◌, ◌++◌, length, get_or, Option, refl, sym, subst, ◌∙◌, arith, inl, inr}
use Rattle.std.proofs.lemmas.Option.{slice_get_read, slice_get_within}
use Rattle.sy_wire.specs.declared.class.Class.{Class}
use Rattle.sy_rules.specs.declared.lists.occurrence.Occurrence.TheVariants as occurrence
use Rattle.sy_board.specs.relay.Spares.{Scope}
use Rattle.sy_site.specs.declared.site.SiteInput.{SiteInput}
use Rattle.sy_site.specs.Sites.{Site, plan_at}
use Rattle.sy_site.specs.machine.Lawful.{IsLawful}
use Rattle.sy_site.specs.machine.Reach.{list_of}
use Rattle.sy_site.specs.machine.Soundness.{AreRanks}
use Rattle.sy_checker.specs.declared.course.Course.{Course}
use Rattle.sy_flows.specs.declared.flows.executed.Executed.{Executed}
use Rattle.sy_flows.specs.declared.flows.executed.Executed.TheVariants as executed
use Rattle.sy_flows.specs.declared.flows.SiteFlows.{SiteFlows}
use Rattle.sy_flows.specs.declared.reach.Origin.{Origin}
use Rattle.sy_flows.specs.internal.Alike.{AreAlike}
use Rattle.sy_checker.specs.internal.Course.{AreCourses, IsCourse, IsCourseAt, IsSameAt}
use Rattle.sy_flows.specs.Flows.{AreSame, AreSiteFlows, is_used}
use Rattle.sy_flows.specs.declared.lists.InnerList.{InnerList}
use Rattle.sy_fit.specs.Fit.{IsInner}
use Rattle.sy_checker.specs.internal.Inner.{AreNumbers, number_at}
use Rattle.sy_checker.specs.internal.Loops.{rank_at}
use Rattle.sy_flows.specs.Search.{IsSpread}
use Rattle.sy_fit.proofs.Followed.{posts_used}
use Rattle.sy_flows.proofs.Led.{leads_as}
use Rattle.sy_flows.proofs.Rooted.{last_place, stood}
use Rattle.sy_flows.proofs.There.{reach_there}
use Rattle.sy_flows.proofs.Alike.{alike, every_to, firm_to, flows_as, leads_by, list_used, one_value, origin_to, posts_to, site_hops_to, turned}

pub through : (site : Site) (one other third : Class) → AreAlike site one other → AreAlike site other third → AreAlike site one third
through site one other third first second which relay list number is used =
    let a = first which relay list number is used in
    let b = second which relay list number is used in
    (λ does. b.0 (a.0 does), λ does. a.1 (b.1 does))

-- a list that posts lead to
module _ (site : Site) (law : IsLawful site) (one other : Class) (same : AreAlike site one other) where
  inner_to : (inner : InnerList) → IsInner site one inner → IsInner site other inner
  inner_to inner is = record {
    input = is.input;
    at = is.at;
    reached = firm_to site law one other same is.input is.reached;
    posted = posts_to site law one other same executed.Firm Scope.Firm (λ r l n is does. does) (λ r l n is does. does) inner.relay
        (subst (λ r. is_used (plan_at site r) (list_of site is.input) ≡ true) is.at
        (list_used site is.input (reach_there site law one Scope.Firm is.input is.reached))) is.posted;
  }

-- both ways
module _ (site : Site) (law : IsLawful site) (one other : Class) (same : AreAlike site one other) where
  spread_to : (which : Executed) (start found : List SiteInput) (origins : List (Option Origin)) → IsSpread site one which start found origins
      → IsSpread site other which start found origins
  spread_to which start found origins spread = record {
    there = spread.there;
    starts = spread.starts;
    closed = λ from to has leads.
        spread.closed from to has
        (record {
          number = leads.number;
          leads = leads_by site law other one (turned site one other same) which from leads.number to (spread.there from has) leads.leads;
        });
    rooted = record {
      many = spread.rooted.many;
      each = λ place to origin here from.
          origin_to site law one other same which start found spread.there place to origin (spread.rooted.each place to origin here from);
    };
  }

  ranks_to : (rank : ℕ → ℕ) → AreRanks site one rank → AreRanks site other rank
  ranks_to rank ranks = record {
    falls = λ from to number reach goes.
        let before = every_to site law other one (turned site one other same) from reach in
        ranks.falls from to number before
        (leads_by site law other one (turned site one other same) executed.Every from number to (reach_there site law one Scope.Every from before) goes);
  }

  numbers_to : (number : ℕ → ℕ → ℕ) → AreNumbers site one number → AreNumbers site other number
  numbers_to number numbers inner to is (post, does) =
      let back = turned site one other same in
      let before = inner_to site law other one back inner is in
      let used : is_used (plan_at site inner.relay) inner.list ≡ true = posts_used site one Scope.Firm law inner.relay before.posted in
      numbers inner to before (post, (back executed.Firm inner.relay inner.list post (occurrence.Post to) used).0 does)

-- A course is that of a class which executes the same.
pub course_as : (site : Site) → IsLawful site → (one other : Class) (course : Course) (flows : SiteFlows) → IsCourse site one course
    → AreSiteFlows site other flows → AreSame course.flows.lists flows → IsCourse site other course
course_as site law one other course flows is are same =
    let own = flows_as site other course.flows.lists flows same are in
    let both = alike site one other course.flows.lists is.flows.lists own in
    let back = turned site one other both in
    record {
      flows = record {
        lists = own;
        every = site_hops_to site law one other both executed.Every course.flows.every back is.flows.every;
        firm = site_hops_to site law one other both executed.Firm course.flows.firm back is.flows.firm;
      };
      spread = spread_to site law one other both executed.Firm site.entries course.found.inputs.items course.found.origins.items is.spread;
      reached = λ x. (
        λ has. firm_to site law one other both x ((is.reached x).0 has),
        λ reach. (is.reached x).1 (firm_to site law other one back x reach),
      );
      every = λ x. (
        λ has. every_to site law one other both x ((is.every x).0 has),
        λ reach. (is.every x).1 (every_to site law other one back x reach),
      );
      ranks = ranks_to site law one other both (rank_at course.ranks.items) is.ranks;
      many = is.many;
      numbers = numbers_to site law one other both (number_at course.numbers.items) is.numbers;
      leads = leads_as site one other both course.leads.items is.leads;
      clean = λ third like low. is.clean third (through site one other third both like) low;
    }

-- ---- the courses so far
pub no_courses : (site : Site) → AreCourses site []
no_courses site place course is = let low = slice_get_within [] place course is in absurd (omega (arith, low))

pub more_courses : (site : Site) (class : Class) (courses : List Course) (course : Course) → AreCourses site courses → IsCourse site class course
    → AreCourses site (courses ++ course ∷ [])
more_courses site class courses course are is place x stands = elim (stood courses course place x stands) [
  | inl before ↦ are place x before
  | inr last ↦ (class, subst (IsCourse site class) (sym last.1) is)
]

pub last_course : (site : Site) (class : Class) (courses : List Course) (course : Course) → IsCourse site class course
    → IsCourseAt site class (courses ++ course ∷ []) (length courses)
last_course site class courses course is = record { course = course; stands = last_place courses course; is = is }

pub same_course_at : (site : Site) → IsLawful site → (class : Class) (courses : List Course) (flows : SiteFlows) (place : ℕ) → AreCourses site courses
    → AreSiteFlows site class flows → IsSameAt courses flows place → IsCourseAt site class courses place
same_course_at site law class courses flows place are own at =
    let before = are place at.course at.stands in
    record {
      course = at.course;
      stands = at.stands;
      is = course_as site law before.0 class at.course flows before.1 own at.same;
    }

-- the one that is read there
pub course_read : (site : Site) (class : Class) (courses : List Course) (place : ℕ) (x : Course) → IsCourseAt site class courses place
    → x ≡ get_or courses place x → IsCourse site class x
course_read site class courses place x at is =
    let low = slice_get_within courses place at.course at.stands in
    let here = slice_get_read courses (length courses) place x refl low is in
    subst (IsCourse site class) (one_value (sym at.stands ∙ here)) at.is

pub course_within : (site : Site) (class : Class) (courses : List Course) (place : ℕ) → IsCourseAt site class courses place → place < length courses
course_within site class courses place at = slice_get_within courses place at.course at.stands

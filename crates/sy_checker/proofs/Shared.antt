-- What was met for a class holds for those with its course.
use Rattle.std.proofs.Common.{◌≡◌, ℕ, ◌<◌, ◌==◌, ◌&&◌, Bool, true, false, List, [], ◌∷◌, ◌++◌, length, map, refl, sym, subst, ◌∙◌, arith, inl, inr, eqb-true}
use Rattle.std.specs.List.{list_all}
use Rattle.std.specs.Prelude.{Contains, OnOk, Result, Ok, Err, slice_get}
use Rattle.std.proofs.lemmas.Bool.{false≢true}
use Rattle.std.proofs.lemmas.List.Elements.{Contains-append_cases, Contains-push_cases}
use Rattle.std.proofs.lemmas.Map.Views.{Contains-from_any}
use Rattle.std.proofs.lemmas.Option.{slice_get_within}
use Rattle.sy_wire.specs.declared.class.Class.{Class}
use Rattle.sy_site.specs.declared.site.SiteAction.{SiteAction}
use Rattle.sy_site.specs.declared.site.SiteInput.{SiteInput}
use Rattle.sy_site.specs.Sites.{Site, archives, same_action, plan_at}
use Rattle.sy_site.specs.machine.Lawful.{IsInput, IsLawful}
use Rattle.sy_site.specs.machine.Reach.{ListLeadsTo, leads_on, posts_on, writes, list_of}
use Rattle.sy_site.specs.machine.Soundness.{IsSoundFor}
use Rattle.sy_checker.specs.declared.course.Course.{Course}
use Rattle.sy_checker.specs.declared.archives.met.Met.{Met}
use Rattle.sy_checker.specs.internal.Checking.{AreSound}
use Rattle.sy_flows.specs.internal.Alike.{AreAlike}
use Rattle.sy_checker.specs.internal.Course.{AreClean, AreKept, IsCourseAt}
use Rattle.sy_flows.specs.Flows.{AreSiteFlows, is_used}
use Rattle.sy_checker.specs.internal.Inner.{number_at}
use Rattle.sy_checker.specs.internal.Loops.{rank_at}
use Rattle.sy_checker.specs.internal.Met.{AreMet, IsMet, is_met, met_at, same_met}
use Rattle.sy_flows.proofs.Alike.{alike, one_value}
use Rattle.sy_fit.proofs.Comparing.{from_map}
use Rattle.sy_flows.specs.declared.flows.executed.Executed.TheVariants as executed
use Rattle.sy_rules.specs.declared.lists.occurrence.Occurrence.TheVariants as occurrence
use Rattle.sy_checker.proofs.Numbering.{no_inner_loop}
use Rattle.sy_fit.proofs.Risky.{each_clean}
use Rattle.sy_flows.proofs.There.{entry_there, lead_there}
use Rattle.sy_flows.proofs.Used.{input_list, input_used, posted_used}

-- ---- which are among them

both : (a b : Bool) → (a && b) ≡ true → (a ≡ true) × (b ≡ true)
both true b e = (refl, e)
both false b e = absurd (false≢true e)

same_place : (a b : Met) → a.place ≡ b.place → a.archive.relay ≡ b.archive.relay → a.archive.action ≡ b.archive.action → a ≡ b
same_place a b p r n = λ i. record { place = p i; archive = record { relay = r i; action = n i } }

same_is : (a b : Met) → same_met a b ≡ true → a ≡ b
same_is a b e =
    let first = both (a.place == b.place) (same_action a.archive b.archive) e in
    let second = both (a.archive.relay == b.archive.relay) (a.archive.action == b.archive.action) first.1 in
    same_place a b (eqb-true a.place b.place first.0) (eqb-true a.archive.relay b.archive.relay second.0)
    (eqb-true a.archive.action b.archive.action second.1)

all_at : (test : SiteAction → Bool) (xs : List SiteAction) (x : SiteAction) → list_all test xs ≡ true → Contains xs x → test x ≡ true
all_at test [] x all (k, low, is) = absurd (omega (arith, low))
all_at test (y ∷ ys) x all (ℕ.zero, low, is) = subst (λ z. test z ≡ true) is (both (test y) (list_all test ys) all).0
all_at test (y ∷ ys) x all (ℕ.suc k, low, is) =
    all_at test ys x (both (test y) (list_all test ys) all).1 (k, omega (arith, low), is)

-- ---- classes of one course

leads_as : (site : Site) → IsLawful site → (one other : Class) → AreAlike site one other → (archive : SiteAction) (relay list : ℕ)
    → is_used (plan_at site relay) list ≡ true → ListLeadsTo site one archive relay list → ListLeadsTo site other archive relay list
leads_as site law one other same archive relay list used (writes number action does is) =
    writes number action ((same executed.Must relay list number (occurrence.Run action) used).0 does) is
leads_as site law one other same archive relay list used (leads_on number action to does leads later) =
    leads_on number action to ((same executed.Must relay list number (occurrence.Run action) used).0 does) leads
    (leads_as site law one other same archive to.relay (list_of site to)
    (of_input to (lead_there site one executed.Must relay list number to (record { action = action; does = does; leads = leads }))) later)
  where
    of_input : (x : SiteInput) → IsInput site x → is_used (plan_at site x.relay) (list_of site x) ≡ true
    of_input x there = input_used (plan_at site x.relay) (list_of site x) (input_list site x there)
leads_as site law one other same archive relay list used (posts_on number inner does later) =
    posts_on number inner ((same executed.Must relay list number (occurrence.Post inner) used).0 does)
    (leads_as site law one other same archive relay inner (posted_used site law relay list number inner does.found) later)

alike_at : (site : Site) (one other : Class) (courses : List Course) (place : ℕ) → IsCourseAt site one courses place
    → IsCourseAt site other courses place → AreAlike site one other
alike_at site one other courses place a b =
    alike site one other a.course.flows.lists a.is.flows.lists
    (subst (λ (c : Course). AreSiteFlows site other c.flows.lists) (one_value (sym b.stands ∙ a.stands)) b.is.flows.lists)

pub sound_by : (site : Site) → IsLawful site → (class : Class) (courses : List Course) (place : ℕ) (met : List Met) (named : List SiteAction)
    → IsCourseAt site class courses place → AreClean site class → AreMet site courses met → named ≡ archives site class
    → list_all (is_met met place) named ≡ true → IsSoundFor site class
sound_by site law class courses place met named at clean are is all = record {
  clean = λ input reach. each_clean site class input (clean input reach) (no_inner_loop site class (number_at at.course.numbers.items) at.is.numbers input reach);
  rank = rank_at at.course.ranks.items;
  ranks = at.is.ranks;
  leads = λ entry is_entry archive is_named.
      let there = Contains-from_any same_is (met_at place archive) met
      (all_at (is_met met place) named archive all (subst (λ l. Contains l archive) (sym is) is_named)) in
      let it = are (met_at place archive) there in
      leads_as site law it.class class (alike_at site it.class class courses place it.course at) archive entry.relay (list_of site entry)
      (input_used (plan_at site entry.relay) (list_of site entry) (input_list site entry (entry_there site law entry is_entry)))
      (it.leads entry is_entry);
}

-- ---- what is known so far

pub nothing_met : (site : Site) (courses : List Course) → AreMet site courses []
nothing_met site courses m (k, low, is) = absurd (omega (arith, low))

pub still_met : (site : Site) (old new : List Course) (met : List Met) → AreKept site old new → AreMet site old met → AreMet site new met
still_met site old new met kept are m there =
    let it = are m there in
    record { class = it.class; course = kept it.class m.place it.course; leads = it.leads }

pub more_met : (site : Site) (class : Class) (courses : List Course) (place : ℕ) (met : List Met) (named : List SiteAction)
    → IsCourseAt site class courses place → AreMet site courses met → named ≡ archives site class → IsSoundFor site class
    → AreMet site courses (met ++ map (met_at place) named)
more_met site class courses place met named at are is sound m there = elim (Contains-append_cases met (map (met_at place) named) m there) [
  | inl before ↦ are m before
  | inr new ↦
      (let found = from_map (met_at place) named m new in
      subst (IsMet site courses) found.2
      (record {
        class = class;
        course = at;
        leads = λ entry is_entry. sound.leads entry is_entry found.0 (subst (λ l. Contains l found.0) is found.1);
      }))
]

-- ---- courses that are put behind others

still : (old more : List Course) (j : ℕ) → j < length old → slice_get (old ++ more) j ≡ slice_get old j
still [] more j low = absurd (omega (arith, low))
still (x ∷ old) more ℕ.zero low = refl
still (x ∷ old) more (ℕ.suc j) low = still old more j (omega (arith, low))

pub course_kept : (site : Site) (courses more : List Course) → AreKept site courses (courses ++ more)
course_kept site courses more class place at = record {
  course = at.course;
  stands = still courses more place (slice_get_within courses place at.course at.stands) ∙ at.stands;
  is = at.is;
}

pub on_any : {A E : Type 0} (P : Type 0) → P → (r : Result A E) → OnOk r P
on_any P p (Ok x) = p
on_any P p (Err e) = record {}

-- ---- class after class

pub none_sound : (site : Site) → AreSound site []
none_sound site class (k, low, is) = absurd (omega (arith, low))

pub more_sound : (site : Site) (before : List Class) (class : Class) → AreSound site before → IsSoundFor site class
    → AreSound site (before ++ class ∷ [])
more_sound site before class are is other there = elim (Contains-push_cases before class other there) [
  | inl old ↦ are other old
  | inr same ↦ subst (IsSoundFor site) same is
]

-- What is clean for a class is clean for those that execute the same and aren't of a greater severity.
use Rattle.std.proofs.Common.{◌≡◌, ℕ, ◌<◌, ◌≤◌, true, refl, subst, sym, arith, inl, inr}
use Rattle.std.specs.Prelude.{Option}
use Rattle.sy_wire.specs.declared.class.Class.{Class}
use Rattle.sy_marks.specs.declared.marks.Flow.{Flow}
use Rattle.sy_rules.specs.PlanValue.{Plan}
use Rattle.sy_rules.specs.declared.lists.occurrence.Occurrence.{Occurrence}
use Rattle.sy_rules.specs.declared.lists.occurrence.Occurrence.TheVariants as occurrence
use Rattle.sy_rules.specs.Whole.{queue_for}
use Rattle.sy_board.specs.relay.Kinds.{MayDiscard, MayLose}
use Rattle.sy_board.specs.relay.Plans.{post_flow, queue_of_input}
use Rattle.sy_board.specs.relay.Spares.{Scope, own, posted}
use Rattle.sy_site.specs.declared.site.SiteInput.{SiteInput}
use Rattle.sy_site.specs.Sites.{Site, plan_at}
use Rattle.sy_site.specs.machine.Findings.{HoldsAt, Kind, MayRun}
use Rattle.sy_site.specs.machine.Lawful.{IsInput, IsLawful}
use Rattle.sy_site.specs.machine.Reach.{Follows, MayDo, list_of}
use Rattle.sy_flows.specs.declared.flows.executed.Executed.TheVariants as executed
use Rattle.sy_flows.specs.internal.Alike.{AreAlike}
use Rattle.sy_checker.specs.internal.Course.{AreClean}
use Rattle.sy_checker.specs.internal.Discarding.{DiscardsNone, IsCleanUpTo}
use Rattle.sy_flows.specs.Flows.{is_used}
use Rattle.sy_flows.proofs.Alike.{firm_to}
use Rattle.sy_fit.proofs.Followed.{followed_by, posts_used}
use Rattle.sy_flows.proofs.There.{reach_there}
use Rattle.sy_flows.proofs.Used.{input_list, input_used}

module _ (site : Site) (law : IsLawful site) (one other : Class) (same : AreAlike site one other)
    (discards_to : (relay queue : ℕ) → MayDiscard (plan_at site relay) one queue → MayDiscard (plan_at site relay) other queue) where
  follow_used : (input : SiteInput) → IsInput site input → {list : ℕ} → Follows site one Scope.Firm input list
      → is_used (plan_at site input.relay) list ≡ true
  follow_used input there follows = elim (followed_by site one Scope.Firm input follows) [
    | inl is ↦ subst (λ l. is_used (plan_at site input.relay) l ≡ true) (sym is)
        (input_used (plan_at site input.relay) (list_of site input) (input_list site input there))
    | inr posts ↦ posts_used site one Scope.Firm law input.relay posts
  ]

  does_to : (input : SiteInput) → IsInput site input → {list : ℕ} → Follows site one Scope.Firm input list → (number : ℕ) (is : Occurrence)
      → MayDo site one Scope.Firm input.relay list number is → MayDo site other Scope.Firm input.relay list number is
  does_to input there {list} follows number is does = (same executed.Firm input.relay list number is (follow_used input there follows)).0 does

  follow_to : (input : SiteInput) → IsInput site input → {list : ℕ} → Follows site one Scope.Firm input list → Follows site other Scope.Firm input list
  follow_to input there own = own
  follow_to input there (posted {list} {inner} number before does) =
      posted number (follow_to input there before) (does_to input there before number (occurrence.Post inner) does)

  lose_to : (relay queue : ℕ) (waits : Flow) → MayLose (plan_at site relay) one queue waits → MayLose (plan_at site relay) other queue waits
  lose_to relay queue waits (inl free) = inl free
  lose_to relay queue waits (inr (inl off)) = inr (inl off)
  lose_to relay queue waits (inr (inr (inl above))) = inr (inr (inl above))
  lose_to relay queue waits (inr (inr (inr may))) = inr (inr (inr (discards_to relay queue may)))

  run_to : (input : SiteInput) → IsInput site input → (action : ℕ) → MayRun site one input action → MayRun site other input action
  run_to input there action runs = record {
    list = runs.list;
    follows = follow_to input there runs.follows;
    number = runs.number;
    does = does_to input there runs.follows runs.number (occurrence.Run action) runs.does;
  }

  holds_to : (input : SiteInput) → IsInput site input → (kind : Kind) → (kind ≡ Kind.InnerLoop → ⊥) → HoldsAt site one input kind
      → HoldsAt site other input kind
  holds_to input there Kind.NotFull never holds = holds
  holds_to input there Kind.MarkOff never holds = holds
  holds_to input there Kind.MarkAboveSize never holds = holds
  holds_to input there Kind.Discards never holds = discards_to input.relay (queue_of_input (plan_at site input.relay) input.input) holds
  holds_to input there Kind.InnerQueue never holds =
      let plan = plan_at site input.relay in
      let queue = queue_for plan holds.to in
      record {
        list = holds.list;
        follows = follow_to input there holds.follows;
        number = holds.number;
        to = holds.to;
        does = does_to input there holds.follows holds.number (occurrence.Post holds.to) holds.does;
        loses = lose_to input.relay queue (post_flow plan queue) holds.loses;
      }
  holds_to input there Kind.GivesUp never (action, runs, retry, is) = (action, run_to input there action runs, retry, is)
  holds_to input there Kind.NoTarget never (action, runs, sends, none) = (action, run_to input there action runs, sends, none)
  holds_to input there Kind.Loop never holds = absurd holds
  holds_to input there Kind.InnerLoop never holds = absurd (never refl)
  holds_to input there (Kind.Unmet archive) never holds = absurd holds

  clean_by : AreClean site other → AreClean site one
  clean_by clean input reach kind never holds =
      clean input (firm_to site law one other same input reach) kind never (holds_to input (reach_there site law one Scope.Firm input reach) kind never holds)

pub clean_as : (site : Site) → IsLawful site → (one other : Class) → AreAlike site one other → one.severity ≤ other.severity → AreClean site other
    → AreClean site one
clean_as site law one other same low =
    clean_by site law one other same (λ relay queue may.
    let severe = may.severe in record { severe = omega (arith, severe, low); on = may.on; reached = may.reached })

-- The same of any severity, where no queue discards.
clean_kept : (site : Site) → IsLawful site → (one other : Class) → AreAlike site one other → one.severity < 8 → DiscardsNone site
    → AreClean site other → AreClean site one
clean_kept site law one other same small none = clean_by site law one other same (λ relay queue may. absurd (none relay queue one small may))

pub clean_for : (site : Site) → IsLawful site → (one other : Class) → AreAlike site one other → (severity : ℕ) → IsCleanUpTo site other severity
    → one.severity ≤ severity → AreClean site other → AreClean site one
clean_for site law one other same severity (inl is) low = clean_as site law one other same (omega (arith, is, low))
clean_for site law one other same severity (inr none) low =
    let is = none.0 in clean_kept site law one other same (omega (arith, is, low)) none.1

-- What may be wrong with occurrences.
use Rattle.std.proofs.Common.{◌≡◌, ℕ, ◌<◌, ◌≤◌, ◌+◌, Bool, true, false, ◌&&◌, ◌||◌, not, List, [], length, get_or, take, Option, Some, None, refl, sym, ap, subst, ◌∙◌, arith, inl, inr}
use Rattle.std.specs.Int.{bit_at}
use Rattle.std.specs.Prelude.{Contains, Decides, is_none, is_some, slice_get}
use Rattle.std.proofs.lemmas.Bool.{false≢true}
use Rattle.std.proofs.lemmas.List.{take_all, take_more}
use Rattle.std.proofs.lemmas.List.Elements.{Contains-push_cases}
use Rattle.sy_wire.specs.declared.class.Class.{Class}
use Rattle.sy_rules.specs.declared.lists.occurrence.Occurrence.{Occurrence}
use Rattle.sy_rules.specs.declared.lists.occurrence.Occurrence.TheVariants as occurrence
use Rattle.sy_rules.specs.declared.parameters.objects.Destination.{Destination}
use Rattle.sy_rules.specs.declared.parameters.objects.Destination.TheVariants as destination
use Rattle.sy_rules.specs.declared.parts.Action.{Action}
use Rattle.sy_board.specs.relay.Plans.{retry_at}
use Rattle.sy_board.specs.relay.Spares.{Scope, own}
use Rattle.sy_site.specs.declared.site.SiteInput.{SiteInput}
use Rattle.sy_site.specs.Sites.{Site, plan_at, target}
use Rattle.sy_site.specs.machine.Findings.{HoldsAt, IsForward, IsInnerLoop, Kind}
use Rattle.sy_site.specs.machine.Reach.{Follows, MayDo, list_of}
use Rattle.sy_flows.specs.declared.flows.executed.Executed.TheVariants as executed
use Rattle.sy_fit.specs.Fit.{IsClean}
use Rattle.sy_flows.specs.Flows.{IsSet}
use Rattle.sy_flows.specs.Members.{HasNoneFrom, IsNextIn}
use Rattle.sy_flows.specs.Hops.{AreLists}
use Rattle.sy_fit.specs.internal.Risks.{HasRisk, IsRisk, IsRisky, ListRisks, PostedRisks, is_forward}
use Rattle.sy_fit.specs.Risks.{kind_of}
use Rattle.sy_fit.specs.declared.kinds.Risk.{Risk}
use Rattle.sy_fit.specs.declared.kinds.Risk.TheVariants as risks
use Rattle.sy_fit.proofs.Followed.{followed_by, follows_posts}
use Rattle.sy_flows.proofs.Members.{all_members, more_members}

first_true : (a b : Bool) → (a && b) ≡ true → a ≡ true
first_true true b e = refl
first_true false b e = e

second_true : (a b : Bool) → (a && b) ≡ true → b ≡ true
second_true true b e = e
second_true false b e = absurd (false≢true e)

none_so : {A : Type 0} (x : Option A) → is_none x ≡ true → x ≡ None
none_so None e = refl
none_so (Some y) e = absurd (false≢true e)

some_so : (x : Option ℕ) → is_some x ≡ true → (y : ℕ) × (x ≡ Some y)
some_so None e = absurd (false≢true e)
some_so (Some y) e = (y, refl)

-- ---- forwards

sends_so : (a : Action) → is_forward (Some a) ≡ true → IsForward (Some a)
sends_so a e = go a.destination e
  where
    go : (d : Destination) → is_forward (Some (record { name = a.name; destination = d; retry = a.retry; resume_interval = a.resume_interval })) ≡ true
        → IsForward (Some (record { name = a.name; destination = d; retry = a.retry; resume_interval = a.resume_interval }))
    go (destination.Archive file) e = absurd (false≢true e)
    go (destination.Forward name port) e = tt

so_sends : (a : Action) → IsForward (Some a) → is_forward (Some a) ≡ true
so_sends a f = go a.destination f
  where
    go : (d : Destination) → IsForward (Some (record { name = a.name; destination = d; retry = a.retry; resume_interval = a.resume_interval }))
        → is_forward (Some (record { name = a.name; destination = d; retry = a.retry; resume_interval = a.resume_interval })) ≡ true
    go (destination.Archive file) f = absurd f
    go (destination.Forward name port) f = refl

forward_so : (a : Option Action) → is_forward a ≡ true → IsForward a
forward_so None e = absurd (false≢true e)
forward_so (Some a) e = sends_so a e

so_forward : (a : Option Action) → IsForward a → is_forward a ≡ true
so_forward None f = absurd f
so_forward (Some a) f = so_sends a f

-- ---- kinds 5 to 7

module _ (site : Site) (class : Class) (input : SiteInput) where
  kind_shown : (list : ℕ) → Follows site class Scope.Firm input list → (number : ℕ) (risk : Risk) (is : Occurrence)
      → MayDo site class Scope.Firm input.relay list number is → IsRisk site class input.relay risk is → HoldsAt site class input (kind_of risk)
  kind_shown list follows number risks.Post (occurrence.Post to) does e =
      record { list = list; follows = follows; number = number; to = to; does = does; loses = e }
  kind_shown list follows number risks.Post (occurrence.Run action) does e = absurd (false≢true e)
  kind_shown list follows number risks.GivesUp (occurrence.Post to) does e = absurd e
  kind_shown list follows number risks.GivesUp (occurrence.Run action) does e =
      let retry = some_so (retry_at (plan_at site input.relay) action) e in
      (action, record { list = list; follows = follows; number = number; does = does }, retry.0, retry.1)
  kind_shown list follows number risks.NoTarget (occurrence.Post to) does e = absurd e
  kind_shown list follows number risks.NoTarget (occurrence.Run action) does e =
      let found = slice_get (plan_at site input.relay).actions action in
      let to = target site (record { relay = input.relay; action = action }) in (
        action,
        record { list = list; follows = follows; number = number; does = does },
        forward_so found (first_true (is_forward found) (is_none to) e),
        none_so to (second_true (is_forward found) (is_none to) e),
      )

  pub shown : (list : ℕ) (risk : Risk) → Follows site class Scope.Firm input list → ListRisks site class input.relay list risk
      → HoldsAt site class input (kind_of risk)
  shown list risk follows r = kind_shown list follows r.number risk r.is r.does r.risky

  -- some list that is followed has the risk
  abbrev pub Shows : Risk → Type 0
  Shows risk = (list : ℕ) × Follows site class Scope.Firm input list × ListRisks site class input.relay list risk

  pub shows : (risk : Risk) → HoldsAt site class input (kind_of risk) → Shows risk
  shows risks.Post h = (h.list, h.follows, record { number = h.number; is = occurrence.Post h.to; does = h.does; risky = h.loses })
  shows risks.GivesUp (action, runs, retry, is) =
      (runs.list, runs.follows, record { number = runs.number; is = occurrence.Run action; does = runs.does; risky = ap is_some is })
  shows risks.NoTarget (action, runs, forward, none) =
      let to = target site (record { relay = input.relay; action = action }) in (
        runs.list,
        runs.follows,
        record {
          number = runs.number;
          is = occurrence.Run action;
          does = runs.does;
          risky = ap (λ b. b && is_none to) (so_forward (slice_get (plan_at site input.relay).actions action) forward) ∙ ap is_none none;
        },
      )

  -- the input's own list has it, or one that posts lead to
  pub own_shown : (risk : Risk) → ListRisks site class input.relay (list_of site input) risk → HoldsAt site class input (kind_of risk)
  own_shown risk r = shown (list_of site input) risk own r

  pub posted_shown : (risk : Risk) (b : Bool) → (ListRisks site class input.relay (list_of site input) risk → ⊥)
      → Decides b (PostedRisks site class input risk) → Decides b (HoldsAt site class input (kind_of risk))
  posted_shown risk b none d = (
    λ yes. (let r = d.0 yes in shown r.list risk (follows_posts site class Scope.Firm input own r.posted) r.risky),
    λ h. go (shows risk h),
  )
    where
      go : Shows risk → b ≡ true
      go (list, follows, r) = elim (followed_by site class Scope.Firm input follows) [
        | inl same ↦ absurd (none (subst (λ l. ListRisks site class input.relay l risk) same r))
        | inr posts ↦ d.1 (record { list = list; posted = posts; risky = r })
      ]

-- ---- one occurrence after another

module _ (site : Site) (class : Class) (relay list set : ℕ) (risk : Risk) where
  pub list_shown : (from number : ℕ) → IsSet site class executed.Firm relay list set → IsNextIn set from number
      → HasRisk site class relay list number risk → ListRisks site class relay list risk
  list_shown from number firm next h =
      record { number = number; is = h.is; does = firm.sound number h.is next.member h.there; risky = h.risky }

  abbrev pub IsSafeBelow : ℕ → Type 0
  IsSafeBelow most = (number : ℕ) → number < most → bit_at set number ≡ 1 → HasRisk site class relay list number risk → ⊥

  pub safe_first : IsSafeBelow 0
  safe_first number low r = absurd (omega (arith, low))

  pub safe_more : (from n : ℕ) → IsNextIn set from n → (HasRisk site class relay list n risk → ⊥) → IsSafeBelow from → IsSafeBelow (n + 1)
  safe_more from n next none before =
      more_members (λ k. bit_at set k ≡ 1 → HasRisk site class relay list k risk → ⊥) set from n next (λ k no yes r. no yes) before (λ yes r. none r)

  pub safe_all : (from : ℕ) → IsSet site class executed.Firm relay list set → HasNoneFrom set from → IsSafeBelow from
      → ListRisks site class relay list risk → ⊥
  safe_all from firm none safe r =
      all_members (λ k. bit_at set k ≡ 1 → HasRisk site class relay list k risk → ⊥) set from none (λ k no yes h. no yes) safe r.number
      (firm.whole r.number r.is r.does) (record { is = r.is; there = r.does.found; risky = r.risky })

-- ---- one list after another

module _ (site : Site) (class : Class) (relay : ℕ) (risk : Risk) where
  abbrev pub AreSafe : List ℕ → Type 0
  AreSafe lists = (list : ℕ) → Contains lists list → ListRisks site class relay list risk → ⊥

  pub none_risky : AreSafe []
  none_risky list (k, low, is) r = omega (arith, low)

  pub more_safe : (lists : List ℕ) (n d : ℕ) → n < length lists → AreSafe (take n lists) → (ListRisks site class relay (get_or lists n d) risk → ⊥)
      → AreSafe (take (n + 1) lists)
  more_safe lists n d low before none list is r =
      elim (Contains-push_cases (take n lists) (get_or lists n d) list (subst (λ l. Contains l list) (take_more lists n d low) is)) [
        | inl earlier ↦ before list earlier r
        | inr here ↦ none (subst (λ l. ListRisks site class relay l risk) (sym here) r)
      ]

pub posts_safe : (site : Site) (class : Class) (input : SiteInput) (risk : Risk) (lists : List ℕ) (n : ℕ)
    → AreLists site class executed.Firm input.relay (list_of site input) lists → length lists ≤ n → AreSafe site class input.relay risk (take n lists)
    → PostedRisks site class input risk → ⊥
posts_safe site class input risk lists n are all safe r =
    safe r.list (subst (λ l. Contains l r.list) (sym (take_all n lists all)) ((are.each r.list).1 r.posted)) r.risky

-- ---- all kinds

pub last_risk : (site : Site) (class : Class) (input : SiteInput) (b : Bool) → (HoldsAt site class input Kind.InnerQueue → ⊥)
    → (HoldsAt site class input Kind.GivesUp → ⊥) → Decides b (HoldsAt site class input Kind.NoTarget) → Decides b (IsRisky site class input)
last_risk site class input b no_post no_end d = (λ yes. (risks.NoTarget, d.0 yes), from)
  where
    from : IsRisky site class input → b ≡ true
    from (risks.Post, h) = absurd (no_post h)
    from (risks.GivesUp, h) = absurd (no_end h)
    from (risks.NoTarget, h) = d.1 h

pub all_clean : (site : Site) (class : Class) (input : SiteInput) → (HoldsAt site class input Kind.NotFull → ⊥)
    → (HoldsAt site class input Kind.MarkOff → ⊥) → (HoldsAt site class input Kind.MarkAboveSize → ⊥)
    → (HoldsAt site class input Kind.Discards → ⊥) → (IsRisky site class input → ⊥) → IsClean site class input
all_clean site class input a b d e risky Kind.NotFull asked h = a h
all_clean site class input a b d e risky Kind.MarkOff asked h = b h
all_clean site class input a b d e risky Kind.MarkAboveSize asked h = d h
all_clean site class input a b d e risky Kind.Discards asked h = e h
all_clean site class input a b d e risky Kind.InnerQueue asked h = risky (risks.Post, h)
all_clean site class input a b d e risky Kind.GivesUp asked h = risky (risks.GivesUp, h)
all_clean site class input a b d e risky Kind.NoTarget asked h = risky (risks.NoTarget, h)
all_clean site class input a b d e risky Kind.InnerLoop other h = other refl
all_clean site class input a b d e risky Kind.Loop asked h = h
all_clean site class input a b d e risky (Kind.Unmet archive) asked h = h

-- none of the kinds 1 to 7, and no list is met twice: none at all
pub each_clean : (site : Site) (class : Class) (input : SiteInput) → IsClean site class input → (IsInnerLoop site class input → ⊥)
    → (k : Kind) → HoldsAt site class input k → ⊥
each_clean site class input clean once Kind.NotFull h = clean Kind.NotFull (λ e. cc) h
each_clean site class input clean once Kind.MarkOff h = clean Kind.MarkOff (λ e. cc) h
each_clean site class input clean once Kind.MarkAboveSize h = clean Kind.MarkAboveSize (λ e. cc) h
each_clean site class input clean once Kind.Discards h = clean Kind.Discards (λ e. cc) h
each_clean site class input clean once Kind.InnerQueue h = clean Kind.InnerQueue (λ e. cc) h
each_clean site class input clean once Kind.GivesUp h = clean Kind.GivesUp (λ e. cc) h
each_clean site class input clean once Kind.NoTarget h = clean Kind.NoTarget (λ e. cc) h
each_clean site class input clean once Kind.InnerLoop h = once h
each_clean site class input clean once Kind.Loop h = h
each_clean site class input clean once (Kind.Unmet archive) h = h

not_inner : (risk : Risk) → kind_of risk ≡ Kind.InnerLoop → ⊥
not_inner risks.Post e = cc
not_inner risks.GivesUp e = cc
not_inner risks.NoTarget e = cc

pub clean_not_risky : (site : Site) (class : Class) (input : SiteInput) → IsClean site class input → IsRisky site class input → ⊥
clean_not_risky site class input clean (risk, h) = clean (kind_of risk) (not_inner risk) h

pub clean_by : (site : Site) (class : Class) (input : SiteInput) (b : Bool) → Decides b (IsRisky site class input)
    → ((IsRisky site class input → ⊥) → IsClean site class input) → Decides (not b) (IsClean site class input)
clean_by site class input true d so = (λ no. absurd (false≢true no), λ clean. absurd (clean_not_risky site class input clean (d.0 refl)))
clean_by site class input false d so = (λ yes. so (λ h. false≢true (d.1 h)), λ clean. refl)

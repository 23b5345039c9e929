-- What is put to classes, one thing after another, and all that is found.
use Rattle.std.proofs.Common.{◌≡◌, ℕ, ◌<◌, ◌≤◌, ◌+◌, List, [], ◌∷◌, ◌++◌, length, get_or, take, map, refl, sym, ap, subst, arith, inl, inr}
use Rattle.std.specs.Prelude.{Contains, Decides, ◌⊎◌, Option, Some, None, is_some, true}
use Rattle.std.proofs.lemmas.Bool.{false≢true}
use Rattle.std.proofs.lemmas.List.{take_all, take_more}
use Rattle.std.proofs.lemmas.List.Elements.{Contains-push_cases}
use Rattle.sy_wire.specs.declared.class.Class.{Class}
use Rattle.sy_board.specs.relay.Spares.{Scope}
use Rattle.sy_site.specs.declared.site.SiteAction.{SiteAction}
use Rattle.sy_site.specs.declared.site.SiteInput.{SiteInput}
use Rattle.sy_site.specs.Sites.{Site, archives, is_protected}
use Rattle.sy_site.specs.machine.Findings.{HoldsAt, IsChain, IsFinding, Kind as AnyKind, WayRow}
use Rattle.sy_site.specs.machine.Lawful.{IsLawful}
use Rattle.sy_site.specs.machine.Reach.{LeadsTo, ListLeadsTo, Reach, leads_on, list_of, posts_on, writes}
use Rattle.sy_site.specs.machine.Soundness.{IsSound}
use Rattle.sy_site.proofs.machine.Ways.{reached_by, way_to}
use Rattle.sy_site.specs.declared.finding.Kind.{Kind}
use Rattle.sy_site.specs.declared.finding.Kind.TheVariants as kind
use Rattle.sy_checker.specs.declared.kinds.groups.Group.{Group}
use Rattle.sy_checker.specs.internal.Leads.{IsLead}
use Rattle.sy_site.specs.Finding.{kind_of}
use Rattle.sy_fit.specs.Fit.{IsPath}
use Rattle.sy_checker.specs.Survey.{HasRanks, IsReportedOf, IsSurvey, IsSurveyOf, IsThere, Names}
use Rattle.sy_checker.specs.internal.Survey.{Among, AreHeld, IsHeld, IsNothing, IsUnmetBy, Pushes, Reports}
use Rattle.sy_checker.proofs.Complete.{without_findings}
use Rattle.sy_checker.proofs.Grouping.{none_there}

abbrev Facts : Type 1
Facts = SiteInput → Kind → Type 0

-- ---- one thing

pub push_reported : (site : Site) (class : Class) (input : SiteInput) (k : Kind) (P : Facts) (old new : List Group) → Pushes class input k old new
    → IsThere site class input k → ((i : SiteInput) (j : Kind) → P i j → (i ≡ input) × (j ≡ k)) → Reports site class P old new
push_reported site class input k P old new sets_cells there is = record {
  kept = sets_cells.kept;
  all = λ i j p. let e = is i j p in
      subst (λ z. Names new class z j) (sym e.0) (subst (λ z. Names new class input z) (sym e.1) sets_cells.pushed);
  only = λ c i j n. elim (sets_cells.only c i j n) [
    | inl before ↦ inl before
    | inr e ↦ inr (subst (λ z. IsThere site z i j) (sym e.0) (subst (λ z. IsThere site class z j) (sym e.1)
        (subst (λ z. IsThere site class input z) (sym e.2) there)))
  ];
  groups = sets_cells.groups;
}

pub none_reported : (site : Site) (class : Class) (P : Facts) (groups : List Group) → ((i : SiteInput) (j : Kind) → P i j → ⊥) → Reports site class P groups groups
none_reported site class P groups none = record {
  kept = λ c i j n. n;
  all = λ i j p. absurd (none i j p);
  only = λ c i j n. inl n;
  groups = λ are. are;
}

-- ---- one behind the other

pub both_reported : (site : Site) (class : Class) (P Q R : Facts) (old mid new : List Group) → Reports site class P old mid → Reports site class Q mid new
    → ((i : SiteInput) (j : Kind) → R i j → P i j ⊎ Q i j) → Reports site class R old new
both_reported site class P Q R old mid new first second parts = record {
  kept = λ c i j n. second.kept c i j (first.kept c i j n);
  all = λ i j r. elim (parts i j r) [
    | inl p ↦ second.kept class i j (first.all i j p)
    | inr q ↦ second.all i j q
  ];
  only = λ c i j n. elim (second.only c i j n) [
    | inl before ↦ first.only c i j before
    | inr there ↦ inr there
  ];
  groups = λ are. second.groups (first.groups are);
}

pub reported_as : (site : Site) (class : Class) (P Q : Facts) (old new : List Group) → Reports site class P old new
    → ((i : SiteInput) (j : Kind) → Q i j → P i j) → Reports site class Q old new
reported_as site class P Q old new reports from = record {
  kept = reports.kept;
  all = λ i j q. reports.all i j (from i j q);
  only = reports.only;
  groups = reports.groups;
}

-- ---- for each of a list

module _ {A : Type 0} (site : Site) (class : Class) (Q : A → Facts) (xs : List A) where
  pub more_reported : (n : ℕ) (d : A) (old mid new : List Group) → n < length xs → Reports site class (λ i j. Among (take n xs) (λ x. Q x i j)) old mid
      → Reports site class (Q (get_or xs n d)) mid new → Reports site class (λ i j. Among (take (n + 1) xs) (λ x. Q x i j)) old new
  more_reported n d old mid new low before here =
      both_reported site class (λ i j. Among (take n xs) (λ x. Q x i j)) (Q (get_or xs n d)) (λ i j. Among (take (n + 1) xs) (λ x. Q x i j)) old mid new
      before here
      (λ i j p. elim (Contains-push_cases (take n xs) (get_or xs n d) p.0 (subst (λ l. Contains l p.0) (take_more xs n d low) p.1)) [
        | inl earlier ↦ inl (p.0, earlier, p.2)
        | inr same ↦ inr (subst (λ x. Q x i j) (sym same) p.2)
      ])

  pub all_reported : (n : ℕ) (old new : List Group) → length xs ≤ n → Reports site class (λ i j. Among (take n xs) (λ x. Q x i j)) old new
      → Reports site class (λ i j. Among xs (λ x. Q x i j)) old new
  all_reported n old new all reports = subst (λ l. Reports site class (λ i j. Among l (λ x. Q x i j)) old new) (take_all n xs all) reports

-- ---- the kinds of an input

abbrev pub seven : List Kind
seven = kind.NotFull ∷ kind.MarkOff ∷ kind.MarkAboveSize ∷ kind.Discards ∷ kind.InnerQueue ∷ kind.GivesUp ∷ kind.NoTarget ∷ []

pub among_seven : (site : Site) (class : Class) (input : SiteInput) (j : Kind) → (j ≡ kind.InnerLoop → ⊥) → HoldsAt site class input (kind_of j)
    → Contains seven j
among_seven site class input kind.NotFull asked holds = (0, omega arith, refl)
among_seven site class input kind.MarkOff asked holds = (1, omega arith, refl)
among_seven site class input kind.MarkAboveSize asked holds = (2, omega arith, refl)
among_seven site class input kind.Discards asked holds = (3, omega arith, refl)
among_seven site class input kind.InnerQueue asked holds = (4, omega arith, refl)
among_seven site class input kind.GivesUp asked holds = (5, omega arith, refl)
among_seven site class input kind.NoTarget asked holds = (6, omega arith, refl)
among_seven site class input kind.InnerLoop other holds = absurd (other refl)
among_seven site class input kind.Loop asked holds = absurd holds
among_seven site class input (kind.Unmet archive) asked holds = absurd holds

pub held_among : (site : Site) (class : Class) (input i : SiteInput) (j : Kind) → AreHeld site class input i j
    → Among seven (λ k. IsHeld site class input k i j)
held_among site class input i j (same, asked, holds) = (j, among_seven site class input j asked holds, (same, refl, holds))

-- one of them, or a list that is met twice
pub held_or_looped : (site : Site) (class : Class) (input : SiteInput) (j : Kind) → HoldsAt site class input (kind_of j)
    → AreHeld site class input input j ⊎ IsHeld site class input kind.InnerLoop input j
held_or_looped site class input kind.NotFull holds = inl (refl, (λ e. cc), holds)
held_or_looped site class input kind.MarkOff holds = inl (refl, (λ e. cc), holds)
held_or_looped site class input kind.MarkAboveSize holds = inl (refl, (λ e. cc), holds)
held_or_looped site class input kind.Discards holds = inl (refl, (λ e. cc), holds)
held_or_looped site class input kind.InnerQueue holds = inl (refl, (λ e. cc), holds)
held_or_looped site class input kind.GivesUp holds = inl (refl, (λ e. cc), holds)
held_or_looped site class input kind.NoTarget holds = inl (refl, (λ e. cc), holds)
held_or_looped site class input kind.InnerLoop holds = inr (refl, refl, holds)
held_or_looped site class input kind.Loop holds = absurd holds
held_or_looped site class input (kind.Unmet archive) holds = absurd holds

pub is_there : (site : Site) (class : Class) (input : SiteInput) (k : Kind) → is_protected site class ≡ true → Reach site class Scope.Firm input
    → HoldsAt site class input (kind_of k) → IsThere site class input k
is_there site class input kind.NotFull asked at holds = let w = way_to site class input at in (w.0, record { protected = asked; found = (w.1, holds) })
is_there site class input kind.MarkOff asked at holds = let w = way_to site class input at in (w.0, record { protected = asked; found = (w.1, holds) })
is_there site class input kind.MarkAboveSize asked at holds = let w = way_to site class input at in (w.0, record { protected = asked; found = (w.1, holds) })
is_there site class input kind.Discards asked at holds = let w = way_to site class input at in (w.0, record { protected = asked; found = (w.1, holds) })
is_there site class input kind.InnerQueue asked at holds = let w = way_to site class input at in (w.0, record { protected = asked; found = (w.1, holds) })
is_there site class input kind.GivesUp asked at holds = let w = way_to site class input at in (w.0, record { protected = asked; found = (w.1, holds) })
is_there site class input kind.NoTarget asked at holds = let w = way_to site class input at in (w.0, record { protected = asked; found = (w.1, holds) })
is_there site class input kind.InnerLoop asked at holds = let w = way_to site class input at in (w.0, record { protected = asked; found = (w.1, holds) })
is_there site class input kind.Loop asked at holds = absurd holds
is_there site class input (kind.Unmet archive) asked at holds = absurd holds

-- ---- archives

led_by : (site : Site) (class : Class) (archive : SiteAction) (relay list : ℕ) (path : List ℕ) → IsPath site class archive relay list path
    → ListLeadsTo site class archive relay list
led_by site class archive relay list [] last = writes last.number last.action last.does last.writes
led_by site class archive relay list (number ∷ later) path = elim path [
  | inl post ↦ posts_on number post.0 post.1 (led_by site class archive relay post.0 later post.2)
  | inr forward ↦
      leads_on number forward.1.action forward.0 forward.1.does forward.1.leads
      (led_by site class archive forward.0.relay (list_of site forward.0) later forward.2)
]

pub lead_decides : (site : Site) (class : Class) (archive : SiteAction) (entry : SiteInput) (path : Option (List ℕ))
    → IsLead site class archive entry path → Decides (is_some path) (LeadsTo site class archive entry)
lead_decides site class archive entry None lacks = (λ e. absurd (false≢true e), λ leads. absurd (lacks leads))
lead_decides site class archive entry (Some path) is = (λ e. led_by site class archive entry.relay (list_of site entry) path is.0, λ leads. refl)

-- ---- class after class

pub reported_still : (site : Site) (class other : Class) (P : Facts) (old new : List Group) → Reports site other P old new → IsReportedOf site class old
    → IsReportedOf site class new
reported_still site class other P old new reports reported = record {
  kinds = λ input at k holds. reports.kept class input k (reported.kinds input at k holds);
  unmet = λ entry is archive named not. reports.kept class entry (kind.Unmet archive) (reported.unmet entry is archive named not);
  ranked = elim reported.ranked [
    | inl ranks ↦ inl ranks
    | inr loop ↦ inr (loop.0, reports.kept class loop.0 kind.Loop loop.1)
  ];
}

pub survey_first : (site : Site) → IsSurveyOf site (Contains []) []
survey_first site = record {
  only = λ class input k n. absurd (none_there n.group n.there);
  all = λ class is. absurd (none_there class is);
  are_groups = record {
    apart = λ i j d before low. absurd (omega (arith, low));
    filled = λ g there. absurd (none_there g there);
  };
}

pub survey_more : (site : Site) (classes : List Class) (class : Class) (old new : List Group) → IsSurveyOf site (Contains classes) old
    → Reports site class IsNothing old new → IsReportedOf site class new → IsSurveyOf site (Contains (classes ++ class ∷ [])) new
survey_more site classes class old new before reports reported = record {
  only = λ c input k n. elim (reports.only c input k n) [
    | inl had ↦ before.only c input k had
    | inr there ↦ there
  ];
  all = λ c is. elim (Contains-push_cases classes class c is) [
    | inl earlier ↦ reported_still site c class IsNothing old new reports (before.all c earlier)
    | inr same ↦ subst (λ z. IsReportedOf site z new) same reported
  ];
  are_groups = reports.groups before.are_groups;
}

pub survey_as : (site : Site) (Asked : Class → Type 0) (groups : List Group) → IsSurveyOf site Asked groups
    → ((class : Class) → is_protected site class ≡ true → Asked class) → IsSurvey site groups
survey_as site Asked groups survey asks = record {
  only = survey.only;
  all = λ class is. survey.all class (asks class is);
  are_groups = survey.are_groups;
}

-- all of one class
pub all_of : (site : Site) (class : Class) (old mid new : List Group)
    → Reports site class (λ i j. Reach site class Scope.Firm i × HoldsAt site class i (kind_of j)) old mid
    → HasRanks site class ⊎ ((input : SiteInput) × Names mid class input kind.Loop)
    → Reports site class (λ i j. Among site.entries (λ entry. Among (archives site class) (λ archive. IsUnmetBy site class entry archive i j))) mid new
    → IsReportedOf site class new
all_of site class old mid new first ranked second = record {
  kinds = λ input at k holds. second.kept class input k (first.all input k (at, holds));
  unmet = λ entry is archive named not. second.all entry (kind.Unmet archive) (entry, is, (archive, named, (refl, refl, not)));
  ranked = elim ranked [
    | inl ranks ↦ inl ranks
    | inr loop ↦ inr (loop.0, second.kept class loop.0 kind.Loop loop.1)
  ];
}

-- ---- nothing is found

-- the ranks fall along a chain, to its end
below_all : (site : Site) (class : Class) (ranks : HasRanks site class) (way : List WayRow) (end : SiteInput) → IsChain site class way end
    → (relay : ℕ) → Contains (map (λ (row : WayRow). row.input.relay) way) relay → ranks.0 end.relay < ranks.0 relay
below_all site class ranks [] end is relay there = absurd is
below_all site class ranks (row ∷ []) end (reach, goes) relay (ℕ.zero, low, is) =
    subst (λ r. ranks.0 end.relay < ranks.0 r) is (ranks.1.falls row.input end row.number reach goes)
below_all site class ranks (row ∷ []) end (reach, goes) relay (ℕ.suc n, low, is) = absurd (omega (arith, low))
below_all site class ranks (row ∷ next ∷ way) end (to, (reach, goes), same, more) relay (ℕ.zero, low, is) =
    let later = below_all site class ranks (next ∷ way) end more next.input.relay (0, omega arith, refl) in
    let first = ranks.1.falls row.input to row.number reach goes in
    let rank_same = ap ranks.0 same in
    subst (λ r. ranks.0 end.relay < ranks.0 r) is (omega (arith, later, first, rank_same))
below_all site class ranks (row ∷ next ∷ way) end (to, (reach, goes), same, more) relay (ℕ.suc n, low, is) =
    below_all site class ranks (next ∷ way) end more relay (n, omega (arith, low), is)

no_names : (class : Class) (input : SiteInput) (k : Kind) → Names [] class input k → ⊥
no_names class input k n = none_there n.group n.there

none_found : (site : Site) → IsSurvey site [] → (class : Class) (way : List WayRow) (input : SiteInput) (k : AnyKind)
    → IsFinding site class way input k → ⊥
none_found site survey class way input AnyKind.NotFull f =
    no_names class input kind.NotFull ((survey.all class f.protected).kinds input (reached_by site class way input f.found.0) kind.NotFull f.found.1)
none_found site survey class way input AnyKind.MarkOff f =
    no_names class input kind.MarkOff ((survey.all class f.protected).kinds input (reached_by site class way input f.found.0) kind.MarkOff f.found.1)
none_found site survey class way input AnyKind.MarkAboveSize f =
    no_names class input kind.MarkAboveSize
    ((survey.all class f.protected).kinds input (reached_by site class way input f.found.0) kind.MarkAboveSize f.found.1)
none_found site survey class way input AnyKind.Discards f =
    no_names class input kind.Discards ((survey.all class f.protected).kinds input (reached_by site class way input f.found.0) kind.Discards f.found.1)
none_found site survey class way input AnyKind.InnerQueue f =
    no_names class input kind.InnerQueue
    ((survey.all class f.protected).kinds input (reached_by site class way input f.found.0) kind.InnerQueue f.found.1)
none_found site survey class way input AnyKind.GivesUp f =
    no_names class input kind.GivesUp ((survey.all class f.protected).kinds input (reached_by site class way input f.found.0) kind.GivesUp f.found.1)
none_found site survey class way input AnyKind.NoTarget f =
    no_names class input kind.NoTarget ((survey.all class f.protected).kinds input (reached_by site class way input f.found.0) kind.NoTarget f.found.1)
none_found site survey class way input AnyKind.InnerLoop f =
    no_names class input kind.InnerLoop ((survey.all class f.protected).kinds input (reached_by site class way input f.found.0) kind.InnerLoop f.found.1)
none_found site survey class way input AnyKind.Loop f = elim (survey.all class f.protected).ranked [
  | inl ranks ↦
      (let below : ranks.0 input.relay < ranks.0 input.relay = below_all site class ranks way input f.found.chain input.relay f.found.met_before in
      omega (arith, below))
  | inr loop ↦ no_names class loop.0 kind.Loop loop.1
]
none_found site survey class way input (AnyKind.Unmet archive) f =
    let is = f.found.1 in
    no_names class input (kind.Unmet archive) ((survey.all class f.protected).unmet input is.is_entry archive is.named is.leads_not)

pub none_sound : (site : Site) → IsLawful site → (groups : List Group) → IsSurvey site groups → groups ≡ [] → IsSound site
none_sound site law groups survey none = without_findings site law (none_found site (subst (IsSurvey site) none survey))

pub sound_none : (site : Site) (groups : List Group) → IsSurvey site groups
    → ((class : Class) (way : List WayRow) (input : SiteInput) (k : AnyKind) → IsFinding site class way input k → ⊥) → groups ≡ []
sound_none site [] survey lacks = refl
sound_none site (group ∷ groups) survey lacks =
    let first = survey.are_groups.filled group (0, omega arith, refl) in
    let there = survey.only first.0 group.input group.kind (record { group = group; there = (0, omega arith, refl); is_of = refl; named = first.1 }) in
    absurd (lacks first.0 there.0 group.input (kind_of group.kind) there.1)

-- Going through lists that posts lead to, each once: where their occurrences lead is found, and nothing else.
use Rattle.std.proofs.Common.{◌≡◌, ℕ, ◌<◌, ◌≤◌, ◌+◌, ◌==◌, ◌||◌, Bool, true, false, List, [], ◌∷◌, ◌++◌, length, Option, Some, None, refl, sym, ap, subst, ◌∙◌, arith, inl, inr, eqb, eqb-true}
use Rattle.std.specs.Prelude.{Contains, ◌⊎◌, is_some, slice_get}
use Rattle.std.specs.Int.{bit_at}
use Rattle.std.specs.List.{IsDistinct, list_any}
use Rattle.std.proofs.lemmas.Bool.{cases_eq, cases_lt, false≢true}
use Rattle.std.proofs.lemmas.Cmp.{nat_eq_equiv}
use Rattle.std.proofs.lemmas.List.{length_push}
use Rattle.std.proofs.lemmas.List.Elements.{Contains-append_left, Contains-push, Contains-push_cases}
use Rattle.std.proofs.lemmas.Map.Keys.{IsDistinct-push}
use Rattle.std.proofs.lemmas.Map.Steps.{length-le_from_distinct_below}
use Rattle.std.proofs.lemmas.Map.Views.{Contains-from_any}
use Rattle.sy_wire.specs.declared.class.Class.{Class}
use Rattle.sy_rules.specs.declared.lists.occurrence.Occurrence.{Occurrence}
use Rattle.sy_rules.specs.declared.lists.occurrence.Occurrence.TheVariants as occurrence
use Rattle.sy_site.specs.declared.site.SiteInput.{SiteInput}
use Rattle.sy_board.specs.relay.Spares.{Scope}
use Rattle.sy_site.specs.Sites.{Site, plan_at, target}
use Rattle.sy_site.specs.machine.Reach.{MayDo, Reaches, forwards, occurrence_at, posts}
use Rattle.sy_flows.specs.declared.flows.executed.Executed.{Executed}
use Rattle.sy_flows.specs.declared.flows.executed.Executed.TheVariants as executed
use Rattle.sy_flows.specs.declared.flows.Hop.{Hop}
use Rattle.sy_flows.specs.Flows.{Does, IsSet}
use Rattle.sy_flows.specs.declared.flows.ListHops.{ListHops}
use Rattle.sy_flows.specs.internal.Hops.{AddsHop, AddsLeads, AddsPosted, AddsTarget, HasHop, IsFollowed, IsWalked, IsWalkedBelow, LeadsAsWell, WalksOn, follows_posts}
use Rattle.sy_flows.specs.Hops.{AreApart, AreListHops, Leads, LeadsByPosts}
use Rattle.sy_flows.specs.Members.{HasNoneFrom, IsNextIn, same_input}
use Rattle.sy_flows.proofs.FoundInputs.{same_is}
use Rattle.sy_flows.proofs.Posted.{lists_found}

pub one_value : {A : Type 0} {x y : A} → Some x ≡ Some y → x ≡ y
one_value e = cc

-- ---- lists that were gone through

absent : (xs : List ℕ) (x : ℕ) (b : Bool) → list_any (eqb x) xs ≡ b → (Contains xs x → ⊥) → list_any (eqb x) xs ≡ false
absent xs x true is none = absurd (none (Contains-from_any (λ a b e. eqb-true a b e) x xs is))
absent xs x false is none = is

pub none_apart : (many : ℕ) → AreApart many []
unfolding IsDistinct
none_apart many = record { distinct = tt; there = λ list (k, low, is). absurd (omega (arith, low)) }

pub more_apart : (many : ℕ) (lists : List ℕ) (list : ℕ) → AreApart many lists → (Contains lists list → ⊥) → list < many → AreApart many (lists ++ list ∷ [])
more_apart many lists list apart fresh low = record {
  distinct = IsDistinct-push nat_eq_equiv lists list apart.distinct (absent lists list (list_any (eqb list) lists) refl fresh);
  there = λ x is. elim (Contains-push_cases lists list x is) [
    | inl before ↦ apart.there x before
    | inr here ↦ subst (λ y. y < many) here low
  ];
}

pub apart_few : (many : ℕ) (lists : List ℕ) → AreApart many lists → length lists ≤ many
apart_few many lists apart =
    length-le_from_distinct_below lists many apart.distinct (λ q is. apart.there q (Contains-from_any (λ a b e. eqb-true a b e) q lists is))

-- one that is new leaves room
pub apart_room : (many : ℕ) (lists : List ℕ) (list : ℕ) → AreApart many lists → (Contains lists list → ⊥) → list < many → length lists < many
apart_room many lists list apart fresh low =
    let most = apart_few many (lists ++ list ∷ []) (more_apart many lists list apart fresh low) in
    let one = length_push lists list in
    omega (arith, most, one)

-- ---- where occurrences lead

module _ (site : Site) (class : Class) (relay : ℕ) where
  pub leads_run : (which : Executed) (list number action : ℕ) (to : SiteInput) → Does site class which relay list number (occurrence.Run action)
      → target site (record { relay = relay; action = action }) ≡ Some to → Leads site class which relay list number to
  leads_run executed.Every list number action to does is = forwards number action does is
  leads_run executed.Firm list number action to does is = forwards number action does is
  leads_run executed.Must list number action to does is = record { action = action; does = does; leads = is }

  pub leads_post : (which : Executed) → follows_posts which ≡ true → (list number inner k : ℕ) (to : SiteInput)
      → Does site class which relay list number (occurrence.Post inner) → Leads site class which relay inner k to
      → Leads site class which relay list number to
  leads_post executed.Every follows list number inner k to does later = posts number inner k does later
  leads_post executed.Firm follows list number inner k to does later = posts number inner k does later
  leads_post executed.Must none list number inner k to does later = absurd (false≢true none)

-- ---- hops that are put

pub hop_had : (hops : List Hop) (number : ℕ) (to : SiteInput) → list_any (λ (hop : Hop). same_input to hop.to) hops ≡ true → AddsHop number to hops hops
hop_had hops number to among = record { kept = λ hop is. is; has = has hops among; only = λ hop is. inl is }
  where
    either : (a b : Bool) → (a || b) ≡ true → (a ≡ true) ⊎ (b ≡ true)
    either true b e = inl refl
    either false b e = inr e

    has : (xs : List Hop) → list_any (λ (hop : Hop). same_input to hop.to) xs ≡ true → HasHop xs to
    has [] e = absurd (false≢true e)
    has (x ∷ xs) e = elim (either (same_input to x.to) (list_any (λ (hop : Hop). same_input to hop.to) xs) e) [
      | inl here ↦ record { hop = x; there = (0, omega arith, refl); leads = sym (same_is to x.to here) }
      | inr later ↦
          let found = has xs later in
          record { hop = found.hop; there = (ℕ.suc found.there.0, omega (arith, found.there.1), found.there.2); leads = found.leads }
    ]

pub hop_push : (hops : List Hop) (number : ℕ) (to : SiteInput) → AddsHop number to hops (hops ++ record { number = number; to = to } ∷ [])
hop_push hops number to = record {
  kept = λ hop is. Contains-append_left hops (record { number = number; to = to } ∷ []) hop is;
  has = record { hop = record { number = number; to = to }; there = Contains-push hops (record { number = number; to = to }); leads = refl };
  only = λ hop is. elim (Contains-push_cases hops (record { number = number; to = to }) hop is) [
    | inl before ↦ inl before
    | inr here ↦ inr (ap (λ (h : Hop). h.number) (sym here), ap (λ (h : Hop). h.to) (sym here))
  ];
}

pub target_push : (site : Site) (relay action number : ℕ) (to : SiteInput) (old new : List Hop)
    → target site (record { relay = relay; action = action }) ≡ Some to → AddsHop number to old new → AddsTarget site relay action number old new
target_push site relay action number to old new is adds = record {
  kept = adds.kept;
  has = λ x leads. subst (HasHop new) (one_value (sym is ∙ leads)) adds.has;
  only = λ hop there. elim (adds.only hop there) [
    | inl before ↦ inl before
    | inr new ↦ inr (new.0, is ∙ ap Some (sym new.1))
  ];
}

-- ---- what grows

pub hop_still : (old new : List Hop) (to : SiteInput) → ((hop : Hop) → Contains old hop → Contains new hop) → HasHop old to → HasHop new to
hop_still old new to kept has = record { hop = has.hop; there = kept has.hop has.there; leads = has.leads }

module _ (site : Site) (class : Class) (which : Executed) (relay : ℕ) where
  pub followed_still : (old new : List Hop) (lists more : List ℕ) → ((hop : Hop) → Contains old hop → Contains new hop)
      → ((list : ℕ) → Contains lists list → Contains more list) → (is : Occurrence) → IsFollowed site which relay old lists is
      → IsFollowed site which relay new more is
  followed_still old new lists more hops kept (occurrence.Run action) f = λ to leads. hop_still old new to hops (f to leads)
  followed_still old new lists more hops kept (occurrence.Post inner) f = λ follows. kept inner (f follows)

  walked_still : (old new : List Hop) (lists more : List ℕ) → ((hop : Hop) → Contains old hop → Contains new hop)
      → ((list : ℕ) → Contains lists list → Contains more list) → (list : ℕ) → IsWalked site class which relay old lists list
      → IsWalked site class which relay new more list
  walked_still old new lists more hops kept list walked = λ number is does. followed_still old new lists more hops kept is (walked number is does)

  pub stays_there : (hops : List Hop) (lists : List ℕ) → WalksOn site class which relay hops lists hops lists
  stays_there hops lists = record { hops_kept = λ hop is. is; lists_kept = λ list is. is; walked = λ list is. inl is }

  pub walks_on : (h0 h1 h2 : List Hop) (l0 l1 l2 : List ℕ) → WalksOn site class which relay h0 l0 h1 l1
      → WalksOn site class which relay h1 l1 h2 l2 → WalksOn site class which relay h0 l0 h2 l2
  walks_on h0 h1 h2 l0 l1 l2 a b = record {
    hops_kept = λ hop is. b.hops_kept hop (a.hops_kept hop is);
    lists_kept = λ list is. b.lists_kept list (a.lists_kept list is);
    walked = λ list is. elim (b.walked list is) [
      | inl before ↦ elim (a.walked list before) [
        | inl had ↦ inl had
        | inr walked ↦ inr (walked_still h1 h2 l1 l2 b.hops_kept b.lists_kept list walked)
      ]
      | inr walked ↦ inr walked
    ];
  }

  pub leads_added : (first number : ℕ) (h0 h1 h2 : List Hop) → AddsLeads site class which relay first number h0 h1
      → AddsLeads site class which relay first number h1 h2 → AddsLeads site class which relay first number h0 h2
  leads_added first number h0 h1 h2 a b hop is = elim (b hop is) [
    | inl before ↦ a hop before
    | inr new ↦ inr new
  ]

  -- a list is gone through when each of its occurrences was followed
  pub list_done : (list : ℕ) (h0 h : List Hop) (l0 l : List ℕ) → WalksOn site class which relay h0 (l0 ++ list ∷ []) h l
      → IsWalked site class which relay h l list → WalksOn site class which relay h0 l0 h l
  list_done list h0 h l0 l walks done = record {
    hops_kept = walks.hops_kept;
    lists_kept = λ x is. walks.lists_kept x (Contains-append_left l0 (list ∷ []) x is);
    walked = λ x is. elim (walks.walked x is) [
      | inl before ↦ elim (Contains-push_cases l0 list x before) [
        | inl had ↦ inl had
        | inr here ↦ inr (subst (IsWalked site class which relay h l) here done)
      ]
      | inr walked ↦ inr walked
    ];
  }

  pub none_walked : (hops : List Hop) (lists : List ℕ) (list : ℕ) → IsWalkedBelow site class which relay hops lists list 0
  none_walked hops lists list = λ number low is does. absurd (omega (arith, low))

  -- one occurrence more
  pub more_walked : (list set behind at : ℕ) (h0 h : List Hop) (l0 l : List ℕ) → IsSet site class which relay list set → IsNextIn set behind at
      → ((hop : Hop) → Contains h0 hop → Contains h hop) → ((x : ℕ) → Contains l0 x → Contains l x)
      → IsWalkedBelow site class which relay h0 l0 list behind
      → ((is : Occurrence) → occurrence_at site relay list at ≡ Some is → IsFollowed site which relay h l is)
      → IsWalkedBelow site class which relay h l list (at + 1)
  more_walked list set behind at h0 h l0 l is_set next hops kept before here = λ number low is does.
      elim (cases_lt number behind) [
        | inl earlier ↦ followed_still h0 h l0 l hops kept is (before number earlier is does)
        | inr later ↦ elim (cases_eq number at) [
          | inl same ↦ here is (subst (λ k. occurrence_at site relay list k ≡ Some is) same (found_of which number list is does))
          | inr apart ↦ absurd (next.lowest number later (omega (arith, low, apart)) (is_set.whole number is does))
        ]
      ]
    where
      found_of : (how : Executed) (number list : ℕ) (is : Occurrence) → Does site class how relay list number is → occurrence_at site relay list number ≡ Some is
      found_of executed.Every number list is does = does.found
      found_of executed.Firm number list is does = does.found
      found_of executed.Must number list is does = does.found

  pub all_walked : (list set behind : ℕ) (h : List Hop) (l : List ℕ) → IsSet site class which relay list set → HasNoneFrom set behind
      → IsWalkedBelow site class which relay h l list behind → IsWalked site class which relay h l list
  all_walked list set behind h l is_set none below = λ number is does.
      elim (cases_lt number behind) [
        | inl earlier ↦ below number earlier is does
        | inr later ↦ absurd (none number later (is_set.whole number is does))
      ]

  -- ---- one occurrence

  pub run_grows : (action number : ℕ) (h0 h : List Hop) (lists : List ℕ) → AddsTarget site relay action number h0 h
      → WalksOn site class which relay h0 lists h lists
  run_grows action number h0 h lists adds = record { hops_kept = adds.kept; lists_kept = λ x is. is; walked = λ x is. inl is }

  pub run_sound : (list at action first number : ℕ) (h0 h : List Hop) → Does site class which relay list at (occurrence.Run action)
      → LeadsAsWell site class which relay list at first number → AddsTarget site relay action number h0 h
      → AddsLeads site class which relay first number h0 h
  run_sound list at action first number h0 h does leads adds hop is = elim (adds.only hop is) [
    | inl before ↦ inl before
    | inr new ↦ inr (new.0, leads hop.to (leads_run site class relay which list at action hop.to does new.1))
  ]

  -- ---- all that was found

  -- where all that was met was followed, what a list leads to has a hop
  module _ (hops : List Hop) (lists : List ℕ) (all : (list : ℕ) → Contains lists list → IsWalked site class which relay hops lists list) where
    reaches_hop : (scope : Scope) → ((list number : ℕ) (is : Occurrence) → MayDo site class scope relay list number is → Does site class which relay list number is)
        → follows_posts which ≡ true → (list number : ℕ) (to : SiteInput) → IsWalked site class which relay hops lists list
        → Reaches site class scope relay list number to → HasHop hops to
    reaches_hop scope same follows list number to walked (forwards at action does leads) =
        walked at (occurrence.Run action) (same list at (occurrence.Run action) does) to leads
    reaches_hop scope same follows list number to walked (posts at inner k does later) =
        reaches_hop scope same follows inner k to (all inner (walked at (occurrence.Post inner) (same list at (occurrence.Post inner) does) follows)) later

-- what leads on has a hop
pub leads_hop : (site : Site) (class : Class) (which : Executed) (relay : ℕ) (hops : List Hop) (lists : List ℕ)
    → ((list : ℕ) → Contains lists list → IsWalked site class which relay hops lists list) → (list number : ℕ) (to : SiteInput)
    → IsWalked site class which relay hops lists list → Leads site class which relay list number to → HasHop hops to
leads_hop site class executed.Every relay hops lists all list number to walked leads =
    reaches_hop site class executed.Every relay hops lists all Scope.Every (λ l n is does. does) refl list number to walked leads
leads_hop site class executed.Firm relay hops lists all list number to walked leads =
    reaches_hop site class executed.Firm relay hops lists all Scope.Firm (λ l n is does. does) refl list number to walked leads
leads_hop site class executed.Must relay hops lists all list number to walked leads =
    walked number (occurrence.Run leads.action) leads.does to leads.leads

-- ---- the walk from one list

-- what was found so far of a list
pub record HasWalked (site : Site) (class : Class) (which : Executed) (relay many list behind : ℕ) (hops : List Hop) (lists : List ℕ) : Type 0 where
  pub sound : (hop : Hop) → Contains hops hop → (hop.number < 64) × Leads site class which relay list hop.number hop.to
  pub walked : (x : ℕ) → Contains lists x → IsWalked site class which relay hops lists x
  pub below : IsWalkedBelow site class which relay hops lists list behind
  pub posted : (to : ℕ) → Contains lists to → LeadsByPosts site class which relay list to
  pub apart : AreApart many lists

module _ (site : Site) (class : Class) (which : Executed) (relay many list : ℕ) where
  pub walk_begins : (hops : List Hop) (lists : List ℕ) → hops ≡ [] → lists ≡ [] → HasWalked site class which relay many list 0 hops lists
  walk_begins hops lists no_hops no_lists = record {
    sound = λ hop is. (let (k, low, e) = subst (λ l. Contains l hop) no_hops is in absurd (omega (arith, low)));
    walked = λ x is. (let (k, low, e) = subst (λ l. Contains l x) no_lists is in absurd (omega (arith, low)));
    below = none_walked site class which relay hops lists list;
    posted = λ to is. (let (k, low, e) = subst (λ l. Contains l to) no_lists is in absurd (omega (arith, low)));
    apart = subst (AreApart many) (sym no_lists) (none_apart many);
  }

  pub walk_goes_on : (set behind at : ℕ) (h0 h : List Hop) (l0 l : List ℕ) → IsSet site class which relay list set → IsNextIn set behind at
      → HasWalked site class which relay many list behind h0 l0 → WalksOn site class which relay h0 l0 h l
      → AddsLeads site class which relay list at h0 h
      → AddsPosted site class which relay list l0 l
      → ((is : Occurrence) → occurrence_at site relay list at ≡ Some is → IsFollowed site which relay h l is) → AreApart many l
      → HasWalked site class which relay many list (at + 1) h l
  walk_goes_on set behind at h0 h l0 l is_set next before walks sound posted here apart = record {
    sound = λ hop is. elim (sound hop is) [
      | inl had ↦ before.sound hop had
      | inr new ↦ (
        subst (λ k. k < 64) (sym new.0) next.small,
        subst (λ k. Leads site class which relay list k hop.to) (sym new.0) new.1,
      )
    ];
    walked = λ x is. elim (walks.walked x is) [
      | inl had ↦ λ number o does. followed_still site class which relay h0 h l0 l walks.hops_kept walks.lists_kept o (before.walked x had number o does)
      | inr walked ↦ walked
    ];
    below = more_walked site class which relay list set behind at h0 h l0 l is_set next walks.hops_kept walks.lists_kept before.below here;
    posted = λ to is. elim (posted to is) [
      | inl had ↦ before.posted to had
      | inr new ↦ new
    ];
    apart = apart;
  }

  pub walk_ends : (set behind : ℕ) (of : ListHops) → IsSet site class which relay list set → HasNoneFrom set behind
      → HasWalked site class which relay (length (plan_at site relay).lists) list behind of.hops.items of.lists.items
      → AreListHops site class which relay list of
  walk_ends set behind of is_set none has =
      let hops = of.hops.items in
      let lists = of.lists.items in
      let done = all_walked site class which relay list set behind hops lists is_set none has.below in
      record {
        hops = record {
          sound = has.sound;
          whole = λ number to leads.
              (let hop = leads_hop site class which relay hops lists has.walked list number to done leads in (hop.hop, hop.there, hop.leads));
        };
        lists = record {
          each = λ to. (has.posted to, λ leads. lists_found site class which relay hops lists has.walked list to done leads);
          apart = has.apart;
        };
      }

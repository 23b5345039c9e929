-- Ranks that grow as inputs are done.
use Rattle.std.proofs.Common.{◌≡◌, ℕ, ◌<◌, ◌≤◌, ◌+◌, max, Bool, true, false, List, [], ◌∷◌, ◌++◌, length, set, take, get_or, replicate, refl, sym, ap, subst, ◌∙◌, arith, inl, inr, length-set}
use Rattle.std.specs.Prelude.{Contains}
use Rattle.std.specs.List.{IsDistinct, list_any}
use Rattle.std.proofs.lemmas.Bool.{cases_eq, cases_lt}
use Rattle.std.proofs.lemmas.List.{get_or-set_same, get_or-set_other, length_push, take_all, take_more}
use Rattle.std.proofs.lemmas.List.Elements.{Contains-append_left, Contains-push, Contains-push_cases}
use Rattle.std.proofs.lemmas.Map.Keys.{IsDistinct-push}
use Rattle.std.proofs.lemmas.Map.Views.{Contains-from_any}
use Rattle.sy_wire.specs.declared.class.Class.{Class}
use Rattle.sy_board.specs.relay.Spares.{Scope}
use Rattle.sy_site.specs.declared.site.SiteInput.{SiteInput}
use Rattle.sy_site.specs.Sites.{Site}
use Rattle.sy_site.specs.machine.Findings.{WayRow}
use Rattle.sy_site.specs.machine.Lawful.{IsLawful}
use Rattle.sy_site.specs.machine.Reach.{Reach, entry, list_of, onward}
use Rattle.sy_site.specs.machine.Soundness.{AreRanks}
use Rattle.sy_flows.specs.declared.flows.executed.Executed.TheVariants as executed
use Rattle.sy_flows.specs.declared.flows.Hop.{Hop}
use Rattle.sy_flows.specs.Hops.{AreHops}
use Rattle.sy_flows.specs.Members.{same_input}
use Rattle.sy_checker.specs.internal.Loops.{AreFollowed, AreRanked, DoesMore, Follow, IsDone, IsHeight, IsLeast, IsMet, IsMost, IsOneMore, ends, goes_on, rank_at}
use Rattle.sy_fit.specs.internal.Ranked.{GoesOn}
use Rattle.sy_flows.proofs.FoundInputs.{same_is, same_laws}
use Rattle.sy_flows.proofs.Gone.{few}
use Rattle.sy_flows.proofs.There.{reach_there, relay_there}

-- ---- what is done

pub more_and : (P : ℕ → Type 0) (old mid new : List SiteInput) → DoesMore P old mid → DoesMore P mid new → DoesMore P old new
more_and P old mid new first second = record {
  kept = λ x there. second.kept x (first.kept x there);
  only = λ x there. elim (second.only x there) [
    | inl before ↦ first.only x before
    | inr apart ↦ inr apart
  ];
}

-- of fewer relays
pub more_as : (P Q : ℕ → Type 0) → ((relay : ℕ) → Q relay → P relay) → (old new : List SiteInput) → DoesMore P old new → DoesMore Q old new
more_as P Q wider old new more = record {
  kept = more.kept;
  only = λ x there. elim (more.only x there) [
    | inl before ↦ inl before
    | inr apart ↦ inr (λ q. apart (wider x.relay q))
  ];
}

pub more_by_one : (P : ℕ → Type 0) (done : List SiteInput) (from : SiteInput) → (P from.relay → ⊥) → DoesMore P done (done ++ from ∷ [])
more_by_one P done from none = record {
  kept = λ x had. Contains-append_left done (from ∷ []) x had;
  only = λ x in_new. elim (Contains-push_cases done from x in_new) [
    | inl before ↦ inl before
    | inr here ↦ inr (subst (λ z. P z.relay → ⊥) here none)
  ];
}

pub done_still : (site : Site) (class : Class) (P : ℕ → Type 0) (old new : List SiteInput) → DoesMore P old new → (relay : ℕ)
    → IsDone site class old relay → IsDone site class new relay
done_still site class P old new more relay done x same at = more.kept x (done x same at)

absent : (xs : List SiteInput) (x : SiteInput) (b : Bool) → list_any (same_input x) xs ≡ b → (Contains xs x → ⊥) → list_any (same_input x) xs ≡ false
absent xs x true is none = absurd (none (Contains-from_any same_is x xs is))
absent xs x false is none = is

-- ---- ranks fit a number of 32 bits

pub ranks_small : (site : Site) → IsLawful site → (class : Class) (done : List SiteInput) (settled ranks : List ℕ)
    → AreRanked site class done settled ranks → (relay : ℕ) → rank_at ranks relay < 4294967295
ranks_small site law class done settled ranks are relay =
    let most = few site law done are.distinct (λ x there. reach_there site law class Scope.Every x (are.reached x there)) in
    let small = are.small relay in
    omega (arith, most, small)

-- ---- one input more

abbrev pub raised : List ℕ → ℕ → ℕ → List ℕ
raised ranks relay height = set ranks relay (max (rank_at ranks relay) height)

module _ (site : Site) (law : IsLawful site) (class : Class) (done : List SiteInput) (settled ranks : List ℕ)
    (are : AreRanked site class done settled ranks) (from : SiteInput) (at : Reach site class Scope.Every from) (height : ℕ)
    (is : IsHeight site class ranks from height) (fresh : Contains done from → ⊥)
    (followed : (to : SiteInput) (number : ℕ) → GoesOn site class from number to → IsDone site class done to.relay) where
  there : from.relay < length ranks
  there = let low = relay_there site from (reach_there site law class Scope.Every from at) in let many = are.many in omega (arith, low, many)

  rank_here : rank_at (raised ranks from.relay height) from.relay ≡ max (rank_at ranks from.relay) height
  rank_here = get_or-set_same ranks from.relay (max (rank_at ranks from.relay) height) 0 there

  rank_apart : (relay : ℕ) → (relay ≡ from.relay → ⊥) → rank_at (raised ranks from.relay height) relay ≡ rank_at ranks relay
  rank_apart relay apart = get_or-set_other ranks from.relay relay (max (rank_at ranks from.relay) height) 0 apart

  rank_no_less : (relay : ℕ) → rank_at ranks relay ≤ rank_at (raised ranks from.relay height) relay
  rank_no_less relay = elim (cases_eq relay from.relay) [
    | inl same ↦
        let here = rank_here in
        let old : rank_at ranks relay ≡ rank_at ranks from.relay = ap (rank_at ranks) same in
        let new : rank_at (raised ranks from.relay height) relay ≡ rank_at (raised ranks from.relay height) from.relay =
        ap (rank_at (raised ranks from.relay height)) same in
        omega (arith, here, old, new)
    | inr apart ↦ let other = rank_apart relay apart in omega (arith, other)
  ]

  -- where all is done, this input isn't
  done_apart : (relay : ℕ) → IsDone site class done relay → relay ≡ from.relay → ⊥
  done_apart relay all same = fresh (all from (sym same) at)

  still : (relay : ℕ) → IsDone site class done relay → IsDone site class (done ++ from ∷ []) relay
  still relay all x same reach = Contains-append_left done (from ∷ []) x (all x same reach)

  height_small : height ≤ length done + 1
  height_small = elim is.least [
    | inl none ↦ omega (arith, none)
    | inr some ↦ let one = some.3 in let low = are.small some.0.relay in omega (arith, one, low)
  ]

  -- what led on before still does
  one_more_still : (relay : ℕ) → rank_at (raised ranks from.relay height) relay ≡ rank_at ranks relay → IsOneMore site class done ranks relay
      → IsOneMore site class (done ++ from ∷ []) (raised ranks from.relay height) relay
  one_more_still relay same one =
      let to_same = rank_apart one.to.relay (done_apart one.to.relay (are.onward one.from one.to one.number one.is_done one.goes)) in
      let more = one.more in
      record {
        from = one.from;
        to = one.to;
        number = one.number;
        is_done = Contains-append_left done (from ∷ []) one.from one.is_done;
        is_its = one.is_its;
        goes = one.goes;
        more = omega (arith, same, to_same, more);
      }

  least_as : (relay : ℕ) → rank_at (raised ranks from.relay height) relay ≡ rank_at ranks relay
      → IsLeast site class (done ++ from ∷ []) (raised ranks from.relay height) relay
  least_as relay same = elim (are.least relay) [
    | inl no_rank ↦ inl (same ∙ no_rank)
    | inr one ↦ inr (one_more_still relay same one)
  ]

  least_new : (relay : ℕ) → relay ≡ from.relay → rank_at ranks from.relay < height
      → IsLeast site class (done ++ from ∷ []) (raised ranks from.relay height) relay
  least_new relay same up =
      let here = rank_here in
      let new : rank_at (raised ranks from.relay height) relay ≡ rank_at (raised ranks from.relay height) from.relay =
      ap (rank_at (raised ranks from.relay height)) same in
      elim is.least [
        | inl no_height ↦ absurd (omega (arith, up, no_height))
        | inr some ↦
            let apart = rank_apart some.0.relay (done_apart some.0.relay (followed some.0 some.1 some.2)) in
            let one = some.3 in
            inr (record {
              from = from;
              to = some.0;
              number = some.1;
              is_done = Contains-push done from;
              is_its = sym same;
              goes = some.2;
              more = omega (arith, here, new, apart, one, up);
            })
      ]

  least_raised : (relay : ℕ)
      → IsLeast site class (done ++ from ∷ []) (raised ranks from.relay height) relay
  least_raised relay = elim (cases_eq relay from.relay) [
    | inl same ↦ elim (cases_lt (rank_at ranks from.relay) height) [
      | inl up ↦ least_new relay same up
      | inr low ↦
          let here = rank_here in
          let old : rank_at ranks relay ≡ rank_at ranks from.relay = ap (rank_at ranks) same in
          let new : rank_at (raised ranks from.relay height) relay ≡ rank_at (raised ranks from.relay height) from.relay =
          ap (rank_at (raised ranks from.relay height)) same in
          least_as relay (omega (arith, here, old, new, low))
    ]
    | inr apart ↦ least_as relay (rank_apart relay apart)
  ]

  falls_old : (x to : SiteInput) (number : ℕ) → Contains done x → GoesOn site class x number to
      → rank_at (raised ranks from.relay height) to.relay < rank_at (raised ranks from.relay height) x.relay
  falls_old x to number had goes =
      let low = are.falls x to number had goes in
      let same = rank_apart to.relay (done_apart to.relay (are.onward x to number had goes)) in
      let up = rank_no_less x.relay in
      omega (arith, low, same, up)

  falls_new : (to : SiteInput) (number : ℕ) → GoesOn site class from number to
      → rank_at (raised ranks from.relay height) to.relay < rank_at (raised ranks from.relay height) from.relay
  falls_new to number goes =
      let low = is.above to number goes in
      let same = rank_apart to.relay (done_apart to.relay (followed to number goes)) in
      let here = rank_here in
      omega (arith, low, same, here)

  small_new : (relay : ℕ) → rank_at (raised ranks from.relay height) relay ≤ length (done ++ from ∷ [])
  small_new relay =
      let long = length_push done from in
      let low = are.small relay in
      let most = height_small in
      elim (cases_eq relay from.relay) [
        | inl same ↦
            let here = rank_here in
            let own = are.small from.relay in
            let new : rank_at (raised ranks from.relay height) relay ≡ rank_at (raised ranks from.relay height) from.relay =
            ap (rank_at (raised ranks from.relay height)) same in
            omega (arith, long, most, here, own, new)
        | inr apart ↦ let other = rank_apart relay apart in omega (arith, long, low, other)
      ]

  pub ranked_more : AreRanked site class (done ++ from ∷ []) settled (raised ranks from.relay height)
  ranked_more = record {
    reached = λ x in_new. elim (Contains-push_cases done from x in_new) [
      | inl before ↦ are.reached x before
      | inr here ↦ subst (Reach site class Scope.Every) here at
    ];
    distinct = IsDistinct-push same_laws done from are.distinct (absent done from (list_any (same_input from) done) refl fresh);
    all_done = λ relay is_settled. still relay (are.all_done relay is_settled);
    onward = λ x to number in_new goes. elim (Contains-push_cases done from x in_new) [
      | inl before ↦ still to.relay (are.onward x to number before goes)
      | inr here ↦ still to.relay (followed to number (subst (λ z. GoesOn site class z number to) (sym here) goes))
    ];
    falls = λ x to number in_new goes. elim (Contains-push_cases done from x in_new) [
      | inl before ↦ falls_old x to number before goes
      | inr here ↦ subst (λ z. rank_at (raised ranks from.relay height) to.relay < rank_at (raised ranks from.relay height) z.relay) here
          (falls_new to number (subst (λ z. GoesOn site class z number to) (sym here) goes))
    ];
    least = least_raised;
    small = small_new;
    many = length-set ranks from.relay (max (rank_at ranks from.relay) height) ∙ are.many;
  }

-- ---- a relay more

pub settled_more : (site : Site) (class : Class) (done : List SiteInput) (settled ranks : List ℕ) (relay : ℕ)
    → AreRanked site class done settled ranks → IsDone site class done relay → AreRanked site class done (settled ++ relay ∷ []) ranks
settled_more site class done settled ranks relay are all = record {
  reached = are.reached;
  distinct = are.distinct;
  all_done = λ r there. elim (Contains-push_cases settled relay r there) [
    | inl before ↦ are.all_done r before
    | inr here ↦ subst (IsDone site class done) here all
  ];
  onward = are.onward;
  falls = are.falls;
  least = are.least;
  small = are.small;
  many = are.many;
}

-- ---- at the beginning, and at the end

nothing_in : {A : Type 0} (x : A) → Contains [] x → ⊥
nothing_in x (k, low, is) = absurd (omega (arith, low))

no_rank : (many relay : ℕ) → rank_at (replicate many 0) relay ≡ 0
no_rank ℕ.zero relay = refl
no_rank (ℕ.suc many) ℕ.zero = refl
no_rank (ℕ.suc many) (ℕ.suc relay) = no_rank many relay

pub ranked_first : (site : Site) (class : Class) (ranks : List ℕ) (many : ℕ) → ranks ≡ replicate many 0 → length ranks ≡ length site.relays
    → AreRanked site class [] [] ranks
unfolding IsDistinct
ranked_first site class ranks many zeros long = record {
  reached = λ x there. absurd (nothing_in x there);
  distinct = tt;
  all_done = λ relay there. absurd (nothing_in relay there);
  onward = λ x to number there goes. absurd (nothing_in x there);
  falls = λ x to number there goes. absurd (nothing_in x there);
  least = λ relay. inl (ap (λ l. rank_at l relay) zeros ∙ no_rank many relay);
  small = λ relay. let zero_rank : rank_at ranks relay ≡ 0 = ap (λ l. rank_at l relay) zeros ∙ no_rank many relay in omega (arith, zero_rank);
  many = long;
}

module _ (site : Site) (class : Class) (done : List SiteInput) (settled ranks : List ℕ) (are : AreRanked site class done settled ranks)
    (entries : (input : SiteInput) → Contains site.entries input → Contains done input) where
  reach_done : (x : SiteInput) → Reach site class Scope.Every x → Contains done x
  reach_done x (entry is) = entries x is
  reach_done x (onward {from} number before goes) =
      are.onward from x number (reach_done from before) goes x refl (onward number before goes)

  pub ranked_all : AreRanks site class (rank_at ranks)
  ranked_all = record {
    falls = λ from to number at goes. are.falls from to number (reach_done from at) goes;
  }

  at_most : (relay n : ℕ) → Follow site class relay n → n ≤ rank_at ranks relay
  at_most relay n ends = omega arith
  at_most relay n (goes_on {from} {to} number m at goes later) =
      let low = at_most to.relay m later in
      let falls = are.falls from to number (reach_done from at) goes in
      omega (arith, low, falls)

  -- by the rank of the relay
  so_many : (n relay : ℕ) → rank_at ranks relay ≡ n → Follow site class relay n
  so_many ℕ.zero relay is = ends
  so_many (ℕ.suc n) relay is = elim (are.least relay) [
    | inl no_more ↦ absurd (omega (arith, is, no_more))
    | inr one ↦
        let more = one.more in
        let next = so_many n one.to.relay (omega (arith, is, more)) in
        let all = goes_on one.number n (are.reached one.from one.is_done) one.goes next in
        let long : n + 1 ≡ ℕ.suc n = omega arith in
        subst (λ m. Follow site class relay m) long (subst (λ r. Follow site class r (n + 1)) one.is_its all)
  ]

  pub ranked_most : (relay : ℕ) → IsMost site class relay (rank_at ranks relay)
  ranked_most relay = (so_many (rank_at ranks relay) relay refl, λ m follow. at_most relay m follow)

-- ---- what the hops of an input lead to

pub ranked_as : (site : Site) (class : Class) (done done' : List SiteInput) (settled settled' ranks ranks' : List ℕ) → done' ≡ done
    → settled' ≡ settled → ranks' ≡ ranks → AreRanked site class done settled ranks → AreRanked site class done' settled' ranks'
ranked_as site class done done' settled settled' ranks ranks' d s r are =
    subst (λ x. AreRanked site class x settled' ranks') (sym d)
    (subst (λ x. AreRanked site class done x ranks') (sym s) (subst (λ x. AreRanked site class done settled x) (sym r) are))

pub fresh_still : (way : List WayRow) (from : SiteInput) (old new : List SiteInput) → DoesMore (IsMet way from) old new
    → (Contains old from → ⊥) → Contains new from → ⊥
fresh_still way from old new more fresh there = elim (more.only from there) [
  | inl before ↦ fresh before
  | inr apart ↦ apart (inr refl)
]

module _ (site : Site) (class : Class) (hops : List Hop) where
  pub follows_more : (P : ℕ → Type 0) (old new : List SiteInput) (k : ℕ) (hop : Hop) → k < length hops → hop ≡ get_or hops k hop → DoesMore P old new
      → AreFollowed site class old (take k hops) → IsDone site class new hop.to.relay → AreFollowed site class new (take (k + 1) hops)
  follows_more P old new k hop low is more before here x there =
      elim (Contains-push_cases (take k hops) (get_or hops k hop) x (subst (λ l. Contains l x) (take_more hops k hop low) there)) [
        | inl earlier ↦ done_still site class P old new more x.to.relay (before x earlier)
        | inr last ↦ subst (λ (h : Hop). IsDone site class new h.to.relay) (is ∙ last) here
      ]

  pub follows_all : (from : SiteInput) (done : List SiteInput) (k : ℕ) → length hops ≤ k
      → AreHops site class executed.Every from.relay (list_of site from) hops → AreFollowed site class done (take k hops)
      → (to : SiteInput) (number : ℕ) → GoesOn site class from number to → IsDone site class done to.relay
  follows_all from done k all are followed to number goes =
      let hop = are.whole number to goes in
      subst (λ (x : SiteInput). IsDone site class done x.relay) hop.2
      (followed hop.0 (subst (λ l. Contains l hop.0) (sym (take_all k hops all)) hop.1))

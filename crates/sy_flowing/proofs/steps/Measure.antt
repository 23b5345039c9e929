-- What a site holds, weighed: its own steps make it lighter, and a site that weighs nothing is empty.
use Rattle.std.proofs.Common.{◌≡◌, ℕ, ◌+◌, ◌<◌, ◌≤◌, ◌==◌, Bool, true, false, if◌then◌else◌, List, [], ◌∷◌, ◌++◌, length, map, refl, sym, subst, ap, arith, ◌∙◌, get_or, Option, Some, None, All, inl, inr}
use Rattle.std.specs.Prelude.{◌≢◌, ◌&&◌, slice_get, IfSome}
use Rattle.std.specs.List.{Contains}
use Rattle.std.proofs.lemmas.Bool.{eqb-true, eqb-false, eq-eqb}
use Rattle.std.proofs.lemmas.Option.{slice_get_cases}
use Rattle.sy_chain.specs.Entries.{Entry}
use Rattle.sy_rules.specs.PlanValue.{Plan, Listed}
use Rattle.sy_rules.specs.Whole.{IsWhole, body_in}
use Rattle.sy_rules.specs.lists.Body.{count, occurrences}
use Rattle.sy_board.specs.relay.Cells.{RelayState}
use Rattle.sy_board.specs.relay.Plans.{occurrences_at}
use Rattle.sy_board.specs.relay.Steps.{Cause, Out}
use Rattle.sy_wire.specs.declared.class.Class.{Class}
use Rattle.sy_flowing.proofs.relay.Weights.{most, total, weight}
use Rattle.sy_site.specs.declared.site.SiteAction.{SiteAction}
use Rattle.sy_site.specs.declared.site.SiteInput.{SiteInput}
use Rattle.sy_site.specs.Sites.{Relay, Site, no_plan, plan_at, plan_in, same_action, target, target_of}
use Rattle.sy_site.specs.machine.States.{Copy, SiteState, push_outs, with_passed, with_relay}
use Rattle.sy_flowing.specs.Flowing.{IsFlowing, input_list}
use Rattle.sy_site.specs.machine.Lawful.{IsLawful}
use Rattle.sy_site.specs.machine.Naming.{IsTag}
use Rattle.sy_flowing.proofs.steps.Relays.{whole_in}
use Rattle.sy_site.proofs.machine.Marks.{relay_elim}
use Rattle.sy_site.proofs.machine.Spread.{action_elim, get_more}

-- ---- sums over numbers below a bound

abbrev pub sum_to : ℕ → (ℕ → ℕ) → ℕ
sum_to ℕ.zero f = 0
sum_to (ℕ.suc n) f = f n + sum_to n f

sum_same : (n : ℕ) (f g : ℕ → ℕ) → ((i : ℕ) → i < n → f i ≡ g i) → sum_to n f ≡ sum_to n g
sum_same ℕ.zero f g same = refl
sum_same (ℕ.suc n) f g same =
    let r = sum_same n f g (λ i l. same i (omega (arith, l))) in
    let s = same n (omega arith) in
    omega (arith, r, s)

-- changed at one place
pub sum_one : (n k : ℕ) (f g : ℕ → ℕ) → k < n → ((i : ℕ) → i ≢ k → f i ≡ g i) → sum_to n f + g k ≡ sum_to n g + f k
sum_one ℕ.zero k f g l same = absurd (omega (arith, l))
sum_one (ℕ.suc n) k f g l same = go (n == k) refl (sum_one n k f g)
  where
    go : (b : Bool) → (n == k) ≡ b → (k < n → ((i : ℕ) → i ≢ k → f i ≡ g i) → sum_to n f + g k ≡ sum_to n g + f k)
        → f n + sum_to n f + g k ≡ g n + sum_to n g + f k
    go true e more =
        let is : n ≡ k = eqb-true n k e in
        let r = sum_same n f g (λ i m. same i (λ s. (omega (arith, m, s, is)))) in
        let a : f n ≡ f k = ap f is in
        let b : g n ≡ g k = ap g is in
        omega (arith, r, a, b)
    go false e more =
        let apart : n ≢ k = eqb-false n k e in
        let r = more (omega (arith, l, apart)) same in
        let s = same n apart in
        omega (arith, r, s)

pub sum_zero : (n k : ℕ) (f : ℕ → ℕ) → sum_to n f ≡ 0 → k < n → f k ≡ 0
sum_zero ℕ.zero k f z l = absurd (omega (arith, l))
sum_zero (ℕ.suc n) k f z l = go (n == k) refl (sum_zero n k f)
  where
    go : (b : Bool) → (n == k) ≡ b → (sum_to n f ≡ 0 → k < n → f k ≡ 0) → f k ≡ 0
    go true e more = let a : f n ≡ f k = ap f (eqb-true n k e) in omega (arith, a, z)
    go false e more = let apart : n ≢ k = eqb-false n k e in more (omega (arith, z)) (omega (arith, l, apart))

-- a place where something is
pub record Some_at (n : ℕ) (f : ℕ → ℕ) : Type 0 where
  pub place : ℕ
  pub there : place < n
  pub some : 0 < f place

pub sum_some : (n : ℕ) (f : ℕ → ℕ) → 0 < sum_to n f → Some_at n f
sum_some ℕ.zero f l = absurd (omega (arith, l))
sum_some (ℕ.suc n) f l = go (f n) refl (sum_some n f)
  where
    go : (v : ℕ) → f n ≡ v → (0 < sum_to n f → Some_at n f) → Some_at (ℕ.suc n) f
    go ℕ.zero e more =
        let r = more (omega (arith, l, e)) in
        record { place = r.place; there = (let t = r.there in omega (arith, t)); some = r.some }
    go (ℕ.suc v) e more = record { place = n; there = omega arith; some = omega (arith, e) }

-- ---- in lists of lists

pub nothing_at : (w : Entry → ℕ) → ((e : Entry) → 0 < w e) → (xss : List (List Entry)) (k : ℕ) → total (total w) xss ≡ 0 → get_or xss k [] ≡ []
nothing_at w some [] k z = refl
nothing_at w some (xs ∷ xss) ℕ.zero z = go xs (omega (arith, z))
  where
    go : (xs : List Entry) → total w xs ≡ 0 → xs ≡ []
    go [] z = refl
    go (x ∷ xs) z = let s = some x in absurd (omega (arith, z, s))
nothing_at w some (xs ∷ xss) (ℕ.suc k) z = nothing_at w some xss k (omega (arith, z))

pub something_at : (w : Entry → ℕ) (xss : List (List Entry)) → 0 < total (total w) xss
    → (k : ℕ) × (e : Entry) × (es : List Entry) × (get_or xss k [] ≡ e ∷ es)
something_at w [] l = absurd (omega (arith, l))
something_at w ([] ∷ xss) l = let r = something_at w xss (omega (arith, l)) in (ℕ.suc r.0, r.1, r.2, r.3)
something_at w ((x ∷ xs) ∷ xss) l = (0, x, xs, refl)

-- ---- plans

small_list : (found : Option Listed) → IfSome found (λ l. count l.body ≤ 64) → length (occurrences (body_in found)) ≤ 64
small_list None t = omega arith
small_list (Some l) t = t

pub at_or_none : {A : Type 0} (P : A → Type 0) (xs : List A) (k : ℕ) → All P xs → IfSome (slice_get xs k) P
at_or_none P [] k all = tt
at_or_none P (x ∷ xs) ℕ.zero all = all 0 x (omega arith)
at_or_none P (x ∷ xs) (ℕ.suc k) all = at_or_none P xs k (λ j d l. all (ℕ.suc j) d (omega (arith, l)))

small_in : (found : Option Relay) → IfSome found (λ relay. IsWhole relay.plan) → (list : ℕ) → length (occurrences_at (plan_in found) list) ≤ 64
small_in None w list = omega arith
small_in (Some relay) w list =
    small_list (slice_get relay.plan.lists list) (at_or_none (λ (l : Listed). count l.body ≤ 64) relay.plan.lists list w.occurrences_most)

-- a relay that has something is there
pub record IsThere (site : Site) (r : ℕ) : Type 0 where
  pub within : r < length site.relays
  pub whole : IsWhole (plan_at site r)

there_in : (site : Site) (r : ℕ) (found : Option Relay) → slice_get site.relays r ≡ found → IfSome found (λ relay. IsWhole relay.plan)
    → (f : Plan → ℕ) → f no_plan ≡ 0 → 0 < f (plan_in found) → (r < length site.relays) × IsWhole (plan_in found)
there_in site r None e w f none some = absurd (omega (arith, none, some))
there_in site r (Some relay) e w f none some = (
  elim (slice_get_cases site.relays r).1 [
    | inl h ↦ h.1
    | inr h ↦ (let g : None ≡ Some relay = sym h.1 ∙ e in absurd (cc))
  ],
  w,
)

pub is_there : (site : Site) → IsLawful site → (r : ℕ) (f : Plan → ℕ) → f no_plan ≡ 0 → 0 < f (plan_at site r) → IsThere site r
is_there site law r f none some =
    let t = there_in site r (slice_get site.relays r) refl (whole_in site.relays r law.plans) f none some in
    record { within = t.0; whole = t.1 }

-- what leads somewhere is there
pub target_there : (site : Site) (link : SiteAction) (to : SiteInput) → target site link ≡ Some to → link.action < length (plan_at site link.relay).actions
target_there site link to leads = elim (slice_get_cases (plan_at site link.relay).actions link.action).1 [
  | inl h ↦ h.1
  | inr h ↦ (let g : None ≡ Some to = sym (ap (target_of site) h.1) ∙ leads in absurd (cc))
]

-- ---- changes

same_key : (k : SiteAction) → same_action k k ≡ true
same_key k = go (k.relay == k.relay) (k.action == k.action) (eq-eqb k.relay k.relay refl) (eq-eqb k.action k.action refl)
  where
    go : (a b : Bool) → a ≡ true → b ≡ true → a && b ≡ true
    go true b e f = f
    go false b e f = absurd (cc)

pub passed_at : (f : SiteAction → List ℕ) (k : SiteAction) (v : List ℕ) → with_passed f k v k ≡ v
passed_at f k v = subst (λ b. (if b then v else f k) ≡ v) (sym (same_key k)) refl

pub passed_other : (f : SiteAction → List ℕ) (k : SiteAction) (v : List ℕ) (x : SiteAction) → x ≢ k → with_passed f k v x ≡ f x
passed_other f k v x n = action_elim (λ z l. z ≢ k → l ≡ f z) f k v (λ no. absurd (no refl)) (λ z no. refl) x n

pub relay_at : (f : ℕ → RelayState) (r : ℕ) (s : RelayState) → with_relay f r s r ≡ s
relay_at f r s = subst (λ b. (if b then s else f r) ≡ s) (sym (eq-eqb r r refl)) refl

pub relay_other : (f : ℕ → RelayState) (r : ℕ) (s : RelayState) (x : ℕ) → x ≢ r → with_relay f r s x ≡ f x
relay_other f r s x n = relay_elim (λ z l. z ≢ r → l ≡ f z) f r s (λ no. absurd (no refl)) (λ z no. refl) x n

pub lost_passed : (s : SiteState) (r : ℕ) (cause : Cause) (es : List Entry) → (push_outs s r (map (Out.Lost cause) es)).passed ≡ s.passed
lost_passed s r cause [] = refl
lost_passed s r cause (e ∷ es) =
    lost_passed (record s { losses = s.losses ++ record { copy = e.tag; relay = r; list = e.list; cause = cause } ∷ [] }) r cause es

-- ---- the measure

module _ (site : Site) (law : IsLawful site) (flow : IsFlowing site) where
  pub small : (r list : ℕ) → length (occurrences_at (plan_at site r) list) ≤ 64
  small r list = small_in (slice_get site.relays r) (whole_in site.relays r law.plans) list

  -- how far messages of the class may still go from a list on
  abbrev pub rank : ℕ → Class → ℕ → ℕ
  rank r class list = flow.left class (record { relay = r; list = list })

  abbrev pub weigh : ℕ → RelayState → ℕ
  weigh r s = weight (plan_at site r) (small r) (rank r) s

  abbrev pub tag_of : Option SiteInput → Option Copy → ℕ
  tag_of None copy = 0
  tag_of (Some to) None = 0
  tag_of (Some to) (Some copy) = 4 + most (flow.left copy.message.class (input_list site to))

  -- a copy on a link
  abbrev pub on_link : List Copy → SiteAction → ℕ → ℕ
  on_link copies link tag = tag_of (target site link) (slice_get copies tag)

  abbrev pub link_weight : List Copy → SiteAction → List ℕ → ℕ
  link_weight copies link tags = total (on_link copies link) tags

  abbrev pub links : List Copy → (SiteAction → List ℕ) → ℕ → ℕ
  links copies passed r = sum_to (length (plan_at site r).actions)
      (λ a. link_weight copies (record { relay = r; action = a }) (passed (record { relay = r; action = a })))

  abbrev pub part : List Copy → (ℕ → RelayState) → (SiteAction → List ℕ) → ℕ → ℕ
  part copies relays passed r = weigh r (relays r) + links copies passed r

  abbrev pub measure : List Copy → (ℕ → RelayState) → (SiteAction → List ℕ) → ℕ
  measure copies relays passed = sum_to (length site.relays) (part copies relays passed)

  pub of_relay : (copies : List Copy) (relays : ℕ → RelayState) (passed : SiteAction → List ℕ) (r : ℕ) (s : RelayState) → r < length site.relays
      → measure copies (with_relay relays r s) passed + weigh r (relays r) ≡ measure copies relays passed + weigh r s
  of_relay copies relays passed r s l =
      let a = sum_one (length site.relays) r (part copies (with_relay relays r s) passed) (part copies relays passed) l
      (λ i n. ap (λ z. weigh i z + links copies passed i) (relay_other relays r s i n)) in
      let b : weigh r (with_relay relays r s r) ≡ weigh r s = ap (weigh r) (relay_at relays r s) in
      omega (arith, a, b)

  -- the links of a relay, of which one is changed
  pub of_link : (copies : List Copy) (relays : ℕ → RelayState) (passed : SiteAction → List ℕ) (link : SiteAction) (v : List ℕ)
      → link.relay < length site.relays → link.action < length (plan_at site link.relay).actions
      → measure copies relays (with_passed passed link v) + link_weight copies link (passed link)
      ≡ measure copies relays passed + link_weight copies link v
  of_link copies relays passed link v l m =
      let r = link.relay in
      let key : ℕ → SiteAction = λ a. record { relay = r; action = a } in
      let f : ℕ → ℕ = λ a. link_weight copies (key a) (with_passed passed link v (key a)) in
      let g : ℕ → ℕ = λ a. link_weight copies (key a) (passed (key a)) in
      let inner = sum_one (length (plan_at site r).actions) link.action f g m
      (λ i n. ap (link_weight copies (key i)) (passed_other passed link v (key i) (λ e. n (ap (λ (k : SiteAction). k.action) e)))) in
      let here : f link.action ≡ link_weight copies link v = ap (link_weight copies link) (passed_at passed link v) in
      let outer = sum_one (length site.relays) r (part copies relays (with_passed passed link v)) (part copies relays passed) l
      (λ i n. ap (λ z. weigh i (relays i) + z) (sum_other i n)) in
      omega (arith, inner, here, outer)
    where
      sum_other : (i : ℕ) → i ≢ link.relay → links copies (with_passed passed link v) i ≡ links copies passed i
      sum_other i n = sum_same (length (plan_at site i).actions) _ _
          (λ a k. ap (link_weight copies (record { relay = i; action = a }))
          (passed_other passed link v (record { relay = i; action = a }) (λ e. n (ap (λ (x : SiteAction). x.relay) e))))

  -- one copy more, which stands on no link yet
  pub of_copies : (copies : List Copy) (c : Copy) (relays : ℕ → RelayState) (passed : SiteAction → List ℕ)
      → ((link : SiteAction) (tag : ℕ) → Contains (passed link) tag → IsTag copies tag)
      → measure (copies ++ c ∷ []) relays passed ≡ measure copies relays passed
  of_copies copies c relays passed named =
      sum_same (length site.relays) _ _ (λ r l. ap (λ z. weigh r (relays r) + z)
      (sum_same (length (plan_at site r).actions) _ _ (λ a k. tags_same (record { relay = r; action = a }) (passed (record { relay = r; action = a }))
      (named (record { relay = r; action = a })))))
    where
      tags_same : (link : SiteAction) (tags : List ℕ) → ((tag : ℕ) → Contains tags tag → IsTag copies tag)
          → link_weight (copies ++ c ∷ []) link tags ≡ link_weight copies link tags
      tags_same link [] named = refl
      tags_same link (tag ∷ tags) named =
          let t = named tag (0, omega arith, refl) in
          let r = tags_same link tags (λ x h. named x (ℕ.suc h.0, (let l = h.1 in omega (arith, l)), h.2)) in
          let e : on_link (copies ++ c ∷ []) link tag ≡ on_link copies link tag
          = ap (tag_of (target site link)) (get_more copies tag t.0 c t.1 ∙ sym t.1) in
          omega (arith, r, e)

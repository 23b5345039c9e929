-- Each lawful sound site has a fit certificate: its rows, made from what the class reaches, the site's ranks, and how each entry leads to each archive.
use Rattle.std.proofs.Common.{◌≡◌, ℕ, suc, ◌<◌, ◌≤◌, ◌+◌, ◌*◌, ◌==◌, Bool, true, false, List, [], ◌∷◌, ◌++◌, drop, length, map, get_or, Some, None, refl, sym, ap, subst, ◌∙◌, arith, inl, inr}
use Rattle.std.specs.Prelude.{Contains, ◌⊎◌, ◌↔◌, flat_map, slice_get}
use Rattle.std.specs.List.{list_any}
use Rattle.std.proofs.lemmas.Bool.{cases_eq}
use Rattle.std.proofs.lemmas.List.{drop-append-le, drop_all}
use Rattle.std.proofs.lemmas.Map.Views.{Contains-from_any}
use Rattle.sy_wire.specs.declared.class.Class.{Class}
use Rattle.sy_cert.specs.declared.row.Row.{Row}
use Rattle.sy_cert.specs.declared.row.Row.TheVariants as row
use Rattle.sy_board.specs.relay.Spares.{Scope}
use Rattle.sy_site.specs.declared.site.SiteAction.{SiteAction}
use Rattle.sy_site.specs.declared.site.SiteInput.{SiteInput}
use Rattle.sy_site.specs.Sites.{Site, archives, is_protected, plan_at}
use Rattle.sy_site.specs.machine.Lawful.{IsInput, IsLawful}
use Rattle.sy_site.specs.machine.Reach.{Reach, list_of, onward}
use Rattle.sy_site.specs.machine.Soundness.{AreRanks, IsSound}
use Rattle.sy_board.proofs.relay.Keeps.{Each, each_append}
use Rattle.sy_site.proofs.machine.NoFinding.{no_finding}
use Rattle.sy_fit.specs.Fit.{AreFit, AreRight, AreWanted, ComesBefore, IsFit, IsInner, ListsAll, StandsBefore, paths}
use Rattle.sy_site.specs.Names.{action_name, name_of, port_of}
use Rattle.sy_fit.specs.internal.Order.{AreProtectedBelow, AreRelays, AreRest, AreSorted, IsRest}
use Rattle.sy_flows.specs.Members.{same_input}
use Rattle.sy_checker.specs.internal.Made.{IsMade, IsMadeAt}
use Rattle.sy_flows.specs.declared.lists.InnerList.{InnerList}
use Rattle.sy_fit.specs.internal.Inners.{AreInners}
use Rattle.sy_fit.specs.declared.rows.wanted.Wanted.{Wanted}
use Rattle.sy_fit.specs.declared.rows.wanted.Wanted.TheVariants as wanted
use Rattle.sy_checker.proofs.Complete.{reached_list}
use Rattle.sy_checker.proofs.Falling.{numbers}
use Rattle.sy_flows.proofs.FoundInputs.{not_among, same_is}
use Rattle.sy_fit.proofs.InnerLists.{on}
use Rattle.sy_fit.proofs.InnersSorted.{inner_push, inner_skip, inners_all, inners_first, inners_relay}
use Rattle.sy_checker.proofs.InnersDecided.{is_inner}
use Rattle.sy_fit.proofs.PathsLead.{lead_path}
use Rattle.sy_fit.proofs.Joined.{are_wanted}
use Rattle.sy_fit.proofs.Numbered.{class_push, class_skip, classes_all, classes_first}
use Rattle.sy_checker.proofs.PartsJoined.{right_append}
use Rattle.sy_checker.proofs.RowsMade.{are_right}
use Rattle.sy_fit.proofs.InOrder.{has_input, next_relay, no_input, relay_push, relay_skip, relays_all, relays_first, rest_all, rest_first, rest_push, rest_relay, rest_skip, sorted_all, sorted_first, sorted_push, sorted_skip}
use Rattle.sy_flows.proofs.There.{place_there, reach_there, relay_there}

each_from : {A : Type 0} (P : A → Type 0) (xs : List A) → ((x : A) → Contains xs x → P x) → Each P xs
each_from P [] f = tt
each_from P (y ∷ ys) f = (f y (0, omega arith, refl), each_from P ys (λ x h. f x (ℕ.suc h.0, (let l = h.1 in omega (arith, l)), h.2)))

each_map : {A B : Type 0} (P : B → Type 0) (f : A → B) (xs : List A) → Each (λ x. P (f x)) xs → Each P (map f xs)
each_map P f [] e = tt
each_map P f (x ∷ xs) e = (e.0, each_map P f xs e.1)

each_flat : {A B : Type 0} (P : B → Type 0) (f : A → List B) (xs : List A) → Each (λ x. Each P (f x)) xs → Each P (flat_map f xs)
each_flat P f [] e = tt
each_flat P f (x ∷ xs) e = each_append P (f x) (flat_map f xs) e.0 (each_flat P f xs e.1)

-- ---- classes

record Parts (number : ℕ) : Type 0 where
  pub facility : ℕ
  pub severity : ℕ
  pub low : severity < 8
  pub is : 8 * facility + severity ≡ number

parts : (number : ℕ) → Parts number
parts ℕ.zero = record { facility = 0; severity = 0; low = omega arith; is = refl }
parts (ℕ.suc n) =
    let p = parts n in
    elim (cases_eq p.severity 7) [
      | inl last ↦ record { facility = p.facility + 1; severity = 0; low = omega arith; is = omega (arith, p.is, last) }
      | inr apart ↦ record { facility = p.facility; severity = p.severity + 1; low = omega (arith, p.low, apart); is = omega (arith, p.is) }
    ]

of_number : (number : ℕ) → number < 192 → (class : Class) × (8 * class.facility + class.severity ≡ number)
of_number number few =
    let p = parts number in
    (record { facility = p.facility; severity = p.severity; facility_in_range = omega (arith, p.is, few); severity_in_range = p.low }, p.is)

-- ---- inputs and relays in their order

module _ (site : Site) (found : List SiteInput) (few : (x : SiteInput) → Contains found x → x.relay < length site.relays)
    (places : (x : SiteInput) → Contains found x → x.input < length (plan_at site x.relay).inputs) where
  abbrev input_on : ℕ → ℕ → SiteInput
  input_on relay input = record { relay = relay; input = input }

  sorted_on : (relay : ℕ) (sorted : List SiteInput) → AreSorted found relay 0 sorted → (n : ℕ) → (new : List SiteInput) × AreSorted found relay n new
  sorted_on relay sorted are ℕ.zero = (sorted, are)
  sorted_on relay sorted are (ℕ.suc n) =
      let before = sorted_on relay sorted are n in
      let next : n + 1 ≡ suc n = omega arith in
      go before.0 before.1 next (list_any (same_input (input_on relay n)) found) refl
    where
      go : (old : List SiteInput) → AreSorted found relay n old → n + 1 ≡ suc n → (b : Bool) → list_any (same_input (input_on relay n)) found ≡ b
          → (new : List SiteInput) × AreSorted found relay (suc n) new
      go old is next true e = (
        old ++ input_on relay n ∷ [],
        subst (λ k. AreSorted found relay k (old ++ input_on relay n ∷ [])) next
            (sorted_push found relay n old is (Contains-from_any same_is (input_on relay n) found e)),
      )
      go old is next false e =
          (old, subst (λ k. AreSorted found relay k old) next (sorted_skip found relay n old is (not_among found (input_on relay n) e)))

  sorted_to : (m : ℕ) → (sorted : List SiteInput) × AreSorted found m 0 sorted
  sorted_to ℕ.zero = ([], sorted_first found)
  sorted_to (ℕ.suc m) =
      let before = sorted_to m in
      let most = length (plan_at site m).inputs in
      let all = sorted_on m before.0 before.1 most in
      let next : m + 1 ≡ suc m = omega arith in (
        all.0,
        subst (λ k. AreSorted found k 0 all.0) next
            (next_relay found all.0 m most
            (λ x there same. subst (λ r. x.input < length (plan_at site r).inputs) same (places x there)) all.1),
      )

  sorted : (inputs : List SiteInput) × ListsAll (Contains found) StandsBefore inputs
  sorted = let s = sorted_to (length site.relays) in (s.0, sorted_all found s.0 (length site.relays) few s.1)

-- those of some that aren't among others, in the same order
module _ (site : Site) (every firm : List SiteInput) (few : (x : SiteInput) → Contains every x → x.relay < length site.relays)
    (places : (x : SiteInput) → Contains every x → x.input < length (plan_at site x.relay).inputs) where
  abbrev place_on : ℕ → ℕ → SiteInput
  place_on relay input = record { relay = relay; input = input }

  rest_on : (relay : ℕ) (rest : List SiteInput) → AreRest every firm relay 0 rest → (n : ℕ) → (new : List SiteInput) × AreRest every firm relay n new
  rest_on relay rest are ℕ.zero = (rest, are)
  rest_on relay rest are (ℕ.suc n) =
      let before = rest_on relay rest are n in
      let next : n + 1 ≡ suc n = omega arith in
      go before.0 before.1 next (list_any (same_input (place_on relay n)) every) refl (list_any (same_input (place_on relay n)) firm) refl
    where
      go : (old : List SiteInput) → AreRest every firm relay n old → n + 1 ≡ suc n → (b : Bool) → list_any (same_input (place_on relay n)) every ≡ b
          → (d : Bool) → list_any (same_input (place_on relay n)) firm ≡ d → (new : List SiteInput) × AreRest every firm relay (suc n) new
      go old is next false e d f = (
        old,
        subst (λ k. AreRest every firm relay k old) next
            (rest_skip every firm relay n old is (λ it. not_among every (place_on relay n) e it.there)),
      )
      go old is next true e true f = (
        old,
        subst (λ k. AreRest every firm relay k old) next
            (rest_skip every firm relay n old is (λ it. it.rest (Contains-from_any same_is (place_on relay n) firm f))),
      )
      go old is next true e false f = (
        old ++ place_on relay n ∷ [],
        subst (λ k. AreRest every firm relay k (old ++ place_on relay n ∷ [])) next
            (rest_push every firm relay n old is (record {
              there = Contains-from_any same_is (place_on relay n) every e;
              rest = not_among firm (place_on relay n) f;
            })),
      )

  rest_to : (m : ℕ) → (rest : List SiteInput) × AreRest every firm m 0 rest
  rest_to ℕ.zero = ([], rest_first every firm)
  rest_to (ℕ.suc m) =
      let before = rest_to m in
      let most = length (plan_at site m).inputs in
      let all = rest_on m before.0 before.1 most in
      let next : m + 1 ≡ suc m = omega arith in (
        all.0,
        subst (λ k. AreRest every firm k 0 all.0) next
            (rest_relay every firm all.0 m most
            (λ x there same. subst (λ r. x.input < length (plan_at site r).inputs) same (places x there)) all.1),
      )

  rest : (inputs : List SiteInput) × ListsAll (IsRest every firm) StandsBefore inputs
  rest = let s = rest_to (length site.relays) in (s.0, rest_all every firm s.0 (length site.relays) few s.1)

relays_to : (inputs : List SiteInput) (m : ℕ) → (relays : List ℕ) × AreRelays inputs m relays
relays_to inputs ℕ.zero = ([], relays_first inputs)
relays_to inputs (ℕ.suc m) =
    let before = relays_to inputs m in
    let next : m + 1 ≡ suc m = omega arith in
    go before.0 before.1 next (list_any (λ (i : SiteInput). i.relay == m) inputs) refl
  where
    go : (old : List ℕ) → AreRelays inputs m old → m + 1 ≡ suc m → (b : Bool) → list_any (λ (i : SiteInput). i.relay == m) inputs ≡ b
        → (relays : List ℕ) × AreRelays inputs (suc m) relays
    go old is next true e =
        (old ++ m ∷ [], subst (λ k. AreRelays inputs k (old ++ m ∷ [])) next (relay_push inputs m old is (has_input inputs m e)))
    go old is next false e = (old, subst (λ k. AreRelays inputs k old) next (relay_skip inputs m old is (no_input inputs m e)))

-- ---- lists that posts lead to, in their order

module _ (site : Site) (law : IsLawful site) (class : Class) (found : List SiteInput)
    (firm : (x : SiteInput) → Contains found x ↔ Reach site class Scope.Firm x) where
  inners_on : (relay : ℕ) (inners : List InnerList) → AreInners site class relay 0 inners → (n : ℕ)
      → (new : List InnerList) × AreInners site class relay n new
  inners_on relay inners are ℕ.zero = (inners, are)
  inners_on relay inners are (ℕ.suc n) =
      let before = inners_on relay inners are n in
      let next : n + 1 ≡ suc n = omega arith in
      go before.0 before.1 next (is_inner site law class found firm relay n)
    where
      go : (old : List InnerList) → AreInners site class relay n old → n + 1 ≡ suc n
          → IsInner site class (on relay n) ⊎ (IsInner site class (on relay n) → ⊥) → (new : List InnerList) × AreInners site class relay (suc n) new
      go old are next (inl is) =
          (old ++ on relay n ∷ [], subst (λ k. AreInners site class relay k (old ++ on relay n ∷ [])) next (inner_push site class relay n old are is))
      go old are next (inr none) = (old, subst (λ k. AreInners site class relay k old) next (inner_skip site class relay n old are none))

  inners_to : (m : ℕ) → (inners : List InnerList) × AreInners site class m 0 inners
  inners_to ℕ.zero = ([], inners_first site class)
  inners_to (ℕ.suc m) =
      let before = inners_to m in
      let all = inners_on m before.0 before.1 (length (plan_at site m).lists) in
      let next : m + 1 ≡ suc m = omega arith in
      (all.0, subst (λ k. AreInners site class k 0 all.0) next (inners_relay site law class m all.0 all.1))

  inners_of : (inners : List InnerList) × ListsAll (IsInner site class) ComesBefore inners
  inners_of = let s = inners_to (length site.relays) in (s.0, inners_all site law class (length site.relays) s.0 (omega arith) s.1)

-- ---- ranks as a list

abbrev tabled : (ℕ → ℕ) → ℕ → List ℕ
tabled f ℕ.zero = []
tabled f (ℕ.suc n) = f 0 ∷ tabled (λ k. f (suc k)) n

tabled_at : (f : ℕ → ℕ) (n k : ℕ) → k < n → get_or (tabled f n) k 0 ≡ f k
tabled_at f ℕ.zero k low = absurd (omega (arith, low))
tabled_at f (ℕ.suc n) ℕ.zero low = refl
tabled_at f (ℕ.suc n) (ℕ.suc k) low = tabled_at (λ j. f (suc j)) n k (omega (arith, low))

-- ---- the rows of a class

abbrev Makes : Site → Class → List ℕ → (ℕ → ℕ → ℕ) → Wanted → Type 0
Makes site class ranks number is = (r : Row) × IsMade site class ranks number is r

record Rows (site : Site) (class : Class) (ranks : List ℕ) (number : ℕ → ℕ → ℕ) (part : List Wanted) : Type 0 where
  pub rows : List Row
  pub many : length rows ≡ length part
  pub made : (k : ℕ) (is : Wanted) → slice_get part k ≡ Some is → IsMadeAt site class ranks number rows k is

no_value : {A : Type 0} {x : A} → None ≡ Some x → ⊥
no_value e = cc

one_value : {A : Type 0} {x y : A} → Some x ≡ Some y → x ≡ y
one_value e = cc

rows_of : (site : Site) (class : Class) (ranks : List ℕ) (number : ℕ → ℕ → ℕ) (part : List Wanted) → Each (Makes site class ranks number) part
    → Rows site class ranks number part
rows_of site class ranks number [] each = record { rows = []; many = refl; made = λ k is there. absurd (no_value there) }
rows_of site class ranks number (w ∷ part) each =
    let later = rows_of site class ranks number part each.1 in
    record {
      rows = each.0.0 ∷ later.rows;
      many = ap (λ n. suc n) later.many;
      made = step later;
    }
  where
    step : (later : Rows site class ranks number part) (k : ℕ) (is : Wanted) → slice_get (w ∷ part) k ≡ Some is
        → IsMadeAt site class ranks number (each.0.0 ∷ later.rows) k is
    step later ℕ.zero is there =
        record { stands = each.0.0; there = refl; made = subst (λ x. IsMade site class ranks number x each.0.0) (one_value there) each.0.1 }
    step later (ℕ.suc k) is there =
        let at = later.made k is there in record { stands = at.stands; there = at.there; made = at.made }

record PartRows (site : Site) (class : Class) : Type 0 where
  pub part : List Wanted
  pub wanted_part : AreWanted site class part
  pub rows : List Row
  pub many : length rows ≡ length part
  pub right : AreRight site class part rows

part_rows : (site : Site) → IsLawful site → IsSound site → (class : Class) → is_protected site class ≡ true → PartRows site class
part_rows site law all class protected =
    let sound = all class protected in
    let n = length site.relays in
    let l = reached_list site law class (λ way input kind found. no_finding site all class way input kind (record { protected = protected; found = found })) in
    let f = l Scope.Firm in
    let e = l Scope.Every in
    let places_of : (scope : Scope) (found : List SiteInput) → ((x : SiteInput) → Contains found x → Reach site class scope x)
    → (x : SiteInput) → Contains found x → IsInput site x
    = λ scope found reach x is. reach_there site law class scope x (reach x is) in
    let firm_there = places_of Scope.Firm f.0 (λ x is. (f.1 x).0 is) in
    let every_there = places_of Scope.Every e.0 (λ x is. (e.1 x).0 is) in
    let every_few : (x : SiteInput) → Contains e.0 x → x.relay < n = λ x is. relay_there site x (every_there x is) in
    let s = sorted site f.0 (λ x is. relay_there site x (firm_there x is)) (λ x is. place_there site x (firm_there x is)) in
    let b = rest site e.0 f.0 every_few (λ x is. place_there site x (every_there x is)) in
    let r = relays_to e.0 n in
    let relays = relays_all e.0 r.0 n every_few r.1 in
    let i = inners_of site law class f.0 f.1 in
    let number = (numbers site law class sound.clean).0 in
    let part = ((((([] ++ wanted.Class class ∷ []) ++ map wanted.Reach s.0) ++ map wanted.Branch b.0) ++ map wanted.Rank r.0) ++ map wanted.Inner i.0)
    ++ paths site class in
    let ranks = tabled sound.rank n in
    let low : (x : SiteInput) → Reach site class Scope.Every x → x.relay < n
    = λ x at. relay_there site x (reach_there site law class Scope.Every x at) in
    let falls : AreRanks site class (λ relay. get_or ranks relay 0) = record {
      falls = λ from to number at goes.
          let below = sound.ranks.falls from to number at goes in
          let a = tabled_at sound.rank n from.relay (low from at) in
          let b = tabled_at sound.rank n to.relay (low to (onward number at goes)) in
          omega (arith, below, a, b);
    } in
    let inputs_made : Each (Makes site class ranks number) (map wanted.Reach s.0) = each_map (Makes site class ranks number) (λ x. wanted.Reach x) s.0
    (each_from (λ x. Makes site class ranks number (wanted.Reach x)) s.0
    (λ x is. (row.Reach (name_of site x.relay) (port_of site x), (refl, refl, λ kind other holds. sound.clean x ((f.1 x).0 ((s.1.member x).0 is)) kind holds)))) in
    let branches_made : Each (Makes site class ranks number) (map wanted.Branch b.0) = each_map (Makes site class ranks number) (λ x. wanted.Branch x) b.0
    (each_from (λ x. Makes site class ranks number (wanted.Branch x)) b.0
    (λ x is. (row.Branch (name_of site x.relay) (port_of site x), (refl, refl)))) in
    let ranks_made : Each (Makes site class ranks number) (map wanted.Rank r.0) = each_map (Makes site class ranks number) (λ x. wanted.Rank x) r.0
    (each_from (λ x. Makes site class ranks number (wanted.Rank x)) r.0 (λ x is. (row.Rank (name_of site x) (get_or ranks x 0), refl))) in
    let inners_made : Each (Makes site class ranks number) (map wanted.Inner i.0) = each_map (Makes site class ranks number) (λ x. wanted.Inner x) i.0
    (each_from (λ x. Makes site class ranks number (wanted.Inner x)) i.0
    (λ x is. (row.Inner (name_of site x.relay) x.list (number x.relay x.list), refl))) in
    let paths_made : Each (Makes site class ranks number) (paths site class) =
    each_flat (Makes site class ranks number) (λ (e : SiteInput). map (λ (a : SiteAction). wanted.Path e a) (archives site class)) site.entries
    (each_from (λ e. Each (Makes site class ranks number) (map (λ a. wanted.Path e a) (archives site class))) site.entries
    (λ e is. each_map (Makes site class ranks number) (λ a. wanted.Path e a) (archives site class)
    (each_from (λ a. Makes site class ranks number (wanted.Path e a)) (archives site class)
    (λ a named. (let p = lead_path site class a e.relay (list_of site e) (sound.leads e is a named) in
    (row.Path (name_of site e.relay) (port_of site e) (name_of site a.relay) (action_name site a) p.0, (refl, refl, refl, refl, p.1))))))) in
    let top = [] ++ wanted.Class class ∷ [] in
    let each : Each (Makes site class ranks number) part =
    each_append (Makes site class ranks number)
    ((((top ++ map wanted.Reach s.0) ++ map wanted.Branch b.0) ++ map wanted.Rank r.0) ++ map wanted.Inner i.0) (paths site class)
    (each_append (Makes site class ranks number) (((top ++ map wanted.Reach s.0) ++ map wanted.Branch b.0) ++ map wanted.Rank r.0) (map wanted.Inner i.0)
    (each_append (Makes site class ranks number) ((top ++ map wanted.Reach s.0) ++ map wanted.Branch b.0) (map wanted.Rank r.0)
    (each_append (Makes site class ranks number) (top ++ map wanted.Reach s.0) (map wanted.Branch b.0)
    (each_append (Makes site class ranks number) top (map wanted.Reach s.0) ((row.Class class, refl), tt) inputs_made) branches_made) ranks_made)
    inners_made)
    paths_made in
    let rows = rows_of site class ranks number part each in
    let is_wanted = are_wanted site class f.0 e.0 s.0 b.0 r.0 i.0 part f.1 e.1 s.1 b.1 relays i.1 refl in
    record {
      part = part;
      wanted_part = is_wanted;
      rows = rows.rows;
      many = rows.many;
      right = are_right site class part ranks number rows.rows rows.made is_wanted falls (numbers site law class sound.clean).1;
    }

-- ---- the rows of all classes

rest_behind : (n : ℕ) (rows more : List Row) → length rows ≡ n → drop n (rows ++ more) ≡ more
rest_behind n rows more many =
    drop-append-le n rows more (omega (arith, many)) ∙ ap (λ l. l ++ more) (drop_all n rows (omega (arith, many)))

fit_for : (site : Site) → IsLawful site → IsSound site → (classes : List Class) → Each (λ class. is_protected site class ≡ true) classes
    → (rows : List Row) × AreFit site classes rows
fit_for site law sound [] each = ([], refl)
fit_for site law sound (class ∷ classes) each =
    let one = part_rows site law sound class each.0 in
    let more = fit_for site law sound classes each.1 in (
      one.rows ++ more.0,
      (
        one.part,
        one.wanted_part,
        right_append site class one.part one.rows more.0 one.right,
        subst (AreFit site classes) (sym (rest_behind (length one.part) one.rows more.0 one.many)) more.1,
      ),
    )

classes_to : (site : Site) (n : ℕ) → n ≤ 192 → (classes : List Class) × AreProtectedBelow site n classes
classes_to site ℕ.zero low = ([], classes_first site)
classes_to site (ℕ.suc n) low =
    let before = classes_to site n (omega (arith, low)) in
    let class = of_number n (omega (arith, low)) in
    let next : n + 1 ≡ suc n = omega arith in
    go before.0 before.1 class.0 class.1 next (is_protected site class.0) refl
  where
    go : (old : List Class) → AreProtectedBelow site n old → (class : Class) → 8 * class.facility + class.severity ≡ n → n + 1 ≡ suc n
        → (b : Bool) → is_protected site class ≡ b → (classes : List Class) × AreProtectedBelow site (suc n) classes
    go old are class is next true e =
        (old ++ class ∷ [], subst (λ k. AreProtectedBelow site k (old ++ class ∷ [])) next (class_push site n old class is are e))
    go old are class is next false e = (old, subst (λ k. AreProtectedBelow site k old) next (class_skip site n old class is are e))

pub sound_has_fit : (site : Site) → IsLawful site → IsSound site → (rows : List Row) × IsFit site rows
sound_has_fit site law sound =
    let c = classes_to site 192 (omega arith) in
    let protected = classes_all site c.0 192 (omega arith) c.1 in
    let fit = fit_for site law sound c.0 (each_from (λ class. is_protected site class ≡ true) c.0 (λ class is. (protected.member class).0 is)) in
    (fit.0, record { classes = c.0; protected = protected; fit = fit.1 })

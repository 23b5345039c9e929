-- Numbers of lists, by the posts that follow one another.
use Rattle.std.proofs.Common.{◌≡◌, ℕ, suc, ◌<◌, ◌≤◌, ◌+◌, ◌==◌, ◌||◌, Bool, true, false, if◌then◌else◌, List, [], ◌∷◌, ◌++◌, drop, length, map, get_or, take, Option, Some, refl, sym, ap, subst, ◌∙◌, arith, inl, inr, eqb-true, eq-eqb, append_assoc, length-append}
use Rattle.std.specs.Prelude.{Contains, ◌⊎◌, slice_get}
use Rattle.std.specs.List.{AllByRecursion, IsDistinct, list_any}
use Rattle.std.proofs.lemmas.Bool.{cases_eq, cases_lt, false≢true}
use Rattle.std.proofs.lemmas.List.{drop_more, length_push, take_all, take_more}
use Rattle.std.proofs.lemmas.List.Elements.{Contains-append_left, Contains-push, Contains-push_cases}
use Rattle.sy_wire.specs.declared.class.Class.{Class}
use Rattle.sy_rules.specs.declared.lists.occurrence.Occurrence.{Occurrence}
use Rattle.sy_rules.specs.declared.lists.occurrence.Occurrence.TheVariants as occurrence
use Rattle.sy_board.specs.relay.Spares.{Scope, more, once, own, posted}
use Rattle.sy_site.specs.declared.site.SiteInput.{SiteInput}
use Rattle.sy_site.specs.Sites.{Site, plan_at}
use Rattle.sy_site.specs.machine.Findings.{IsInnerLoop}
use Rattle.sy_site.specs.machine.Lawful.{IsInput}
use Rattle.sy_site.specs.machine.Reach.{Follows, MayDo, PostsOn, Reach, list_of, occurrence_at}
use Rattle.sy_flows.specs.declared.flows.executed.Executed.TheVariants as executed
use Rattle.sy_checker.specs.declared.inner.Halt.{Halt}
use Rattle.sy_checker.specs.declared.inner.Halt.TheVariants as halt
use Rattle.sy_checker.specs.declared.inner.ListNumber.{ListNumber}
use Rattle.sy_checker.specs.declared.inner.RelayNumbers.{RelayNumbers}
use Rattle.sy_flows.specs.declared.lists.InnerList.{InnerList}
use Rattle.sy_fit.specs.Fit.{IsInner}
use Rattle.sy_flows.specs.Flows.{AreEach, IsSet}
use Rattle.sy_flows.specs.Hops.{AreApart}
use Rattle.sy_checker.specs.internal.Inner.{AreAllDone, AreDone, AreGreatest, AreNumbered, AreNumbers, AreOnWay, AreOpen, HasNoNumbers, HasNone, HasNumbers, IsAsked, IsAskedBy, IsDone, IsDoneBelow, IsHalted, IsOnWay, KeepsDone, KeepsNumbers, PostsFollow, PostsTo, ended_so, ends, goes_on, number_at, number_in, number_of}
use Rattle.sy_flows.specs.Members.{HasNoneFrom, IsNextIn}
use Rattle.sy_fit.proofs.Comparing.{from_map}
use Rattle.sy_fit.proofs.Followed.{followed_by, posts_then}
use Rattle.sy_flows.proofs.Walking.{apart_few, more_apart, none_apart, one_value}

abbrev pub list_in : ListNumber → ℕ
list_in x = x.list

abbrev pub numbered : ℕ → ℕ → ListNumber
numbered list number = record { list = list; number = number }

-- ---- the number of a list among some

first_of : (x : ListNumber) (list number : ℕ) → x.list ≡ list → x.number ≡ number → x ≡ numbered list number
first_of x list number a b = λ i. record { list = a i; number = b i }

one_on : (x : ListNumber) (xs : List ListNumber) (y : ListNumber) → Contains xs y → Contains (x ∷ xs) y
one_on x xs y (k, low, is) = (suc k, omega (arith, low), is)

-- the first of that list has it
pub number_there : (xs : List ListNumber) (list : ℕ) → list_any (λ (x : ListNumber). x.list == list) xs ≡ true
    → Contains xs (numbered list (number_in xs list))
number_there [] list e = absurd (false≢true e)
number_there (x ∷ xs) list e = go (λ r. number_there xs list r) (x.list == list) refl
  where
    rest : (b : Bool) → b ≡ false → (b || list_any (λ (y : ListNumber). y.list == list) xs) ≡ true → list_any (λ (y : ListNumber). y.list == list) xs ≡ true
    rest b is all = sym (ap (λ c. c || list_any (λ (y : ListNumber). y.list == list) xs) is) ∙ all

    go : (list_any (λ (y : ListNumber). y.list == list) xs ≡ true → Contains xs (numbered list (number_in xs list))) → (b : Bool)
        → (x.list == list) ≡ b → Contains (x ∷ xs) (numbered list (number_in (x ∷ xs) list))
    go on true is = (
      0,
      omega arith,
      first_of x list (number_in (x ∷ xs) list) (eqb-true x.list list is) (sym (ap (λ c. if c then x.number else number_in xs list) is)),
    )
    go on false is =
        subst (λ n. Contains (x ∷ xs) (numbered list n)) (sym (ap (λ c. if c then x.number else number_in xs list) is))
        (one_on x xs (numbered list (number_in xs list)) (on (rest (x.list == list) is e)))

pub any_there : (xs : List ListNumber) (x : ListNumber) → Contains xs x → list_any (λ (y : ListNumber). y.list == x.list) xs ≡ true
any_there [] x (k, low, is) = absurd (omega (arith, low))
any_there (y ∷ ys) x (ℕ.zero, low, is) =
    ap (λ b. b || list_any (λ (z : ListNumber). z.list == x.list) ys) (eq-eqb y.list x.list (ap list_in is))
any_there (y ∷ ys) x (ℕ.suc k, low, is) =
    ap (λ b. (y.list == x.list) || b) (any_there ys x (k, omega (arith, low), is)) ∙ or_true (y.list == x.list)
  where
    or_true : (b : Bool) → (b || true) ≡ true
    or_true true = refl
    or_true false = refl

pub any_done : (xs : List ListNumber) (list : ℕ) → IsDone xs list → list_any (λ (y : ListNumber). y.list == list) xs ≡ true
any_done xs list d = subst (λ l. list_any (λ (y : ListNumber). y.list == l) xs ≡ true) d.is (any_there xs d.entry d.there)

pub no_test : (a b : ℕ) → (a ≡ b → ⊥) → (a == b) ≡ false
no_test a b apart = go (a == b) refl
  where
    go : (t : Bool) → (a == b) ≡ t → (a == b) ≡ false
    go true is = absurd (apart (eqb-true a b is))
    go false is = is

-- one after the other
step : (xs : List ListNumber) (k list : ℕ) (d : ListNumber) → k < length xs
    → number_in (drop k xs) list ≡ if (get_or xs k d).list == list then (get_or xs k d).number else number_in (drop (k + 1) xs) list
step xs k list d low = ap (λ l. number_in l list) (drop_more xs k d low)

pub number_here : (xs : List ListNumber) (k list : ℕ) (d : ListNumber) → k < length xs → ((get_or xs k d).list == list) ≡ true
    → number_in (drop k xs) list ≡ (get_or xs k d).number
number_here xs k list d low same =
    step xs k list d low ∙ ap (λ b. if b then (get_or xs k d).number else number_in (drop (k + 1) xs) list) same

pub number_next : (xs : List ListNumber) (k list : ℕ) (d : ListNumber) → k < length xs → ((get_or xs k d).list == list) ≡ false
    → number_in (drop k xs) list ≡ number_in (drop (k + 1) xs) list
number_next xs k list d low other =
    step xs k list d low ∙ ap (λ b. if b then (get_or xs k d).number else number_in (drop (k + 1) xs) list) other

-- where no list stands twice
in_map : (xs : List ListNumber) (x : ListNumber) → Contains xs x → Contains (map list_in xs) x.list
in_map [] x (k, low, is) = absurd (omega (arith, low))
in_map (y ∷ ys) x (ℕ.zero, low, is) = (0, omega arith, ap list_in is)
in_map (y ∷ ys) x (ℕ.suc k, low, is) =
    let later = in_map ys x (k, omega (arith, low), is) in
    (suc later.0, omega (arith, later.1), later.2)

all_other : (x : ℕ) (xs : List ℕ) → AllByRecursion (λ y. (x == y) ≡ false) xs → (y : ℕ) → Contains xs y → (x == y) ≡ false
all_other x [] all y (k, low, is) = absurd (omega (arith, low))
all_other x (z ∷ zs) all y (ℕ.zero, low, is) = subst (λ v. (x == v) ≡ false) is all.0
all_other x (z ∷ zs) all y (ℕ.suc k, low, is) = all_other x zs all.1 y (k, omega (arith, low), is)

pub number_is : (xs : List ListNumber) (x : ListNumber) → IsDistinct ◌==◌ (map list_in xs) → Contains xs x → number_in xs x.list ≡ x.number
unfolding IsDistinct
number_is [] x apart (k, low, is) = absurd (omega (arith, low))
number_is (y ∷ ys) x apart (ℕ.zero, low, is) =
    ap (λ b. if b then y.number else number_in ys x.list) (eq-eqb y.list x.list (ap list_in is)) ∙ ap (λ (z : ListNumber). z.number) is
number_is (y ∷ ys) x apart (ℕ.suc k, low, is) = go (number_is ys x apart.1 (k, omega (arith, low), is)) (y.list == x.list) refl
  where
    later : Contains ys x
    later = (k, omega (arith, low), is)

    go : number_in ys x.list ≡ x.number → (b : Bool) → (y.list == x.list) ≡ b → number_in (y ∷ ys) x.list ≡ x.number
    go on true same =
        absurd (false≢true (sym (all_other y.list (map list_in ys) apart.0 x.list (in_map ys x later)) ∙ same))
    go on false other = ap (λ b. if b then y.number else number_in ys x.list) other ∙ on

-- ---- what is done

pub kept_there : (old new : List ListNumber) → KeepsDone old new → (x : ListNumber) → Contains old x → Contains new x
kept_there old new kept x is = subst (λ l. Contains l x) (sym kept.1) (Contains-append_left old kept.0 x is)

pub kept_length : (old new : List ListNumber) → KeepsDone old new → length old ≤ length new
kept_length old new kept = let both = ap length kept.1 ∙ length-append old kept.0 in omega (arith, both)

pub kept_all : (xs : List ListNumber) → KeepsDone xs xs
kept_all xs = ([], sym (append_nil xs))
  where
    append_nil : (ys : List ListNumber) → ys ++ [] ≡ ys
    append_nil [] = refl
    append_nil (y ∷ ys) = ap (λ l. y ∷ l) (append_nil ys)

pub kept_on : (a b d : List ListNumber) → KeepsDone a b → KeepsDone b d → KeepsDone a d
kept_on a b d first second = (
  first.0 ++ second.0,
  second.1 ∙ ap (λ l. l ++ second.0) first.1 ∙ append_assoc a first.0 second.0,
)

pub kept_one : (old new last : List ListNumber) (x : ListNumber) → KeepsDone old new → last ≡ new ++ x ∷ [] → KeepsDone old last
kept_one old new last x kept is = kept_on old new last kept (x ∷ [], is)

below_still : (old new : List ListNumber) (list most : ℕ) → KeepsDone old new → IsDoneBelow old list most → IsDoneBelow new list most
below_still old new list most kept b = record { entry = b.entry; there = kept_there old new kept b.entry b.there; is = b.is; below = b.below }

pub done_still : (old new : List ListNumber) (list : ℕ) → KeepsDone old new → IsDone old list → IsDone new list
done_still old new list kept d = record { entry = d.entry; there = kept_there old new kept d.entry d.there; is = d.is }

below_more : (done : List ListNumber) (list a b : ℕ) → a ≤ b → IsDoneBelow done list a → IsDoneBelow done list b
below_more done list a b le d = record { entry = d.entry; there = d.there; is = d.is; below = (let low = d.below in omega (arith, low, le)) }

in_list : (done : List ListNumber) (list : ℕ) → Contains (map list_in done) list → IsDone done list
in_list done list is = let found = from_map list_in done list is in record { entry = found.0; there = found.1; is = found.2 }

map_length : (xs : List ListNumber) → length (map list_in xs) ≡ length xs
map_length [] = refl
map_length (x ∷ xs) = ap suc (map_length xs)

map_push : (xs : List ListNumber) (x : ListNumber) → map list_in (xs ++ x ∷ []) ≡ map list_in xs ++ x.list ∷ []
map_push [] x = refl
map_push (y ∷ ys) x = ap (λ l. y.list ∷ l) (map_push ys x)

module _ (site : Site) (class : Class) (relay : ℕ) where
  pub done_none : AreDone site class relay []
  done_none = record {
    apart = none_apart (length (plan_at site relay).lists);
    falls = λ x to (k, low, is) posts. absurd (omega (arith, low));
    follow = λ x (k, low, is). absurd (omega (arith, low));
    small = λ x (k, low, is). absurd (omega (arith, low));
  }

  pub done_few : (done : List ListNumber) → AreDone site class relay done → length done ≤ length (plan_at site relay).lists
  done_few done are =
      let few = apart_few (length (plan_at site relay).lists) (map list_in done) are.apart in
      let same = map_length done in
      omega (arith, few, same)

  -- one list more
  pub done_more : (done last : List ListNumber) (list number : ℕ) → AreDone site class relay done → (IsDone done list → ⊥)
      → list < length (plan_at site relay).lists → IsAsked site class relay done list number → last ≡ done ++ numbered list number ∷ []
      → AreDone site class relay last
  done_more done last list number are fresh low asked is = subst (AreDone site class relay) (sym is) (record {
    apart = subst (AreApart (length (plan_at site relay).lists)) (sym (map_push done it))
        (more_apart (length (plan_at site relay).lists) (map list_in done) list are.apart (λ there. fresh (in_list done list there)) low);
    falls = λ x to there posts. elim (Contains-push_cases done it x there) [
      | inl before ↦ below_still done next to x.number grows (are.falls x to before posts)
      | inr here ↦ below_still done next to x.number grows
          (subst (λ (y : ListNumber). IsDoneBelow done to y.number) here
          (asked.above to (subst (λ (y : ListNumber). PostsTo site class relay y.list to) (sym here) posts)))
    ];
    follow = λ x there. elim (Contains-push_cases done it x there) [
      | inl before ↦ are.follow x before
      | inr here ↦ subst (λ (y : ListNumber). PostsFollow site class relay y.list y.number) here asked.follow
    ];
    small = λ x there. elim (Contains-push_cases done it x there) [
      | inl before ↦ (let small = are.small x before in let long = length_push done it in omega (arith, small, long))
      | inr here ↦ (let small = asked.small in let long = length_push done it in let same = ap (λ (y : ListNumber). y.number) here in omega (arith, small, long, same))
    ];
  })
    where
      it : ListNumber
      it = numbered list number

      next : List ListNumber
      next = done ++ it ∷ []

      grows : KeepsDone done next
      grows = (it ∷ [], refl)

  -- what is done has all that posts lead to
  pub done_on : (done : List ListNumber) → AreDone site class relay done → {from to : ℕ} → IsDone done from → PostsOn site class Scope.Firm relay from to
      → IsDone done to
  done_on done are {from} {to} has (once number does) =
      let next = are.falls has.entry to has.there (number, subst (λ l. MayDo site class Scope.Firm relay l number (occurrence.Post to)) (sym has.is) does) in
      record { entry = next.entry; there = next.there; is = next.is }
  done_on done are has (more {mid = mid} number does later) =
      let next = are.falls has.entry mid has.there (number, subst (λ l. MayDo site class Scope.Firm relay l number (occurrence.Post mid)) (sym has.is) does) in
      done_on done are (record { entry = next.entry; there = next.there; is = next.is }) later

  pub done_below : (done : List ListNumber) → AreDone site class relay done → {from to : ℕ} (x : ListNumber) → Contains done x → x.list ≡ from
      → PostsOn site class Scope.Firm relay from to → IsDoneBelow done to x.number
  done_below done are {from} {to} x there is (once number does) =
      are.falls x to there (number, subst (λ l. MayDo site class Scope.Firm relay l number (occurrence.Post to)) (sym is) does)
  done_below done are {from} {to} x there is (more {mid = mid} number does later) =
      let next = are.falls x mid there (number, subst (λ l. MayDo site class Scope.Firm relay l number (occurrence.Post mid)) (sym is) does) in
      let low = next.below in
      below_more done to next.entry.number x.number (omega (arith, low)) (done_below done are next.entry next.there next.is later)

  -- so no list comes back to itself
  pub done_once : (done : List ListNumber) → AreDone site class relay done → {list : ℕ} → IsDone done list → PostsOn site class Scope.Firm relay list list → ⊥
  done_once done are {list} has again =
      let below = done_below done are has.entry has.there has.is again in
      let a = number_is done has.entry are.apart.distinct has.there in
      let b = number_is done below.entry are.apart.distinct below.there in
      let same = ap (number_in done) (below.is ∙ sym has.is) in
      let low = below.below in
      omega (arith, a, b, same, low)

  -- and no number of posts that follow is greater
  pub done_most : (done : List ListNumber) → AreDone site class relay done → {list m : ℕ} (x : ListNumber) → Contains done x → x.list ≡ list
      → PostsFollow site class relay list m → m ≤ x.number
  done_most done are x there is ends = omega arith
  done_most done are x there is (goes_on {list} {to} {n} posts later) =
      let next = are.falls x to there (subst (λ l. PostsTo site class relay l to) (sym is) posts) in
      let rest = done_most done are next.entry next.there next.is later in
      let low = next.below in
      omega (arith, rest, low)

-- ---- the way

pub open_none : (done : List ListNumber) → AreOpen [] done
open_none done list (k, low, is) d = omega (arith, low)

-- a list that isn't done is put on the way
pub open_on : (way next : List ℕ) (list : ℕ) (done : List ListNumber) → next ≡ way ++ list ∷ [] → AreOpen way done → (IsDone done list → ⊥) → AreOpen next done
open_on way next list done is undone fresh x on d = elim (Contains-push_cases way list x (subst (λ l. Contains l x) is on)) [
  | inl before ↦ undone x before d
  | inr here ↦ fresh (subst (IsDone done) (sym here) d)
]

pub open_back : (way next : List ℕ) (list : ℕ) (done : List ListNumber) → next ≡ way ++ list ∷ [] → AreOpen next done → IsDone done list → ⊥
open_back way next list done is undone d = undone list (subst (λ l. Contains l list) (sym is) (Contains-push way list)) d

-- when it is done it isn't on the way any more
pub open_done : (way next : List ℕ) (list number : ℕ) (done last : List ListNumber) → next ≡ way ++ list ∷ [] → AreOpen next done
    → (Contains way list → ⊥) → last ≡ done ++ numbered list number ∷ [] → AreOpen way last
open_done way next list number done last is undone new grown x on d =
    elim (Contains-push_cases done (numbered list number) d.entry (subst (λ l. Contains l d.entry) grown d.there)) [
      | inl before ↦
          undone x (subst (λ l. Contains l x) (sym is) (Contains-append_left way (list ∷ []) x on)) (record { entry = d.entry; there = before; is = d.is })
      | inr here ↦ new (subst (Contains way) (sym (ap list_in here ∙ d.is)) on)
    ]

module _ (site : Site) (class : Class) (input : SiteInput) where
  pub way_begins : (way : List ℕ) → way ≡ [] → IsOnWay site class input way (list_of site input)
  way_begins way is = record {
    follows = own;
    leads = λ before on. (let (k, low, e) = subst (λ l. Contains l before) is on in absurd (omega (arith, low)));
    apart = subst (AreApart (length (plan_at site input.relay).lists)) (sym is) (none_apart (length (plan_at site input.relay).lists));
  }

  pub way_on : (way next : List ℕ) (list : ℕ) → next ≡ way ++ list ∷ [] → IsOnWay site class input way list → (Contains way list → ⊥)
      → list < length (plan_at site input.relay).lists → AreOnWay site class input next list
  way_on way next list is on new low = record {
    each = λ to posts. record {
      follows = posted posts.0 on.follows posts.1;
      leads = λ before there. elim (Contains-push_cases way list before (subst (λ l. Contains l before) is there)) [
        | inl earlier ↦ posts_then site class Scope.Firm input.relay posts.0 (on.leads before earlier) posts.1
        | inr here ↦ once posts.0 (subst (λ l. MayDo site class Scope.Firm input.relay l posts.0 (occurrence.Post to)) here posts.1)
      ];
      apart = subst (AreApart (length (plan_at site input.relay).lists)) (sym is)
          (more_apart (length (plan_at site input.relay).lists) way list on.apart new low);
    };
  }

  -- a list on the way is met again
  pub way_loops : (way : List ℕ) (list : ℕ) → IsOnWay site class input way list → Contains way list → IsInnerLoop site class input
  way_loops way list on there = record { list = list; follows = on.follows; again = on.leads list there }

  -- posts lead from the input's own list to one that comes back to itself
  pub loop_posts : (loop : IsInnerLoop site class input) → PostsOn site class Scope.Firm input.relay (list_of site input) loop.list
  loop_posts loop = elim (followed_by site class Scope.Firm input loop.follows) [
    | inl same ↦ subst (λ l. PostsOn site class Scope.Firm input.relay l loop.list) same loop.again
    | inr posts ↦ posts
  ]

  -- where the input's own list is done, all are
  pub all_done : (done : List ListNumber) (list : ℕ) {number : ℕ} → list ≡ list_of site input → Contains done (numbered list number)
      → AreDone site class input.relay done → AreAllDone site class input done
  all_done done list {number} is there are to posts =
      done_on site class input.relay done are (record { entry = numbered list number; there = there; is = is }) posts

  pub all_once : (done : List ListNumber) → AreDone site class input.relay done → AreAllDone site class input done → IsInnerLoop site class input → ⊥
  all_once done are all loop = done_once site class input.relay done are (all loop.list (loop_posts loop)) loop.again

-- ---- what the posts of a list ask for

-- of the occurrences below a number
pub record IsAskedBelow (site : Site) (class : Class) (relay : ℕ) (done : List ListNumber) (list most number : ℕ) : Type 0 where
  pub above : (post to : ℕ) → post < most → MayDo site class Scope.Firm relay list post (occurrence.Post to) → IsDoneBelow done to number
  pub follow : PostsFollow site class relay list number
  pub small : number ≤ length done

module _ (site : Site) (class : Class) (relay : ℕ) where
  pub asked_none : (done : List ListNumber) (list : ℕ) → IsAskedBelow site class relay done list 0 0
  asked_none done list = record { above = λ post to low does. absurd (omega (arith, low)); follow = ends; small = omega arith }

  pub asked_more : (old new : List ListNumber) (list set behind at a b n : ℕ) → IsSet site class executed.Firm relay list set → IsNextIn set behind at
      → KeepsDone old new → IsAskedBelow site class relay old list behind a → IsAskedBy site class relay new list at b → a ≤ n → b ≤ n
      → (n ≡ a) ⊎ (n ≡ b) → IsAskedBelow site class relay new list (at + 1) n
  asked_more old new list set behind at a b n is_set next kept before here le_a le_b is = record {
    above = λ post to low does. elim (cases_lt post behind) [
      | inl earlier ↦ below_more new to a n le_a (below_still old new to a kept (before.above post to earlier does))
      | inr later ↦ elim (cases_eq post at) [
        | inl same ↦ below_more new to b n le_b
            (here.above to (subst (λ k. MayDo site class Scope.Firm relay list k (occurrence.Post to)) same does))
        | inr apart ↦ absurd (next.lowest post later (omega (arith, low, apart)) (is_set.whole post (occurrence.Post to) does))
      ]
    ];
    follow = elim is [
      | inl first ↦ subst (PostsFollow site class relay list) (sym first) before.follow
      | inr second ↦ subst (PostsFollow site class relay list) (sym second) here.follow
    ];
    small = elim is [
      | inl first ↦ (let low = before.small in let long = kept_length old new kept in omega (arith, first, low, long))
      | inr second ↦ (let low = here.small in omega (arith, second, low))
    ];
  }

  pub asked_all : (done : List ListNumber) (list set behind n : ℕ) → IsSet site class executed.Firm relay list set → HasNoneFrom set behind
      → IsAskedBelow site class relay done list behind n → IsAsked site class relay done list n
  asked_all done list set behind n is_set none asked = record {
    above = λ to posts. elim (cases_lt posts.0 behind) [
      | inl earlier ↦ asked.above posts.0 to earlier posts.1
      | inr later ↦ absurd (none posts.0 later (is_set.whole posts.0 (occurrence.Post to) posts.1))
    ];
    follow = asked.follow;
    small = asked.small;
  }

  -- a post asks for one more than its list
  post_of : (is : Occurrence) (a b : ℕ) → Some (occurrence.Post a) ≡ Some is → is ≡ occurrence.Post b → a ≡ b
  post_of is a b first second = cc

  pub asked_by_post : (done : List ListNumber) (list at inner number : ℕ) → AreDone site class relay done
      → occurrence_at site relay list at ≡ Some (occurrence.Post inner)
      → MayDo site class Scope.Firm relay list at (occurrence.Post inner) → Contains done (numbered inner number)
      → IsAskedBy site class relay done list at (number + 1)
  asked_by_post done list at inner number are here does there = record {
    above = λ to goes.
        subst (λ l. IsDoneBelow done l (number + 1)) (post_of (occurrence.Post to) inner to (sym here ∙ goes.found) refl)
        (record { entry = numbered inner number; there = there; is = refl; below = omega arith });
    follow = goes_on (at, does) (are.follow (numbered inner number) there);
    small = (let small = are.small (numbered inner number) there in omega (arith, small));
  }

  -- anything else asks for nothing
  pub asked_by_none : (done : List ListNumber) (list at : ℕ) → ((to : ℕ) → occurrence_at site relay list at ≡ Some (occurrence.Post to) → ⊥)
      → IsAskedBy site class relay done list at 0
  asked_by_none done list at none = record {
    above = λ to goes. absurd (none to goes.found);
    follow = ends;
    small = omega arith;
  }

-- ---- numbers of all relays

pub numbers_begin : (site : Site) (class : Class) (numbers : List RelayNumbers) → AreEach HasNone (length site.relays) numbers → AreNumbered site class numbers
numbers_begin site class numbers none = record {
  length_is = none.length_is;
  each = λ relay x is. subst (AreDone site class relay) (sym (none.each relay x is)) (done_none site class relay);
}

pub numbers_still : (site : Site) (class : Class) (old new : List RelayNumbers) (input : SiteInput) → KeepsNumbers old new → HasNumbers site class old input
    → HasNumbers site class new input
numbers_still site class old new input kept has =
    let after = kept input.relay has.own has.stands in
    record {
      own = after.0;
      stands = after.1;
      done = λ to posts. done_still has.own.lists.items after.0.lists.items to after.2 (has.done to posts);
    }

module _ (site : Site) (class : Class) (inputs : List SiteInput) (numbers : List RelayNumbers) (are : AreNumbered site class numbers)
    (reached : (x : SiteInput) → Reach site class Scope.Firm x → Contains inputs x)
    (all : (x : SiteInput) → Contains inputs x → HasNumbers site class numbers x) where
  -- the number of a list that posts lead to
  record IsNumberOf (inner : InnerList) : Type 0 where
    its : RelayNumbers
    stands : slice_get numbers inner.relay ≡ Some its
    done : AreDone site class inner.relay its.lists.items
    entry : ListNumber
    there : Contains its.lists.items entry
    is : entry.list ≡ inner.list
    number : number_at numbers inner.relay inner.list ≡ entry.number

  read : (relay list : ℕ) (it : RelayNumbers) → slice_get numbers relay ≡ Some it → number_at numbers relay list ≡ number_in it.lists.items list
  read relay list it is = ap (λ o. number_of o list) is

  number_found : (inner : InnerList) → IsInner site class inner → IsNumberOf inner
  number_found inner is =
      let has = all is.input (reached is.input is.reached) in
      let stands : slice_get numbers inner.relay ≡ Some has.own = subst (λ r. slice_get numbers r ≡ Some has.own) is.at has.stands in
      let done = are.each inner.relay has.own stands in
      let it = has.done inner.list (subst (λ r. PostsOn site class Scope.Firm r (list_of site is.input) inner.list) (sym is.at) is.posted) in
      record {
        its = has.own;
        stands = stands;
        done = done;
        entry = it.entry;
        there = it.there;
        is = it.is;
        number = read inner.relay inner.list has.own stands ∙ ap (number_in has.own.lists.items) (sym it.is)
            ∙ number_is has.own.lists.items it.entry done.apart.distinct it.there;
      }

  pub numbers_fall : AreNumbers site class (number_at numbers)
  numbers_fall inner to is posts =
      let it = number_found inner is in
      let next = it.done.falls it.entry to it.there (subst (λ l. PostsTo site class inner.relay l to) (sym it.is) posts) in
      let below = read inner.relay to it.its it.stands ∙ ap (number_in it.its.lists.items) (sym next.is)
      ∙ number_is it.its.lists.items next.entry it.done.apart.distinct next.there in
      let low = next.below in
      let number = it.number in
      omega (arith, below, low, number)

  pub numbers_most : AreGreatest site class (number_at numbers)
  numbers_most inner is =
      let it = number_found inner is in (
        subst (PostsFollow site class inner.relay inner.list) (sym it.number)
            (subst (λ l. PostsFollow site class inner.relay l it.entry.number) it.is (it.done.follow it.entry it.there)),
        λ m follow. subst (λ n. m ≤ n) (sym it.number) (done_most site class inner.relay it.its.lists.items it.done it.entry it.there it.is follow),
      )

-- ---- input after input

module _ (site : Site) (class : Class) where
  pub all_first : (numbers : List RelayNumbers) (x : SiteInput) → Contains [] x → HasNumbers site class numbers x
  all_first numbers x (k, low, is) = absurd (omega (arith, low))

  pub all_more : (inputs : List SiteInput) (n : ℕ) (d : SiteInput) (old new : List RelayNumbers) → n < length inputs → KeepsNumbers old new
      → ((x : SiteInput) → Contains (take n inputs) x → HasNumbers site class old x) → HasNumbers site class new (get_or inputs n d) → (x : SiteInput)
      → Contains (take (n + 1) inputs) x → HasNumbers site class new x
  all_more inputs n d old new low kept before here x is =
      elim (Contains-push_cases (take n inputs) (get_or inputs n d) x (subst (λ l. Contains l x) (take_more inputs n d low) is)) [
        | inl earlier ↦ numbers_still site class old new x kept (before x earlier)
        | inr same ↦ subst (HasNumbers site class new) same here
      ]

  pub all_numbered : (inputs : List SiteInput) (n : ℕ) (numbers : List RelayNumbers) → length inputs ≤ n
      → ((x : SiteInput) → Contains (take n inputs) x → HasNumbers site class numbers x) → (x : SiteInput) → Contains inputs x → HasNumbers site class numbers x
  all_numbered inputs n numbers all has x is = has x (subst (λ l. Contains l x) (sym (take_all n inputs all)) is)

  -- why the search ended at a place
  pub ended_at : (inputs : List SiteInput) (place : ℕ) (input : SiteInput) (why : Halt) → slice_get inputs place ≡ Some input → IsHalted site class input why
      → HasNoNumbers site class inputs (ended_so why place)
  ended_at inputs place input halt.NoMemory stands is = tt
  ended_at inputs place input halt.Loop stands is = record { input = input; stands = stands; loops = is }

-- ---- where there are numbers, no list is met twice

module _ (site : Site) (class : Class) (number : ℕ → ℕ → ℕ) (numbers : AreNumbers site class number) where
  falls_on : (relay : ℕ) {from to : ℕ} → IsInner site class (record { relay = relay; list = from }) → PostsOn site class Scope.Firm relay from to
      → number relay to < number relay from
  falls_on relay {from} {to} is (once post does) = numbers (record { relay = relay; list = from }) to is (post, does)
  falls_on relay {from} {to} is (more {mid = mid} post does later) =
      let first = numbers (record { relay = relay; list = from }) mid is (post, does) in
      let rest = falls_on relay (record {
        input = is.input;
        at = is.at;
        reached = is.reached;
        posted = posts_then site class Scope.Firm relay post is.posted does;
      }) later in
      omega (arith, first, rest)

  pub no_inner_loop : (input : SiteInput) → Reach site class Scope.Firm input → IsInnerLoop site class input → ⊥
  no_inner_loop input reach loop =
      let low = falls_on input.relay (record { input = input; at = refl; reached = reach; posted = loop_posts site class input loop }) loop.again in
      omega (arith, low)

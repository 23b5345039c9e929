-- Numbers of lists, where from no input a list is met twice: how many posts follow, counted along each chain of them.
use Rattle.std.proofs.Common.{◌≡◌, ℕ, suc, ◌<◌, ◌≤◌, ◌+◌, Bool, true, false, List, [], ◌∷◌, ◌++◌, length, Some, refl, sym, ap, subst, ◌∙◌, arith, inl, inr, eqb, eqb-true}
use Rattle.std.specs.Prelude.{Contains, ◌⊎◌}
use Rattle.std.specs.List.{list_any}
use Rattle.std.proofs.lemmas.Bool.{false≢true}
use Rattle.std.proofs.lemmas.Cmp.{nat_eq_equiv}
use Rattle.std.proofs.lemmas.List.{length_push}
use Rattle.std.proofs.lemmas.List.Elements.{Contains-push_cases}
use Rattle.std.proofs.lemmas.Map.Views.{Contains-from_any}
use Rattle.sy_wire.specs.declared.class.Class.{Class}
use Rattle.sy_rules.specs.declared.lists.occurrence.Occurrence.TheVariants as occurrence
use Rattle.sy_board.specs.relay.Spares.{Scope, more, once, own}
use Rattle.sy_site.specs.Sites.{Site, plan_at}
use Rattle.sy_site.specs.machine.Findings.{HoldsAt, Kind}
use Rattle.sy_site.specs.machine.Lawful.{IsLawful}
use Rattle.sy_site.specs.machine.Reach.{PostsOn, Reach, list_of}
use Rattle.sy_site.specs.declared.site.SiteInput.{SiteInput}
use Rattle.sy_flows.specs.declared.lists.InnerList.{InnerList}
use Rattle.sy_fit.specs.Fit.{IsInner}
use Rattle.sy_flows.specs.Hops.{AreApart}
use Rattle.sy_checker.specs.internal.Inner.{AreNumbers, PostsTo}
use Rattle.sy_fit.proofs.InnerLists.{inner_on, last_post, on, on_follows, posts_join}
use Rattle.sy_checker.proofs.InnersDecided.{next, next_has, next_is}
use Rattle.sy_fit.proofs.Listing.{In}
use Rattle.sy_flows.proofs.Used.{posted_there}
use Rattle.sy_flows.proofs.Walking.{apart_room, more_apart, none_apart}

-- ---- sums

abbrev sum : (ℕ → ℕ) → List ℕ → ℕ
sum f [] = 0
sum f (x ∷ xs) = (f x + 1) + sum f xs

sum_above : (f : ℕ → ℕ) (xs : List ℕ) (x : ℕ) → In x xs → f x < sum f xs
sum_above f [] x i = absurd i
sum_above f (y ∷ ys) x (inl same) = let here : f y ≡ f x = ap f same in omega (arith, here)
sum_above f (y ∷ ys) x (inr i) = let low = sum_above f ys x i in omega (arith, low)

sum_same : (f g : ℕ → ℕ) (xs : List ℕ) → ((x : ℕ) → In x xs → f x ≡ g x) → sum f xs ≡ sum g xs
sum_same f g [] same = refl
sum_same f g (x ∷ xs) same =
    let here = same x (inl refl) in
    let later = sum_same f g xs (λ y i. same y (inr i)) in
    omega (arith, here, later)

-- ---- the lists of a relay

module _ (site : Site) (law : IsLawful site) (class : Class)
    (clean : (input : SiteInput) → Reach site class Scope.Firm input → (kind : Kind) → HoldsAt site class input kind → ⊥) where
  loops : (inner : InnerList) → IsInner site class inner → PostsOn site class Scope.Firm inner.relay inner.list inner.list → ⊥
  loops inner is again =
      let at = sym is.at in
      let posted = subst (λ r. PostsOn site class Scope.Firm r (list_of site is.input) inner.list) at is.posted in
      clean is.input is.reached Kind.InnerLoop (record {
        list = inner.list;
        follows = on_follows site class is.input (list_of site is.input) inner.list own posted;
        again = subst (λ r. PostsOn site class Scope.Firm r inner.list inner.list) at again;
      })

  module _ (relay : ℕ) where
    abbrev many : ℕ
    many = length (plan_at site relay).lists

    abbrev posted : ℕ → List ℕ
    posted list = next site class relay list

    below : (x : ℕ) → IsInner site class (on relay x) → x < many
    below x is =
        let last = last_post site class relay (list_of site is.input) x is.posted in
        posted_there site law relay last.0 last.1 x last.2

    -- so many posts are all that follow
    abbrev IsShort : ℕ → ℕ → Type 0
    IsShort ℕ.zero x = (to : ℕ) → In to (posted x) → ⊥
    IsShort (ℕ.suc n) x = (to : ℕ) → In to (posted x) → IsShort n to

    abbrev height : ℕ → ℕ → ℕ
    height ℕ.zero x = 0
    height (ℕ.suc n) x = sum (height n) (posted x)

    none_sum : (f : ℕ → ℕ) (xs : List ℕ) → ((to : ℕ) → In to xs → ⊥) → 0 ≡ sum f xs
    none_sum f [] none = refl
    none_sum f (x ∷ xs) none = absurd (none x (inl refl))

    settled : (n x : ℕ) → IsShort n x → height n x ≡ height (suc n) x
    settled ℕ.zero x short = none_sum (height 0) (posted x) short
    settled (ℕ.suc n) x short = sum_same (height n) (height (suc n)) (posted x) (λ to i. settled n to (short to i))

    -- the lists from which this one was come to
    record Behind (seen : List ℕ) (x : ℕ) : Type 0 where
      pub apart : AreApart many seen
      pub lead : (y : ℕ) → Contains seen y → PostsOn site class Scope.Firm relay y x
      pub inner : IsInner site class (on relay x)

    fresh : (seen : List ℕ) (x : ℕ) → Behind seen x → Contains seen x → ⊥
    fresh seen x behind there = loops (on relay x) behind.inner (behind.lead x there)

    behind_on : (seen : List ℕ) (x to : ℕ) → Behind seen x → In to (posted x) → Behind (seen ++ x ∷ []) to
    behind_on seen x to behind i =
        let posts = next_is site class relay x to i in
        let step = once posts.0 posts.1 in
        record {
          apart = more_apart many seen x behind.apart (fresh seen x behind) (below x behind.inner);
          lead = λ y there. elim (Contains-push_cases seen x y there) [
            | inl before ↦ posts_join site class relay y x to (behind.lead y before) step
            | inr here ↦ subst (λ z. PostsOn site class Scope.Firm relay z to) here step
          ];
          inner = inner_on site class relay x to behind.inner step;
        }

    short : (n : ℕ) (seen : List ℕ) (x : ℕ) → Behind seen x → many ≤ length seen + n → IsShort n x
    short ℕ.zero seen x behind most = λ to i.
        (let room = apart_room many seen x behind.apart (fresh seen x behind) (below x behind.inner) in absurd (omega (arith, room, most)))
    short (ℕ.suc n) seen x behind most = λ to i.
        (let l = length_push seen x in short n (seen ++ x ∷ []) to (behind_on seen x to behind i) (omega (arith, most, l)))

    nothing_seen : (x : ℕ) → IsInner site class (on relay x) → Behind [] x
    nothing_seen x is = record {
      apart = none_apart many;
      lead = λ y there. (let (k, low, same) = there in absurd (omega (arith, low)));
      inner = is;
    }

    falls : (x to : ℕ) → IsInner site class (on relay x) → PostsTo site class relay x to → height many to < height many x
    falls x to is posts =
        let still = settled many x (short many [] x (nothing_seen x is) (omega arith)) in
        let above = sum_above (height many) (posted x) to (next_has site class relay x to posts) in
        omega (arith, still, above)

  pub numbers : (number : ℕ → ℕ → ℕ) × AreNumbers site class number
  numbers = (λ relay list. height relay (many relay) list, λ inner to is posts. falls inner.relay inner.list to is posts)

-- Lists that posts lead to from inputs which are reached without spare occurrences.
use Rattle.std.proofs.Common.{◌≡◌, ℕ, ◌<◌, Some, refl, sym, subst, arith}
use Rattle.sy_wire.specs.declared.class.Class.{Class}
use Rattle.sy_rules.specs.declared.lists.occurrence.Occurrence.TheVariants as occurrence
use Rattle.sy_board.specs.relay.Spares.{Scope, more, once, own, posted}
use Rattle.sy_site.specs.declared.site.SiteInput.{SiteInput}
use Rattle.sy_site.specs.Sites.{Site}
use Rattle.sy_site.specs.machine.Findings.{IsInnerLoop}
use Rattle.sy_site.specs.machine.Reach.{Follows, MayDo, PostsOn, Reach, list_of, occurrence_at}
use Rattle.sy_flows.specs.declared.lists.InnerList.{InnerList}
use Rattle.sy_fit.specs.Fit.{IsInner}

abbrev pub on : ℕ → ℕ → InnerList
on relay list = record { relay = relay; list = list }

-- ---- one post after another

module _ (site : Site) (class : Class) (relay : ℕ) where
  pub posts_join : (a b c : ℕ) → PostsOn site class Scope.Firm relay a b → PostsOn site class Scope.Firm relay b c → PostsOn site class Scope.Firm relay a c
  posts_join a b c (once number does) later = more number does later
  posts_join a b c (more {mid = mid} number does first) later = more number does (posts_join mid b c first later)

  -- the last post of some
  pub last_post : (a b : ℕ) → PostsOn site class Scope.Firm relay a b
      → (list number : ℕ) × (occurrence_at site relay list number ≡ Some (occurrence.Post b))
  last_post a b (once number does) = (a, number, does.found)
  last_post a b (more {mid = mid} number does later) = last_post mid b later

  pub inner_on : (x to : ℕ) → IsInner site class (on relay x) → PostsOn site class Scope.Firm relay x to → IsInner site class (on relay to)
  inner_on x to is later = record {
    input = is.input;
    at = is.at;
    reached = is.reached;
    posted = posts_join (list_of site is.input) x to is.posted later;
  }

pub follows_on : (site : Site) (class : Class) (input : SiteInput) (x y : ℕ) → Follows site class Scope.Firm input x
    → PostsOn site class Scope.Firm input.relay x y → PostsOn site class Scope.Firm input.relay (list_of site input) y
follows_on site class input x y own later = later
follows_on site class input x y (posted {list = list} number before does) later = follows_on site class input list y before (more number does later)

pub on_follows : (site : Site) (class : Class) (input : SiteInput) (x y : ℕ) → Follows site class Scope.Firm input x
    → PostsOn site class Scope.Firm input.relay x y → Follows site class Scope.Firm input y
on_follows site class input x y before (once number does) = posted number before does
on_follows site class input x y before (more {mid = mid} number does later) =
    on_follows site class input mid y (posted number before does) later

-- ---- numbers that fall along posts

module _ (site : Site) (class : Class) (Has : InnerList → ℕ → Type 0)
    (numbered : (inner : InnerList) → IsInner site class inner → (number : ℕ) × Has inner number
    × ((post to below : ℕ) → MayDo site class Scope.Firm inner.relay inner.list post (occurrence.Post to) → Has (on inner.relay to) below → below < number))
  where
    abbrev IsAboveAll : ℕ → ℕ → ℕ → Type 0
    IsAboveAll relay x number = (post to below : ℕ) → MayDo site class Scope.Firm relay x post (occurrence.Post to) → Has (on relay to) below → below < number

    falls_on : (relay x y : ℕ) → PostsOn site class Scope.Firm relay x y → IsInner site class (on relay x) → (number : ℕ) → IsAboveAll relay x number
        → (below : ℕ) → Has (on relay y) below → below < number
    falls_on relay x y (once post does) inner number above below has = above post y below does has
    falls_on relay x y (more {mid = mid} post does later) inner number above below has =
        let is = inner_on site class relay x mid inner (once post does) in
        let next = numbered (on relay mid) is in
        let low = above post mid next.0 does next.1 in
        let rest = falls_on relay mid y later is next.0 next.2 below has in
        omega (arith, low, rest)

    pub no_inner_loop : (input : SiteInput) → Reach site class Scope.Firm input → IsInnerLoop site class input → ⊥
    no_inner_loop input reach loop =
        let is : IsInner site class (on input.relay loop.list) = record {
          input = input;
          at = refl;
          reached = reach;
          posted = follows_on site class input loop.list loop.list loop.follows loop.again;
        } in
        let own = numbered (on input.relay loop.list) is in
        let low = falls_on input.relay loop.list loop.list loop.again is own.0 own.2 own.0 own.1 in
        omega (arith, low)

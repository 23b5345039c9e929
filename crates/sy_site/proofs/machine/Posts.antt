-- Posts that follow posts.
use Rattle.std.proofs.Common.{◌≡◌, ℕ, ◌<◌, refl, sym, subst, arith, inl, inr}
use Rattle.std.specs.Prelude.{◌⊎◌}
use Rattle.sy_wire.specs.declared.class.Class.{Class}
use Rattle.sy_rules.specs.declared.lists.occurrence.Occurrence.TheVariants as occurrence
use Rattle.sy_board.specs.relay.Spares.{Scope, more, once, own, posted}
use Rattle.sy_site.specs.Sites.{Site, SiteInput}
use Rattle.sy_site.specs.machine.Findings.{IsInnerLoop}
use Rattle.sy_site.specs.machine.Reach.{Follows, MayDo, PostsOn, list_of}

module _ (site : Site) (class : Class) where
  pub then_on : (scope : Scope) (relay from mid to : ℕ) → PostsOn site class scope relay from mid → PostsOn site class scope relay mid to
      → PostsOn site class scope relay from to
  then_on scope relay from mid to (once number does) later = more number does later
  then_on scope relay from mid to (more {mid = next} number does first) later = more number does (then_on scope relay next mid to first later)

  module _ (input : SiteInput) where
    -- what posts lead to from a list that messages follow, they lead to from the input's own
    pub led_on : (scope : Scope) (list to : ℕ) → Follows site class scope input list → PostsOn site class scope input.relay list to
        → PostsOn site class scope input.relay (list_of site input) to
    led_on scope list to own on = on
    led_on scope list to (posted {list = before} number follows does) on = led_on scope before to follows (more number does on)

    pub own_or_led : (scope : Scope) (list : ℕ) → Follows site class scope input list
        → (list ≡ list_of site input) ⊎ PostsOn site class scope input.relay (list_of site input) list
    own_or_led scope list own = inl refl
    own_or_led scope list (posted {list = before} number follows does) = inr (led_on scope before list follows (once number does))

    follows_on : (scope : Scope) (from to : ℕ) → Follows site class scope input from → PostsOn site class scope input.relay from to
        → Follows site class scope input to
    follows_on scope from to follows (once number does) = posted number follows does
    follows_on scope from to follows (more {mid = mid} number does later) = follows_on scope mid to (posted number follows does) later

    pub followed : (scope : Scope) (list : ℕ) → (list ≡ list_of site input) ⊎ PostsOn site class scope input.relay (list_of site input) list
        → Follows site class scope input list
    followed scope list (inl is) = subst (Follows site class scope input) (sym is) own
    followed scope list (inr on) = follows_on scope (list_of site input) list own on

    -- ---- numbers that fall along posts

    module _ (inner : ℕ → ℕ)
        (falls : (list number to : ℕ) → PostsOn site class Scope.Firm input.relay (list_of site input) list
        → MayDo site class Scope.Firm input.relay list number (occurrence.Post to) → inner to < inner list) where
      posts_fall : (from to : ℕ) → PostsOn site class Scope.Firm input.relay (list_of site input) from
          → PostsOn site class Scope.Firm input.relay from to → inner to < inner from
      posts_fall from to led (once number does) = falls from number to led does
      posts_fall from to led (more {mid = mid} number does later) =
          let first = falls from number mid led does in
          let rest = posts_fall mid to (then_on Scope.Firm input.relay (list_of site input) from mid led (once number does)) later in
          omega (arith, first, rest)

      pub no_inner_loop : IsInnerLoop site class input → ⊥
      no_inner_loop loop =
          let below = posts_fall loop.list loop.list (led_on Scope.Firm loop.list loop.list loop.follows loop.again) loop.again in
          omega (arith, below)

-- Lists that are followed from an input on.
use Rattle.std.proofs.Common.{◌≡◌, ℕ, ◌<◌, true, length, refl, sym, subst, inl, inr}
use Rattle.std.specs.Prelude.{◌⊎◌}
use Rattle.sy_wire.specs.declared.class.Class.{Class}
use Rattle.sy_rules.specs.declared.lists.occurrence.Occurrence.TheVariants as occurrence
use Rattle.sy_board.specs.relay.Spares.{Scope, more, once, own, posted}
use Rattle.sy_site.specs.declared.site.SiteInput.{SiteInput}
use Rattle.sy_site.specs.Sites.{Site, plan_at}
use Rattle.sy_site.specs.machine.Lawful.{IsLawful}
use Rattle.sy_site.specs.machine.Reach.{Follows, MayDo, PostsOn, list_of}
use Rattle.sy_flows.specs.Flows.{is_used}
use Rattle.sy_flows.proofs.Used.{posted_there, posted_used}

module _ (site : Site) (class : Class) (scope : Scope) where
  pub posts_then : (relay : ℕ) {from mid to : ℕ} (number : ℕ) → PostsOn site class scope relay from mid
      → MayDo site class scope relay mid number (occurrence.Post to) → PostsOn site class scope relay from to
  posts_then relay number (once first before) does = more first before (once number does)
  posts_then relay number (more first before later) does = more first before (posts_then relay number later does)

  pub follows_posts : (input : SiteInput) {list to : ℕ} → Follows site class scope input list → PostsOn site class scope input.relay list to
      → Follows site class scope input to
  follows_posts input follows (once number does) = posted number follows does
  follows_posts input follows (more number does later) = follows_posts input (posted number follows does) later

  -- a list that is followed is the input's own, or posts lead to it
  pub followed_by : (input : SiteInput) {list : ℕ} → Follows site class scope input list
      → (list ≡ list_of site input) ⊎ PostsOn site class scope input.relay (list_of site input) list
  followed_by input own = inl refl
  followed_by input (posted {list} {inner} number before does) = elim (followed_by input before) [
    | inl same ↦ inr (once number (subst (λ l. MayDo site class scope input.relay l number (occurrence.Post inner)) same does))
    | inr posts ↦ inr (posts_then input.relay number posts does)
  ]

  pub posts_used : (law : IsLawful site) (relay : ℕ) {from to : ℕ} → PostsOn site class scope relay from to → is_used (plan_at site relay) to ≡ true
  posts_used law relay {from} {to} (once number does) = posted_used site law relay from number to does.found
  posts_used law relay (more number does later) = posts_used law relay later

  pub posts_there : (law : IsLawful site) (relay : ℕ) {from to : ℕ} → PostsOn site class scope relay from to → to < length (plan_at site relay).lists
  posts_there law relay {from} {to} (once number does) = posted_there site law relay from number to does.found
  posts_there law relay (more number does later) = posts_there law relay later

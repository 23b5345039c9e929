-- The lists that posts lead to.
use Rattle.std.proofs.Common.{◌≡◌, ℕ, true, List, [], ◌∷◌, ◌++◌, refl, sym, subst, inl, inr}
use Rattle.std.specs.Prelude.{Contains, ◌⊎◌}
use Rattle.std.proofs.lemmas.Bool.{false≢true}
use Rattle.std.proofs.lemmas.List.Elements.{Contains-push_cases}
use Rattle.sy_wire.specs.declared.class.Class.{Class}
use Rattle.sy_rules.specs.declared.lists.occurrence.Occurrence.{Occurrence}
use Rattle.sy_rules.specs.declared.lists.occurrence.Occurrence.TheVariants as occurrence
use Rattle.sy_board.specs.relay.Spares.{Scope, more, once}
use Rattle.sy_site.specs.Sites.{Site}
use Rattle.sy_site.specs.machine.Reach.{MayDo, PostsOn}
use Rattle.sy_flows.specs.declared.flows.executed.Executed.{Executed}
use Rattle.sy_flows.specs.declared.flows.executed.Executed.TheVariants as executed
use Rattle.sy_flows.specs.declared.flows.Hop.{Hop}
use Rattle.sy_flows.specs.Flows.{Does}
use Rattle.sy_flows.specs.internal.Hops.{AddsLists, AddsPosted, IsWalked, follows_posts}
use Rattle.sy_flows.specs.Hops.{LeadsByPosts}

module _ (site : Site) (class : Class) (relay : ℕ) where
  pub post_leads : (which : Executed) → follows_posts which ≡ true → (list number inner : ℕ)
      → Does site class which relay list number (occurrence.Post inner) → LeadsByPosts site class which relay list inner
  post_leads executed.Every follows list number inner does = once number does
  post_leads executed.Firm follows list number inner does = once number does
  post_leads executed.Must none list number inner does = absurd (false≢true none)

  pub post_leads_on : (which : Executed) → follows_posts which ≡ true → (list number inner to : ℕ)
      → Does site class which relay list number (occurrence.Post inner) → LeadsByPosts site class which relay inner to
      → LeadsByPosts site class which relay list to
  post_leads_on executed.Every follows list number inner to does later = more number does later
  post_leads_on executed.Firm follows list number inner to does later = more number does later
  post_leads_on executed.Must none list number inner to does later = absurd (false≢true none)

module _ (site : Site) (class : Class) (which : Executed) (relay : ℕ) where
  -- what a list that a post leads to adds
  pub posted_by : (list number inner : ℕ) (old new : List ℕ) → follows_posts which ≡ true → Does site class which relay list number (occurrence.Post inner)
      → AddsLists site class which relay inner old new → AddsPosted site class which relay list old new
  posted_by list number inner old new follows does adds to is = elim (adds to is) [
    | inl had ↦ inl had
    | inr added ↦ elim added [
      | inl here ↦ inr (subst (LeadsByPosts site class which relay list) (sym here) (post_leads site class relay which follows list number inner does))
      | inr later ↦ inr (post_leads_on site class relay which follows list number inner to does later)
    ]
  ]

  -- what one more occurrence adds
  pub lists_added : (list : ℕ) (l0 l1 l2 : List ℕ) → AddsPosted site class which relay list l0 l1 → AddsPosted site class which relay list l1 l2
      → AddsPosted site class which relay list l0 l2
  lists_added list l0 l1 l2 a b to is = elim (b to is) [
    | inl had ↦ a to had
    | inr posted ↦ inr posted
  ]

  -- what a list adds that is new
  pub lists_of : (list : ℕ) (old with new : List ℕ) → with ≡ old ++ list ∷ [] → AddsPosted site class which relay list with new
      → AddsLists site class which relay list old new
  lists_of list old with new is adds to there = elim (adds to there) [
    | inl had ↦ elim (Contains-push_cases old list to (subst (λ l. Contains l to) is had)) [
      | inl before ↦ inl before
      | inr here ↦ inr (inl (sym here))
    ]
    | inr posted ↦ inr (inr posted)
  ]

  -- ---- all that was found

  module _ (hops : List Hop) (lists : List ℕ) (all : (list : ℕ) → Contains lists list → IsWalked site class which relay hops lists list) where
    pub posts_found : (scope : Scope) → ((list number : ℕ) (is : Occurrence) → MayDo site class scope relay list number is → Does site class which relay list number is)
        → follows_posts which ≡ true → (list to : ℕ) → IsWalked site class which relay hops lists list → PostsOn site class scope relay list to
        → Contains lists to
    posts_found scope same follows list to walked (once number does) =
        walked number (occurrence.Post to) (same list number (occurrence.Post to) does) follows
    posts_found scope same follows list to walked (more {mid = mid} number does later) =
        posts_found scope same follows mid to
        (all mid (walked number (occurrence.Post mid) (same list number (occurrence.Post mid) does) follows)) later

-- where all that was met was followed, it has what posts lead to
pub lists_found : (site : Site) (class : Class) (which : Executed) (relay : ℕ) (hops : List Hop) (lists : List ℕ)
    → ((list : ℕ) → Contains lists list → IsWalked site class which relay hops lists list) → (list to : ℕ)
    → IsWalked site class which relay hops lists list → LeadsByPosts site class which relay list to → Contains lists to
lists_found site class executed.Every relay hops lists all list to walked leads =
    posts_found site class executed.Every relay hops lists all Scope.Every (λ l n is does. does) refl list to walked leads
lists_found site class executed.Firm relay hops lists all list to walked leads =
    posts_found site class executed.Firm relay hops lists all Scope.Firm (λ l n is does. does) refl list to walked leads
lists_found site class executed.Must relay hops lists all list to walked leads = absurd leads

-- Where nothing is spare, what is reached is reached without spare occurrences.
use Rattle.std.proofs.Common.{[], ◌≡◌, ℕ, ◌==◌, true, false, List, ◌∷◌, length, arith, eqb-true, Option, Some, None, refl, sym, subst}
use Rattle.std.specs.Prelude.{Contains, ◌↔◌}
use Rattle.sy_wire.specs.declared.class.Class.{Class}
use Rattle.sy_rules.specs.declared.lists.occurrence.Occurrence.{Occurrence}
use Rattle.sy_rules.specs.declared.lists.occurrence.Occurrence.TheVariants as occurrence
use Rattle.sy_rules.specs.PlanValue.{Plan}
use Rattle.sy_rules.specs.Whole.{owner_at}
use Rattle.sy_board.specs.relay.Spares.{Scope, is_spare_occurrence, is_spare_owner}
use Rattle.sy_site.specs.declared.site.SiteAction.{SiteAction}
use Rattle.sy_site.specs.declared.site.SiteInput.{SiteInput}
use Rattle.sy_site.specs.Sites.{Site, actions_at, does_spare, plan_at}
use Rattle.sy_site.specs.machine.Reach.{MayDo, Reach, Reaches, entry, forwards, list_of, onward, posts}
use Rattle.sy_site.proofs.machine.Spares.{reach_every}

no_owner : (owner : Option ℕ) → is_spare_owner [] owner ≡ false
no_owner None = refl
no_owner (Some action) = refl

none_of : (plan : Plan) (is : Occurrence) → is_spare_occurrence plan [] is ≡ false
none_of plan (occurrence.Run action) = refl
none_of plan (occurrence.Post list) = no_owner (owner_at plan list)

pub none_at_all : (site : Site) (spares : List SiteAction) → spares ≡ site.spares → (length spares == 0) ≡ true → site.spares ≡ []
none_at_all site [] is none = sym is
none_at_all site (x ∷ xs) is none = absurd (omega (arith, eqb-true (length (x ∷ xs)) 0 none))

module _ (site : Site) (none : site.spares ≡ []) (class : Class) where
  none_spare : (relay : ℕ) (is : Occurrence) → does_spare site relay is ≡ false
  none_spare relay is = subst (λ l. is_spare_occurrence (plan_at site relay) (actions_at l relay) is ≡ false) (sym none) (none_of (plan_at site relay) is)

  may_firm : (relay list number : ℕ) (is : Occurrence) → MayDo site class Scope.Every relay list number is → MayDo site class Scope.Firm relay list number is
  may_firm relay list number is does = record { may = does.may; found = does.found; in_scope = none_spare relay is }

  reaches_firm : (relay list number : ℕ) (to : SiteInput) → Reaches site class Scope.Every relay list number to → Reaches site class Scope.Firm relay list number to
  reaches_firm relay list number to (forwards at action does leads) = forwards at action (may_firm relay list at (occurrence.Run action) does) leads
  reaches_firm relay list number to (posts at inner k does later) =
      posts at inner k (may_firm relay list at (occurrence.Post inner) does) (reaches_firm relay inner k to later)

  pub reach_firm : (x : SiteInput) → Reach site class Scope.Every x → Reach site class Scope.Firm x
  reach_firm x (entry is) = entry is
  reach_firm x (onward {from} number before r) = onward number (reach_firm from before) (reaches_firm from.relay (list_of site from) number x r)

  pub same_reach : (found : List SiteInput) → ((x : SiteInput) → Contains found x ↔ Reach site class Scope.Firm x)
      → (x : SiteInput) → Contains found x ↔ Reach site class Scope.Every x
  same_reach found are x = (λ there. reach_every site class x ((are x).0 there), λ reach. (are x).1 (reach_firm x reach))

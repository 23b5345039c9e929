use Rattle.std.proofs.Common.{◌≡◌, ℕ, sym, subst, inl, inr, ◌∙◌}
use Rattle.std.specs.Prelude.{◌⊎◌}
use Rattle.sy_wire.specs.declared.class.Class.{Class}
use Rattle.sy_chain.specs.Entries.{Entry}
use Rattle.sy_board.specs.relay.Cells.{Cell}
use Rattle.sy_board.specs.relay.Spares.{Scope, own, posted}
use Rattle.sy_site.specs.Sites.{Site, plan_at}
use Rattle.sy_site.specs.machine.Reach.{Follows, Reach, list_of}
use Rattle.sy_site.specs.machine.States.{SiteState}
use Rattle.sy_site.specs.machine.Confinement.{AreConfined, IsOfAPost, IsOfItsInput, IsPlaceOf}
use Rattle.sy_site.specs.machine.Safety.{AreSafe}
use Rattle.sy_site.specs.machine.Counterexamples.{Bound, Bounds, Holds, Part, input_of}
use Rattle.sy_site.proofs.machine.Spread.{some_same}
use Rattle.sy_site.proofs.counterexamples.parts_are_the_whole.Goals as goal

module _ (site : Site) (state : SiteState) where
  part_of : AreSafe site state → (part : Part) → Holds site state part
  part_of safe Part.Kept = λ number arrival at protected entered. (safe number arrival at protected entered).kept
  part_of safe Part.NotLost = λ number arrival at protected entered. (safe number arrival at protected entered).not_lost
  part_of safe Part.HeldOnce = λ number arrival at protected entered. (safe number arrival at protected entered).held_once
  part_of safe Part.PassedOnce = λ number arrival at protected entered. (safe number arrival at protected entered).passed_once

  whole : ((part : Part) → Holds site state part) → AreSafe site state
  whole parts number arrival at protected entered = record {
    kept = parts Part.Kept number arrival at protected entered;
    not_lost = parts Part.NotLost number arrival at protected entered;
    held_once = parts Part.HeldOnce number arrival at protected entered;
    passed_once = parts Part.PassedOnce number arrival at protected entered;
  }

  module _ (class : Class) where
    -- by its input or by a post
    abbrev Placed : ℕ → Cell → Entry → Type 0
    Placed relay cell entry = IsOfItsInput (plan_at site relay) cell entry ⊎ IsOfAPost site class relay cell entry

    on_list : (relay : ℕ) (cell : Cell) (entry : Entry) → Placed relay cell entry
        → (entry.list ≡ list_of site (input_of relay entry)) ⊎ IsOfAPost site class relay cell entry
    on_list relay cell entry (inl its) = inl its.list
    on_list relay cell entry (inr post) = inr post

    at_place : (relay : ℕ) (cell : Cell) (entry : Entry) → Placed relay cell entry
        → IsPlaceOf (plan_at site relay) cell entry.input ⊎ IsOfAPost site class relay cell entry
    at_place relay cell entry (inl its) = inl its.place
    at_place relay cell entry (inr post) = inr post

    placed_by : (relay : ℕ) (cell : Cell) (entry : Entry) → (entry.list ≡ list_of site (input_of relay entry)) ⊎ IsOfAPost site class relay cell entry
        → IsPlaceOf (plan_at site relay) cell entry.input ⊎ IsOfAPost site class relay cell entry → Placed relay cell entry
    placed_by relay cell entry (inl list) (inl place) = inl (record { place = place; list = list })
    placed_by relay cell entry (inl list) (inr post) = inr post
    placed_by relay cell entry (inr post) place = inr post

    follows_on : (relay : ℕ) (cell : Cell) (entry : Entry) → (entry.list ≡ list_of site (input_of relay entry)) ⊎ IsOfAPost site class relay cell entry
        → Follows site class Scope.Firm (input_of relay entry) entry.list
    follows_on relay cell entry (inl list) = subst (Follows site class Scope.Firm (input_of relay entry)) (sym list) own
    follows_on relay cell entry (inr post) = posted post.number post.follows post.does

    bound_of : AreConfined site class state → (part : Bound) → Bounds site class state part
    bound_of confined Bound.InReach = λ relay cell entry there copy followed plain. (confined.held relay cell entry there copy followed plain).reached
    bound_of confined Bound.OnList = λ relay cell entry there copy followed plain. on_list relay cell entry (confined.placed relay cell entry there copy followed plain)
    bound_of confined Bound.MayRun = λ relay cell entry there copy followed plain. (confined.held relay cell entry there copy followed plain).due
    bound_of confined Bound.AtPlace = λ relay cell entry there copy followed plain. at_place relay cell entry (confined.placed relay cell entry there copy followed plain)
    bound_of confined Bound.LinkLeads = λ link tag there copy followed plain forward.
        (let within = confined.on_links link tag there copy followed plain forward in (within.to, within.leads))
    bound_of confined Bound.LinkInReach = λ link tag there copy followed plain forward to leads.
        (let within = confined.on_links link tag there copy followed plain forward in
        subst (Reach site class Scope.Firm) (some_same (sym within.leads ∙ leads)) within.reached)
    bound_of confined Bound.NoneLost = confined.not_lost

    bounds : ((part : Bound) → Bounds site class state part) → AreConfined site class state
    bounds parts = record {
      held = λ relay cell entry there copy followed plain. record {
        reached = parts Bound.InReach relay cell entry there copy followed plain;
        follows = follows_on relay cell entry (parts Bound.OnList relay cell entry there copy followed plain);
        due = parts Bound.MayRun relay cell entry there copy followed plain;
      };
      placed = λ relay cell entry there copy followed plain. placed_by relay cell entry
          (parts Bound.OnList relay cell entry there copy followed plain) (parts Bound.AtPlace relay cell entry there copy followed plain);
      on_links = λ link tag there copy followed plain forward.
          (let leads = parts Bound.LinkLeads link tag there copy followed plain forward in
          record { to = leads.0; leads = leads.1; reached = parts Bound.LinkInReach link tag there copy followed plain forward leads.0 leads.1 });
      not_lost = parts Bound.NoneLost;
    }

pub returns-clause-of_safe : goal.returns-clause-of_safe
returns-clause-of_safe c site state = (part_of site state, whole site state)

pub returns-clause-of_confined : goal.returns-clause-of_confined
returns-clause-of_confined c site class state = (bound_of site state class, bounds site state class)

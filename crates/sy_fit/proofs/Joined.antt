-- The wanted rows of a class, put together.
use Rattle.std.proofs.Common.{◌≡◌, ℕ, ◌<◌, List, [], ◌∷◌, ◌++◌, map, ap, ◌∙◌, append_assoc}
use Rattle.std.specs.Prelude.{Contains, ◌↔◌}
use Rattle.sy_wire.specs.declared.class.Class.{Class}
use Rattle.sy_board.specs.relay.Spares.{Scope}
use Rattle.sy_site.specs.declared.site.SiteInput.{SiteInput}
use Rattle.sy_site.specs.Sites.{Site}
use Rattle.sy_site.specs.machine.Reach.{Reach}
use Rattle.sy_fit.specs.Fit.{AreWanted, ComesBefore, IsBranch, IsInner, IsReached, ListsAll, StandsBefore, paths}
use Rattle.sy_fit.specs.internal.Order.{HasInput, IsRest}
use Rattle.sy_flows.specs.declared.lists.InnerList.{InnerList}
use Rattle.sy_fit.specs.declared.rows.wanted.Wanted.{Wanted}
use Rattle.sy_fit.specs.declared.rows.wanted.Wanted.TheVariants as wanted
use Rattle.sy_fit.proofs.InOrder.{lists_as}

module _ (site : Site) (class : Class) (firm every inputs branches : List SiteInput) (relays : List ℕ) (inners : List InnerList)
    (part : List Wanted)
    (is_firm : (x : SiteInput) → Contains firm x ↔ Reach site class Scope.Firm x) (is_every : (x : SiteInput) → Contains every x ↔ Reach site class Scope.Every x)
    (sorted : ListsAll (Contains firm) StandsBefore inputs) (rest : ListsAll (IsRest every firm) StandsBefore branches)
    (of_inputs : ListsAll (HasInput every) ◌<◌ relays) (posted : ListsAll (IsInner site class) ComesBefore inners)
    (whole : part ≡ (((((([] ++ wanted.Class class ∷ []) ++ map wanted.Reach inputs) ++ map wanted.Branch branches) ++ map wanted.Rank relays)
    ++ map wanted.Inner inners) ++ paths site class)) where
  pub are_wanted : AreWanted site class part
  are_wanted = record {
    inputs = inputs;
    inputs_reached = lists_as (Contains firm) (Reach site class Scope.Firm) StandsBefore inputs (λ x there. (is_firm x).0 there)
        (λ x is. (is_firm x).1 is) sorted;
    branches = branches;
    branches_reached = lists_as (IsRest every firm) (IsBranch site class) StandsBefore branches
        (λ x is. record { reached = (is_every x).0 is.there; rest = λ reach. is.rest ((is_firm x).1 reach) })
        (λ x is. record { there = (is_every x).1 is.reached; rest = λ there. is.rest ((is_firm x).0 there) }) rest;
    relays = relays;
    relays_reached = lists_as (HasInput every) (IsReached site class) ◌<◌ relays
        (λ relay has. (has.0, (is_every (record { relay = relay; input = has.0 })).0 has.1))
        (λ relay is. (is.0, (is_every (record { relay = relay; input = is.0 })).1 is.1)) of_inputs;
    inners = inners;
    inners_posted = posted;
    whole = whole
        ∙ append_assoc (((wanted.Class class ∷ map wanted.Reach inputs) ++ map wanted.Branch branches) ++ map wanted.Rank relays) (map wanted.Inner inners)
        (paths site class)
        ∙ append_assoc ((wanted.Class class ∷ map wanted.Reach inputs) ++ map wanted.Branch branches) (map wanted.Rank relays)
        (map wanted.Inner inners ++ paths site class)
        ∙ append_assoc (wanted.Class class ∷ map wanted.Reach inputs) (map wanted.Branch branches)
        (map wanted.Rank relays ++ (map wanted.Inner inners ++ paths site class));
  }

-- What is wanted, is there.
use Rattle.std.proofs.Common.{◌≡◌, ℕ, ◌<◌, List, length, Option, Some, None, refl, subst}
use Rattle.std.specs.Prelude.{Contains, slice_get, true}
use Rattle.std.proofs.lemmas.Option.{slice_get_within}
use Rattle.sy_wire.specs.declared.class.Class.{Class}
use Rattle.sy_rules.specs.declared.parts.Action.{Action}
use Rattle.sy_board.specs.relay.Spares.{Scope}
use Rattle.sy_site.specs.declared.site.Protection.{Protection}
use Rattle.sy_site.specs.declared.site.SiteAction.{SiteAction}
use Rattle.sy_site.specs.declared.site.SiteInput.{SiteInput}
use Rattle.sy_site.specs.Sites.{Relay, Site, archives, asks_for, plan_in}
use Rattle.sy_site.specs.machine.Lawful.{IsArchive, IsInput, IsLawful}
use Rattle.sy_fit.specs.Fit.{AreWanted}
use Rattle.sy_flows.specs.Leads.{IsThere}
use Rattle.sy_flows.specs.declared.lists.InnerList.{InnerList}
use Rattle.sy_fit.specs.declared.rows.wanted.Wanted.{Wanted}
use Rattle.sy_fit.specs.declared.rows.wanted.Wanted.TheVariants as wanted
use Rattle.sy_fit.proofs.Comparing.{meant, no_value}
use Rattle.sy_fit.proofs.InnersSorted.{inner_is_there}
use Rattle.sy_flows.proofs.There.{entry_there as is_there, reach_there, relay_there}

action_there : (found : Option Relay) (n : ℕ) (part : Action) → slice_get (plan_in found).actions n ≡ Some part → (relay : Relay) × (found ≡ Some relay)
action_there None n part is = absurd (no_value is)
action_there (Some relay) n part is = (relay, refl)

archive_there : (site : Site) (a : SiteAction) → IsArchive site a → a.relay < length site.relays
archive_there site a is =
    let relay = action_there (slice_get site.relays a.relay) a.action is.parts is.found in
    slice_get_within site.relays a.relay relay.0 relay.1

-- each archive that is named for a class is that of a protect line
abbrev pub AreNamed : Site → Class → Type 0
AreNamed site class = (a : SiteAction) → Contains (archives site class) a
    → (p : Protection) × Contains site.protections p × (asks_for p class ≡ true) × (p.archive ≡ a)

module _ (site : Site) (law : IsLawful site) (class : Class) (part : List Wanted) (are : AreWanted site class part) where
  pub rank_there : (of : ℕ) → Contains part (wanted.Rank of) → of < length site.relays
  rank_there of there =
      let is = meant site class part are (wanted.Rank of) there in
      relay_there site (record { relay = of; input = is.0 }) (reach_there site law class Scope.Every (record { relay = of; input = is.0 }) is.1)

  pub inner_there : (inner : InnerList) → Contains part (wanted.Inner inner) → IsThere site inner
  inner_there inner there = inner_is_there site law class inner (meant site class part are (wanted.Inner inner) there)

  pub entry_there : (from : SiteInput) (archive : SiteAction) → Contains part (wanted.Path from archive) → IsInput site from
  entry_there from archive there =
      is_there site law from (meant site class part are (wanted.Path from archive) there).0

  pub end_there : AreNamed site class → (from : SiteInput) (archive : SiteAction) → Contains part (wanted.Path from archive)
      → archive.relay < length site.relays
  end_there named from archive there =
      let it = named archive (meant site class part are (wanted.Path from archive) there).1 in
      let is = subst (λ (p : Protection). IsArchive site p.archive) it.1.2 (law.archives it.1.0 it.0 it.1.1) in
      subst (λ (a : SiteAction). a.relay < length site.relays) it.3 (archive_there site it.0.archive is)

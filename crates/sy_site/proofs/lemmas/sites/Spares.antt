-- Spare actions: which they are, that they are there, and that no archive that is named is one.
use Rattle.std.proofs.Common.{◌≡◌, ℕ, ◌<◌, Bool, true, false, ◌==◌, ◌&&◌, ◌||◌, List, [], ◌∷◌, length, get_or, Option, Some, None, refl, sym, ap, subst, ◌∙◌, inl, inr, eqb-true}
use Rattle.std.specs.Prelude.{All, Contains, if◌then◌else◌, option_map, slice_get}
use Rattle.std.specs.List.{list_any, position}
use Rattle.std.specs.Str.{bytes_eq}
use Rattle.std.proofs.lemmas.Bool.{cases_Bool, false≢true}
use Rattle.std.proofs.lemmas.List.Elements.{Contains-get_or}
use Rattle.std.proofs.lemmas.List.Folds.{Any-from_list_any}
use Rattle.std.proofs.lemmas.List.Quantifiers.{position-Some}
use Rattle.std.proofs.lemmas.Option.{option_and_then_some, slice_get-get_or}
use Rattle.std.proofs.lemmas.Slice.Eq.{bytes_eq-Decides}
use Rattle.sy_rules.specs.declared.parameters.objects.Destination.TheVariants as destination
use Rattle.sy_rules.specs.declared.parts.Action.{Action}
use Rattle.sy_site.specs.declared.site.host.Host.TheVariants as host
use Rattle.sy_site.specs.Sites.{Site, Relay, SiteAction, Protection, actions_at, is_spare, no_plan, plan_at, relay_named}
use Rattle.sy_site.specs.texts.Shapes.{ProtectLine, SpareLine}
use Rattle.sy_site.specs.texts.Describes.{AllPaired, IsProtection, IsSpare, NameOne, action_at, archive_at, is_archive}
use Rattle.sy_site.proofs.lemmas.sites.More.{all_paired, paired_as, partner_back}
use Rattle.sy_site.proofs.lemmas.texts.OneSite.{same_actions}
use Rattle.sy_site.specs.internal.Relays.{HasMore}

-- ---- one by one, or by relay

pub by_relay : (spares : List SiteAction) (relay action : ℕ)
    → list_any (λ a. a.relay == relay && a.action == action) spares ≡ list_any (λ spare. spare == action) (actions_at spares relay)
by_relay [] relay action = refl
by_relay (s ∷ spares) relay action = one (s.relay == relay) (by_relay spares relay action)
  where
    one : (b : Bool) → list_any (λ a. a.relay == relay && a.action == action) spares ≡ list_any (λ spare. spare == action) (actions_at spares relay)
        → ((b && s.action == action) || list_any (λ a. a.relay == relay && a.action == action) spares)
        ≡ list_any (λ spare. spare == action) (if b then s.action ∷ actions_at spares relay else actions_at spares relay)
    one true e = ap (λ c. (s.action == action) || c) e
    one false e = e

-- a number of a relay is that of one of the actions
pub of_relay : (spares : List SiteAction) (relay action : ℕ) → list_any (λ spare. spare == action) (actions_at spares relay) ≡ true
    → (s : SiteAction) × Contains spares s × (s.relay ≡ relay) × (s.action ≡ action)
of_relay spares relay action e =
    let any = Any-from_list_any (λ s. s.relay == relay && s.action == action) spares (by_relay spares relay action ∙ e) in
    let s : SiteAction = any.1 in (
      s,
      (any.0, any.2, any.3),
      eqb-true s.relay relay (first (s.relay == relay) (s.action == action) any.4),
      eqb-true s.action action (second (s.relay == relay) (s.action == action) any.4),
    )
  where
    first : (a b : Bool) → (a && b) ≡ true → a ≡ true
    first true b h = refl
    first false b h = h

    second : (a b : Bool) → (a && b) ≡ true → b ≡ true
    second true b h = h
    second false b h = absurd (false≢true h)

-- ---- names

nobody : Relay
nobody = record { name = []; host = host.Name []; listens = None; plan = no_plan }

pub nothing : Action
nothing = record { name = []; destination = destination.Archive []; retry = None; resume_interval = 0 }

-- the relay and the action of these numbers have these names
record HasNames (site : Site) (at : SiteAction) (relay action : List ℕ) : Type 0 where
  relay_is : (get_or site.relays at.relay nobody).name ≡ relay
  within : at.action < length (plan_at site at.relay).actions
  action_is : (get_or (plan_at site at.relay).actions at.action nothing).name ≡ action

no_value : {A : Type 0} {x : A} → None ≡ Some x → ⊥
no_value e = cc

same_value : {A : Type 0} {x y : A} → Some x ≡ Some y → x ≡ y
same_value e = cc

both_second : (a b : Bool) → (a && b) ≡ true → b ≡ true
both_second true b e = e
both_second false b e = absurd (false≢true e)

module _ (site : Site) where
  relay_name : (name : List ℕ) (relay : ℕ) → relay_named site.relays name ≡ Some relay → (get_or site.relays relay nobody).name ≡ name
  relay_name name relay e =
      (bytes_eq-Decides (get_or site.relays relay nobody).name name).0 (position-Some (λ r. bytes_eq r.name name) site.relays relay nobody e).1

  -- the action of a place that a test by name finds
  placed : (test : Action → Bool) (name : List ℕ) → ((a : Action) → test a ≡ true → bytes_eq a.name name ≡ true) → (relay : ℕ) (place : Option ℕ)
      → position test (plan_at site relay).actions ≡ place → (a : SiteAction) → option_map (λ n. record { relay = relay; action = n }) place ≡ Some a
      → (a.relay ≡ relay) × (a.action < length (plan_at site a.relay).actions) × ((get_or (plan_at site a.relay).actions a.action nothing).name ≡ name)
  placed test name named relay None e a is = absurd (no_value is)
  placed test name named relay (Some n) e a is =
      let at = position-Some test (plan_at site relay).actions n nothing e in
      let found : Action = get_or (plan_at site relay).actions n nothing in
      subst (λ b. (b.relay ≡ relay) × (b.action < length (plan_at site b.relay).actions) × ((get_or (plan_at site b.relay).actions b.action nothing).name ≡ name))
      (same_value is) (refl, at.0, (bytes_eq-Decides found.name name).0 (named found at.1))

  spare_names : (line : SpareLine) (a : SiteAction) → IsSpare site line a → HasNames site a line.relay line.action
  spare_names line a is =
      let at : (place : ℕ) × (relay_named site.relays line.relay ≡ Some place) × (action_at site line.action place ≡ Some a) =
      option_and_then_some (action_at site line.action) (relay_named site.relays line.relay) a is (λ place x y. (place, x, y)) in
      let found = placed (λ b. bytes_eq b.name line.action) line.action (λ b h. h) at.0 (position (λ b. bytes_eq b.name line.action) (plan_at site at.0).actions) refl a at.2 in
      record {
        relay_is = ap (λ n. (get_or site.relays n nobody).name) found.0 ∙ relay_name line.relay at.0 at.1;
        within = found.1;
        action_is = found.2;
      }

  archive_names : (line : ProtectLine) (p : Protection) → IsProtection site line p → HasNames site p.archive line.relay line.action
  archive_names line p is =
      let at : (place : ℕ) × (relay_named site.relays line.relay ≡ Some place) × (archive_at site line.action place ≡ Some p.archive) =
      option_and_then_some (archive_at site line.action) (relay_named site.relays line.relay) p.archive is.archive (λ place x y. (place, x, y)) in
      let found =
      placed (λ b. is_archive b.destination && bytes_eq b.name line.action) line.action
      (λ b h. both_second (is_archive b.destination) (bytes_eq b.name line.action) h) at.0
      (position (λ b. is_archive b.destination && bytes_eq b.name line.action) (plan_at site at.0).actions) refl p.archive at.2 in
      record {
        relay_is = ap (λ n. (get_or site.relays n nobody).name) found.0 ∙ relay_name line.relay at.0 at.1;
        within = found.1;
        action_is = found.2;
      }

  -- ---- spare actions are there, and no archive that is named is one

  pub spare_there : (line : SpareLine) (a : SiteAction) → IsSpare site line a
      → slice_get (plan_at site a.relay).actions a.action ≡ Some (get_or (plan_at site a.relay).actions a.action nothing)
  spare_there line a is = slice_get-get_or (plan_at site a.relay).actions a.action nothing (spare_names line a is).within

  -- lines that name what has the same numbers name the same
  same_names : (a b : SiteAction) (protect : ProtectLine) (spare : SpareLine) → HasNames site a protect.relay protect.action
      → HasNames site b spare.relay spare.action → b.relay ≡ a.relay → b.action ≡ a.action → NameOne protect spare
  same_names a b protect spare of_a of_b relay action = (
    sym of_a.relay_is ∙ ap (λ n. (get_or site.relays n nobody).name) (sym relay) ∙ of_b.relay_is,
    sym of_a.action_is ∙ ap (λ n. (get_or (plan_at site n).actions a.action nothing).name) (sym relay)
        ∙ ap (λ n. (get_or (plan_at site b.relay).actions n nothing).name) (sym action) ∙ of_b.action_is,
  )

  pub none_spare : (protects : List ProtectLine) (spares : List SpareLine) → AllPaired (IsProtection site) protects site.protections
      → AllPaired (IsSpare site) spares site.spares
      → ((protect : ProtectLine) (spare : SpareLine) → Contains protects protect → Contains spares spare → NameOne protect spare → ⊥)
      → All (λ p. is_spare site p.archive ≡ false) site.protections
  none_spare protects spares protections actions apart k d low = neither (get_or site.protections k d) (Contains-get_or site.protections k d low)
    where
      neither : (p : Protection) → Contains site.protections p → is_spare site p.archive ≡ false
      neither p there =
          elim (cases_Bool (is_spare site p.archive)) [
            | inl both ↦
                let found = of_relay site.spares p.archive.relay p.archive.action both in
                let protect = partner_back (IsProtection site) protections p there in
                let spare = partner_back (IsSpare site) actions found.0 found.1 in
                absurd (apart protect.0 spare.0 protect.1 spare.1
                (same_names p.archive found.0 protect.0 spare.0 (archive_names protect.0 p protect.2) (spare_names spare.0 found.0 spare.2) found.2 found.3))
            | inr neither_one ↦ neither_one
          ]

-- what spare lines name goes by the relays alone
pub spares_of : (relays site : Site) → site.relays ≡ relays.relays → (lines : List SpareLine) (spares : List SiteAction)
    → HasMore (IsSpare relays) lines [] spares → AllPaired (IsSpare site) lines spares
spares_of relays site same lines spares h =
    paired_as (IsSpare relays) (IsSpare site) (λ line a is. same_actions site relays same line ∙ is) (all_paired (IsSpare relays) lines spares h)

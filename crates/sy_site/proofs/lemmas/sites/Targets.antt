-- What actions lead to, looked up once.
use Rattle.std.proofs.Common.{◌≡◌, ℕ, ◌+◌, ◌<◌, List, [], ◌∷◌, ◌++◌, length, map, take, get_or, Option, Some, None, refl, sym, ap, ◌∙◌}
use Rattle.std.specs.Prelude.{option_map, slice_get}
use Rattle.std.proofs.lemmas.List.{map-append, take_more}
use Rattle.std.proofs.lemmas.Option.{slice_get-map}
use Rattle.sy_rules.specs.declared.parameters.objects.Destination.{Destination}
use Rattle.sy_rules.specs.declared.parameters.objects.Destination.TheVariants as destination
use Rattle.sy_rules.specs.declared.parts.Action.{Action}
use Rattle.sy_site.specs.declared.site.relay.Relay.{Relay as Kept}
use Rattle.sy_site.specs.declared.site.targets.Targets.{Targets}
use Rattle.sy_site.specs.Sites.{Outside, Protection, Site, SiteAction, SiteInput, plan_in, target, target_of}
use Rattle.sy_site.specs.internal.SiteInside.{in_action, in_relay, inputs_of, looked_up, relay_of, site_with, targets_in}

-- one more of what is made of each
pub map_more : {A B C : Type 0} (f : A → C) (g : B → C) (made : List A) (xs : List B) (k : ℕ) (x : A) (y : B) → k < length xs → y ≡ get_or xs k y
    → f x ≡ g y → map f made ≡ map g (take k xs) → map f (made ++ x ∷ []) ≡ map g (take (k + 1) xs)
map_more f g made xs k x y low is same far =
    map-append f made (x ∷ []) ∙ ap (λ l. l ++ f x ∷ []) far ∙ ap (λ z. map g (take k xs) ++ z ∷ []) same
    ∙ sym (map-append g (take k xs) (y ∷ [])) ∙ ap (map g) (ap (λ z. take k xs ++ z ∷ []) is ∙ sym (take_more xs k y low))

abbrev in_inputs : Option (List (Option SiteInput)) → ℕ → Option SiteInput
in_inputs None action = None
in_inputs (Some inputs) action = in_action (slice_get inputs action)

as_inputs : (of : Option Targets) (action : ℕ) → in_relay of action ≡ in_inputs (option_map inputs_of of) action
as_inputs None action = refl
as_inputs (Some targets) action = refl

module _ (policy : ℕ) (relays : List Kept) (entries whole_entries : List SiteInput) (protections : List Protection) (spares : List SiteAction)
    (outsides : List Outside) where
  abbrev pub site : Site
  site = record { policy = policy; relays = map relay_of relays; entries = entries; whole_entries = whole_entries; protections = protections; spares = spares; outsides = outsides }

  -- where a forward leads hangs on the relays alone
  leads : (d : Destination) (name : List ℕ) (retry : Option ℕ) (resume_interval : ℕ)
      → target_of (site_with relays) (Some (record { name = name; destination = d; retry = retry; resume_interval = resume_interval }))
      ≡ target_of site (Some (record { name = name; destination = d; retry = retry; resume_interval = resume_interval }))
  leads (destination.Archive file) name retry resume_interval = refl
  leads (destination.Forward to port) name retry resume_interval = refl

  by_action : (action : Option Action) → in_action (option_map (λ a. target_of (site_with relays) (Some a)) action) ≡ target_of site action
  by_action None = refl
  by_action (Some a) = leads a.destination a.name a.retry a.resume_interval

  by_relay : (relay : Option Kept) (action : ℕ)
      → in_inputs (option_map (λ r. targets_in (site_with relays) (relay_of r)) relay) action
      ≡ target_of site (slice_get (plan_in (option_map relay_of relay)).actions action)
  by_relay None action = refl
  by_relay (Some r) action =
      ap in_action (slice_get-map (λ a. target_of (site_with relays) (Some a)) (relay_of r).plan.actions action)
      ∙ by_action (slice_get (relay_of r).plan.actions action)

  pub by_table : (targets : List Targets) → map inputs_of targets ≡ map (λ r. targets_in (site_with relays) (relay_of r)) relays
      → (relay action : ℕ) → looked_up targets relay action ≡ target site (record { relay = relay; action = action })
  by_table targets are relay action =
      as_inputs (slice_get targets relay) action ∙ ap (λ o. in_inputs o action) (sym (slice_get-map inputs_of targets relay)
      ∙ ap (λ l. slice_get l relay) are ∙ slice_get-map (λ r. targets_in (site_with relays) (relay_of r)) relays relay)
      ∙ by_relay (slice_get relays relay) action
      ∙ ap (λ o. target_of site (slice_get (plan_in o).actions action)) (sym (slice_get-map relay_of relays relay))

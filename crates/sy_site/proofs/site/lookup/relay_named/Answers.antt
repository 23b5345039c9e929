use Rattle.std.proofs.Common.{◌∙◌, sym}
use Rattle.std.specs.Str.{bytes_eq}
use Rattle.sy_site.specs.internal.SiteInside.{relay_of}
use Rattle.sy_site.proofs.lemmas.sites.Places.{position_map}
use Rattle.sy_site.proofs.site.lookup.relay_named.Goals as goal

pub returns-in-Some : goal.returns-in-Some
returns-in-Some c =
    sym c.in-Some.is ∙ c.place_of_relay.ensures.place ∙ sym (position_map relay_of (λ r. bytes_eq r.name c.args.name.now) c.args.relays.now)

pub returns-in-None : goal.returns-in-None
returns-in-None c =
    sym c.in-None.is ∙ c.place_of_relay.ensures.place ∙ sym (position_map relay_of (λ r. bytes_eq r.name c.args.name.now) c.args.relays.now)

use Rattle.std.proofs.Common.{◌≡◌, ◌==◌, ◌&&◌, ◌∙◌, subst}
use Rattle.std.specs.List.{list_any}
use Rattle.sy_site.specs.Sites.{is_spare}
use Rattle.sy_site.proofs.lemmas.sites.Spares.{by_relay}
use Rattle.sy_site.proofs.site.Site.is_spare.Goals as goal

pub returns : goal.returns
returns c =
    subst (λ site. c.is_among.result ≡ is_spare site (record { relay = c.args.relay; action = c.args.action })) c.self.view_is
    (subst (λ spares. c.is_among.result ≡ list_any (λ a. a.relay == c.args.relay && a.action == c.args.action) spares) c.as_slice.ensures.value
    c.is_among.ensures
    ∙ by_relay c.self.inside.spares.items c.args.relay c.args.action)

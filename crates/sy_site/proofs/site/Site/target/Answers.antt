use Rattle.std.proofs.Common.{◌≡◌, ◌∙◌, subst}
use Rattle.sy_site.specs.internal.SiteInside.{looked_up}
use Rattle.sy_site.specs.Sites.{target}
use Rattle.sy_site.proofs.lemmas.sites.Targets.{by_table}
use Rattle.sy_site.proofs.site.Site.target.Goals as goal

pub returns : goal.returns
returns c =
    subst (λ site. c.target_in.result ≡ target site (record { relay = c.args.relay; action = c.args.action })) c.self.view_is
    (subst (λ targets. c.target_in.result ≡ looked_up targets c.args.relay c.args.action) c.as_slice.ensures.value c.target_in.ensures
    ∙ by_table c.self.inside.policy c.self.inside.relays.items c.self.inside.entries.items c.self.inside.whole_entries.items c.self.inside.protections.items c.self.inside.spares.items c.self.inside.outsides.items
    c.self.inside.targets.items
    c.self.invariant.2 c.args.relay c.args.action)

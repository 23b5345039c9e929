use Rattle.std.proofs.Common.{◌≡◌, [], map, sym, ap, subst, ◌∙◌, rules}
use Rattle.sy_site.specs.internal.Reading.{line_given}
use Rattle.sy_site.specs.internal.Relays.{HasMore}
use Rattle.sy_site.specs.internal.SiteInside.{site_with}
use Rattle.sy_site.specs.texts.Describes.{IsProtection, protect_lines}
use Rattle.sy_site.proofs.lemmas.sites.More.{next_line, none_of, nothing, protect_first}
use Rattle.sy_site.proofs.texts.references.protections.Goals as goal

pub loop-given-preserved : goal.loop-given-preserved
loop-given-preserved c = λ final later.
    c.loop-given.invariant final
    (subst (λ l. HasMore (IsProtection (site_with c.args.relays.now)) (protect_lines (map line_given l)) c.loop-given.protections.items final)
    (sym c.in-Some.ensures.steps.0)
    (next_line (IsProtection (site_with c.args.relays.now)) protect_lines protect_first c.in-Some.given c.next.new.self.rest.items _ _ final
    c.in_ok-push_protection.ensures.protections later))

pub returns-clause-protections : goal.returns-clause-protections
returns-clause-protections c =
    let whole : c.into_iter-given-iterator.result.rest.items ≡ c.args.found.items = search rules in
    let none : c.loop-given.given-iterator.rest.items ≡ [] =
    nothing c.loop-given.given-iterator.rest.items (sym c.loop-given.given-iterator.rest.ok.0 ∙ c.in-None.ensures.steps.0) in
    subst (λ l. HasMore (IsProtection (site_with c.args.relays.now)) (protect_lines (map line_given l)) [] c.loop-given.protections.items) whole
    (c.loop-given.invariant c.loop-given.protections.items
    (none_of (IsProtection (site_with c.args.relays.now)) _ c.loop-given.protections.items (ap (λ l. protect_lines (map line_given l)) none)))

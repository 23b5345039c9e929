use Rattle.std.proofs.Common.{◌≡◌, ◌∙◌, ◌++◌, ◌∷◌, [], None, ap, subst, sym}
use Rattle.sy_flows.specs.Leads.{AreFound}
use Rattle.sy_flows.proofs.Led.{found_first}
use Rattle.sy_flows.proofs.lists.begin.Goals as goal

pub returns-clause-found : goal.returns-clause-found
returns-clause-found c =
    let lists = c.in_ok-push.ensures.items ∙ ap (λ l. l ++ c.args.start ∷ []) c.new-lists.ensures.items in
    let origins = c.in_ok-push-2.ensures.items ∙ ap (λ l. l ++ None ∷ []) c.new-origins.ensures.items in
    subst (λ l. AreFound c.args.site.now c.args.class c.args.start l c.push-2.new.self.items) (sym lists)
    (subst (AreFound c.args.site.now c.args.class c.args.start (c.args.start ∷ [])) (sym origins)
    (found_first c.args.site.now c.args.class c.args.start c.requires.there))

pub returns-clause-lists : goal.returns-clause-lists
returns-clause-lists c = c.in_ok-push.ensures.items ∙ ap (λ l. l ++ c.args.start ∷ []) c.new-lists.ensures.items

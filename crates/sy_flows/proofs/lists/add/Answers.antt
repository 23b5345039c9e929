use Rattle.std.proofs.Common.{◌≡◌, ◌∙◌, ◌++◌, ◌∷◌, [], Some, subst, sym}
use Rattle.std.specs.Prelude.{Contains}
use Rattle.std.proofs.lemmas.List.Elements.{Contains-push}
use Rattle.std.proofs.lemmas.Map.Views.{Contains-from_any}
use Rattle.sy_flows.specs.Leads.{AreFound}
use Rattle.sy_flows.specs.internal.Leads.{HasMore}
use Rattle.sy_flows.specs.internal.Marks.{AreListsMarked}
use Rattle.sy_flows.proofs.Led.{found_more, nothing_more, one_more, same_list_is}
use Rattle.sy_flows.proofs.lists.add.Goals as goal

pub returns-then-is_found-clause-more : goal.returns-then-is_found-clause-more
returns-then-is_found-clause-more c = nothing_more c.args.found.now.lists.items

pub returns-then-is_found-clause-has : goal.returns-then-is_found-clause-has
returns-then-is_found-clause-has c =
    Contains-from_any same_list_is c.args.list c.args.found.now.lists.items
    (sym c.is_found.ensures ∙ c.if-is_found.true)

pub returns-clause-found : goal.returns-clause-found
returns-clause-found c =
    subst (λ l. AreFound c.args.site.now c.args.class c.args.start l c.push-2.new.self.items) (sym c.in_ok-push.ensures.items)
    (subst (AreFound c.args.site.now c.args.class c.args.start (c.args.found.now.lists.items ++ c.args.list ∷ [])) (sym c.in_ok-push-2.ensures.items)
    (found_more c.args.site.now c.args.class c.args.start c.args.found.now.lists.items c.args.found.now.origins.items c.args.list c.args.origin
    c.requires.found c.requires.there c.requires.origin
    (sym c.is_found.ensures ∙ c.if-is_found.false)))

pub returns-clause-more : goal.returns-clause-more
returns-clause-more c = subst (HasMore c.args.found.now.lists.items) (sym c.in_ok-push.ensures.items) (one_more c.args.found.now.lists.items c.args.list)

pub returns-clause-has : goal.returns-clause-has
returns-clause-has c =
    subst (λ l. Contains l c.args.list) (sym c.in_ok-push.ensures.items) (Contains-push c.args.found.now.lists.items c.args.list)

pub is_found-requires : goal.is_found-requires
is_found-requires c = record {
  marked = subst (AreListsMarked c.args.found.now.lists.items) (sym c.as_slice.ensures.value) c.requires.marked;
}

pub returns-clause-marked : goal.returns-clause-marked
returns-clause-marked c =
    subst (λ l. AreListsMarked l c.mark_list.new.marks.items) (sym c.in_ok-push.ensures.items)
    (c.in_ok-mark_list.ensures c.args.found.now.lists.items c.requires.marked)

use Rattle.std.proofs.Common.{◌≡◌, ◌∙◌, ◌++◌, ◌∷◌, [], ap, arith, set, subst, sym, true}
use Rattle.std.specs.Prelude.{Contains}
use Rattle.std.proofs.lemmas.List.Elements.{Contains-push}
use Rattle.sy_warnings.specs.internal.Following.{AreFound, HasMore, IsMarked, mark_of}
use Rattle.sy_warnings.proofs.Arriving.{found_more, nothing_more, one_more}
use Rattle.sy_warnings.proofs.Execution.{refuted}
use Rattle.sy_warnings.proofs.coming.add.Goals as goal

pub returns-then-is_marked-clause-more : goal.returns-then-is_marked-clause-more
returns-then-is_marked-clause-more c = nothing_more c.args.found.now.lists.items

pub returns-then-is_marked-clause-has : goal.returns-then-is_marked-clause-has
returns-then-is_marked-clause-has c =
    c.requires.found.marked c.args.at c.requires.there
    (subst (λ l. IsMarked l c.args.at) c.as_slice.ensures.value (c.is_marked.ensures.0 c.if-is_marked.true))

pub returns-clause-found : goal.returns-clause-found
returns-clause-found c =
    let marks = c.args.found.now.marks.items in
    subst (λ k. AreFound c.args.site.now c.args.class c.args.by c.push.new.self.items (set marks k true)) (sym c.mark_of.ensures)
    (subst (λ l. AreFound c.args.site.now c.args.class c.args.by l (set marks (mark_of c.args.at) true)) (sym c.in_ok-push.ensures.items)
    (found_more c.args.site.now c.is_lawful.ensures c.args.class c.args.by c.args.found.now.lists.items marks c.args.at c.requires.found
    c.requires.there c.requires.comes
    (λ mark. refuted c.is_marked.result (IsMarked c.as_slice.result.now c.args.at) c.is_marked.ensures c.if-is_marked.false
    (subst (λ l. IsMarked l c.args.at) (sym c.as_slice.ensures.value) mark))))

pub returns-clause-more : goal.returns-clause-more
returns-clause-more c = subst (HasMore c.args.found.now.lists.items) (sym c.in_ok-push.ensures.items) (one_more c.args.found.now.lists.items c.args.at)

pub returns-clause-has : goal.returns-clause-has
returns-clause-has c =
    subst (λ l. Contains l c.args.at) (sym c.in_ok-push.ensures.items) (Contains-push c.args.found.now.lists.items c.args.at)

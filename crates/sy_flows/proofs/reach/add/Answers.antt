use Rattle.std.proofs.Common.{◌≡◌, ◌∙◌, ◌++◌, ◌∷◌, [], sym, subst}
use Rattle.sy_flows.specs.internal.Found.{Adds}
use Rattle.sy_flows.specs.internal.Marks.{AreMarked}
use Rattle.sy_flows.specs.Search.{AreRooted}
use Rattle.sy_flows.proofs.FoundInputs.{had, pushed}
use Rattle.sy_flows.proofs.Rooted.{rooted_more}
use Rattle.sy_flows.proofs.reach.add.Goals as goal

pub returns-then-is_found-clause-inputs : goal.returns-then-is_found-clause-inputs
returns-then-is_found-clause-inputs c =
    had c.args.found.now.inputs.items c.args.input
    (sym c.is_found.ensures ∙ c.if-is_found.true)

pub returns-clause-inputs : goal.returns-clause-inputs
returns-clause-inputs c =
    subst (Adds (λ x. x ≡ c.args.input) c.args.found.now.inputs.items) (sym c.in_ok-push.ensures.items)
    (pushed c.args.found.now.inputs.items c.args.input
    (sym c.is_found.ensures ∙ c.if-is_found.false))

pub returns-clause-roots : goal.returns-clause-roots
returns-clause-roots c = λ site class which start is rooted.
    subst (λ l. AreRooted site class which start l c.push-2.new.self.items) (sym c.in_ok-push.ensures.items)
    (subst (AreRooted site class which start (c.args.found.now.inputs.items ++ c.args.input ∷ [])) (sym c.in_ok-push-2.ensures.items)
    (rooted_more site class which start c.args.found.now.inputs.items c.args.found.now.origins.items c.args.input c.args.origin is rooted))

pub is_found-requires : goal.is_found-requires
is_found-requires c = record {
  marked = subst (AreMarked c.args.found.now.inputs.items) (sym c.as_slice.ensures.value) c.requires.marked;
}

pub returns-clause-marked : goal.returns-clause-marked
returns-clause-marked c =
    subst (λ l. AreMarked l c.mark_input.new.marks.items) (sym c.in_ok-push.ensures.items)
    (c.in_ok-mark_input.ensures c.args.found.now.inputs.items c.requires.marked)

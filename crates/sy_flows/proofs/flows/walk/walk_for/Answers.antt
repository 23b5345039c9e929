use Rattle.std.proofs.Common.{subst}
use Rattle.sy_flows.specs.internal.Walks.{IsSameAt}
use Rattle.sy_flows.proofs.Walked.{same_walk_at}
use Rattle.sy_flows.proofs.flows.walk.walk_for.Goals as goal

pub returns-in-Some-clause-at : goal.returns-in-Some-clause-at
returns-in-Some-clause-at c =
    same_walk_at c.args.site.now c.is_lawful.ensures c.args.class c.args.walks.now.items c.in_ok-lists.lists c.in-Some.place c.requires.walks
    c.in_ok-lists.ensures (subst (λ l. IsSameAt l c.in_ok-lists.lists c.in-Some.place) c.as_slice.ensures.value c.in-Some.ensures.some)

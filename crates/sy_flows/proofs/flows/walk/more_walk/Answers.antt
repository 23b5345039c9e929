use Rattle.std.proofs.Common.{◌++◌, ◌∷◌, [], subst, sym}
use Rattle.sy_flows.specs.Walks.{AreWalks, IsWalkAt}
use Rattle.sy_flows.proofs.Walked.{last_walk, more_walks}
use Rattle.sy_flows.proofs.flows.walk.more_walk.Goals as goal

pub returns-clause-walks : goal.returns-clause-walks
returns-clause-walks c =
    subst (AreWalks c.args.site.now) (sym c.in_ok-place.ensures.walks)
    (more_walks c.args.site.now c.args.class c.args.walks.now.items c.in_ok-walk.walk c.requires.walks c.in_ok-walk.ensures)

pub returns-clause-at : goal.returns-clause-at
returns-clause-at c =
    subst (λ l. IsWalkAt c.args.site.now c.args.class l c.in_ok-place.place) (sym c.in_ok-place.ensures.walks)
    (subst (IsWalkAt c.args.site.now c.args.class (c.args.walks.now.items ++ c.in_ok-walk.walk ∷ [])) (sym c.in_ok-place.ensures.place)
    (last_walk c.args.site.now c.args.class c.args.walks.now.items c.in_ok-walk.walk c.in_ok-walk.ensures))

use Rattle.std.proofs.Common.{ap, arith}
use Rattle.sy_replay.proofs.Sites.{plans_set}
use Rattle.sy_replay.proofs.Takes.{get_there, left, relay_there}
use Rattle.sy_replay.proofs.part.unlink.Goals as goal

pub index_mut-requires : goal.index_mut-requires
index_mut-requires c = let there = relay_there c.args.parts.now.items c.args.link c.args.place c.requires in let ok = c.args.parts.now.ok in omega (arith, there, ok)

pub returns-clause-gone : goal.returns-clause-gone
returns-clause-gone c =
    let parts = c.args.parts.now.items in
    let is = get_there parts c.args.link.relay c.index_mut.result.now c.index_mut.result.now (relay_there parts c.args.link c.args.place c.requires) c.index_mut.ensures.value in
    left parts c.args.link c.args.place c.index_mut.result.now c.unlink.new.self is c.requires c.unlink.ensures.board c.unlink.ensures.passed

pub returns-clause-plans : goal.returns-clause-plans
returns-clause-plans c =
    let parts = c.args.parts.now.items in
    let is = get_there parts c.args.link.relay c.index_mut.result.now c.index_mut.result.now (relay_there parts c.args.link c.args.place c.requires) c.index_mut.ensures.value in
    plans_set c.args.link.relay parts c.index_mut.result.now c.unlink.new.self is (ap (λ b. b.plan) c.unlink.ensures.board)

use Rattle.std.proofs.Common.{ℕ, ◌+◌, ap, get_or, subst, sym, take}
use Rattle.std.proofs.lemmas.List.{get_or_default}
use Rattle.sy_checker.specs.internal.Loops.{IsHeightOf}
use Rattle.sy_flows.specs.declared.flows.Hop.{Hop}
use Rattle.sy_checker.proofs.Heights.{height_none, height_of_all, new_most, still_most}
use Rattle.sy_checker.proofs.reach.height.height_of.Goals.{else-most-next, then-most-next}
use Rattle.sy_checker.proofs.reach.height.height_of.Goals as goal

pub loop-hop-init : goal.loop-hop-init
loop-hop-init c = height_none c.args.ranks.now c.args.hops.now

pub loop-hop-preserved : goal.loop-hop-preserved
loop-hop-preserved c =
    let ranks = c.args.ranks.now in
    let hops = c.args.hops.now in
    let k = c.loop-hop.hop-index in
    let none : Hop = record { number = 0; to = record { relay = 0; input = 0 } } in
    let hop = get_or hops k none in
    let is = get_or_default hops k none hop c.loop-hop-test.true in
    let one = ap (λ n. n + 1) c.rank_of-next.ensures in
    let so_far = λ (most : ℕ). IsHeightOf ranks (take (k + 1) hops) most in
    elim c.if-most-next.branch [
      | then-most-next w ↦
          subst so_far (sym w.most-is)
          (new_most ranks hops k hop c.loop-hop-test.true is c.loop-hop.most (c.rank_of-next.result + 1) c.loop-hop.invariant one w.if-most-next.true)
      | else-most-next w ↦
          subst so_far (sym w.most-is)
          (still_most ranks hops k hop c.loop-hop-test.true is c.loop-hop.most (c.rank_of-next.result + 1) c.loop-hop.invariant one w.if-most-next.false)
    ]

pub returns : goal.returns
returns c = height_of_all c.args.ranks.now c.args.hops.now c.loop-hop.hop-index c.loop-hop.most c.loop-hop-test.false c.loop-hop.invariant

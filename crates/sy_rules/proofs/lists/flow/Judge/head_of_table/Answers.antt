use Rattle.std.proofs.Common.{◌-◌, ◌≤◌, drop, length, arith, refl, subst}
use Rattle.std.proofs.lemmas.List.{length-take, length-drop}
use Rattle.sy_rules.specs.internal.ClassFlows.{IsTail, executes}
use Rattle.sy_rules.specs.internal.FlowWalk.{judged}
use Rattle.sy_rules.proofs.lemmas.lists.Decided.{executes_more, not_false, so_far_more, tail_of_rest, tail_within}
use Rattle.sy_rules.proofs.lemmas.lists.TableLaws.{first_and_rest}
use Rattle.sy_rules.proofs.lists.flow.Judge.head_of_table.Goals as goal

pub loop-rest-preserved : goal.loop-rest-preserved
loop-rest-preserved c =
    let judge = judged c.args.self.class c.args.self.tests.now in
    let set = c.loop-rest.executed in
    let rest = c.loop-rest.rest.now in
    let left = length-take (length rest - 1) (drop 1 rest) in
    let one = length-drop 1 rest in
    let of_length : length c.in-Some.later.now ≤ length rest = omega (arith, left, one, c.in-Some.ensures.shorter) in
    let whole = first_and_rest _ c.loop-rest.rest.now _ c.in-len1-up.len_at_least in
    let of_rest = subst (IsTail c.in-Some.later.now) whole (tail_of_rest _ _ c.in-Some.later.now c.in-Some.ensures.tail c.in-Some.ensures.shorter) in
    record {
      same = so_far_more judge c.args.self.tables.now 17 c.args.table.now 0 (executes set) c.in-Some.next (executes _) c.loop-rest.rest.now _ c.in-Some.later.now whole
          (executes_more set _ c.in-Some.next (not_false _ c.if-not-next.false) refl) c.loop-rest.invariant.same c.in-Some.ensures.reached;
      tail = tail_within c.in-Some.later.now rest c.args.table.now of_rest c.loop-rest.invariant.tail of_length c.loop-rest.invariant.shorter;
      shorter = omega (arith, of_length, c.loop-rest.invariant.shorter);
    }

use Rattle.std.proofs.Common.{◌≡◌, drop, length, map, take, sym, subst, ap, ◌∙◌, arith}
use Rattle.std.specs.Arc.{arc_value}
use Rattle.std.specs.Vec.{vec_len}
use Rattle.sy_rules.specs.declared.lists.occurrence.Occurrence.TheVariants as occurrence
use Rattle.sy_board.specs.relay.Runs.{AreRuns}
use Rattle.sy_board.proofs.relay.JobSteps.{slot_in, turn_of}
use Rattle.sy_board.proofs.relay.Running.{none_given}
use Rattle.sy_board.proofs.relay.Slots.{job_of, next_of_job, slot_entries}
use Rattle.sy_board.proofs.relay.board.Board.runs.Goals as goal

pub returns-in_default-clause-ok : goal.returns-in_default-clause-ok
returns-in_default-clause-ok c =
    let is = slot_in c.self.inside c.args.self.now c.args.worker c.index_mut-slot.result.now c.self.view_is c.self.invariant c.requires.there c.index_mut-slot.ensures.value in (
      rw (← c.self.view_is) (λ action job. (rw c.deref.ensures at c.in_default.ensures.none) (action, job.left, next_of_job c.self.inside c.args.worker c.index_mut-slot.result.now (occurrence.Run action) is job)),
      none_given arc_value c.args.into.now.items,
    )

pub returns-clause-ok : goal.returns-clause-ok
returns-clause-ok c =
    let turn = turn_of c.self.inside c.args.self.now c.args.worker c.index_mut-slot.result.now c.deref.result.now (occurrence.Run c.in-Some.action) c.in-Some.field-0-1
    c.self.view_is c.self.invariant c.requires.there c.index_mut-slot.ensures.value c.deref.ensures c.in-Some.ensures.some in
    rw (← c.self.view_is) (
      job_of c.self.inside c.args.worker c.index_mut-slot.result.now (occurrence.Run c.in-Some.action) c.in-Some.field-0-1 turn.is turn.next,
      subst (λ es. AreRuns (arc_value c.self.inside.plan) c.in-Some.action c.args.most es (map arc_value (drop (length c.args.into.now.items) c.take_runs-given.new.into.items))) (sym (slot_entries c.self.inside c.args.worker c.index_mut-slot.result.now turn.is))
          (rw c.deref-2.ensures at c.in-Ok.ensures.ok),
    )

pub returns-in_default-given-clause-err : goal.returns-in_default-given-clause-err
returns-in_default-given-clause-err c =
    let turn = turn_of c.self.inside c.args.self.now c.args.worker c.index_mut-slot.result.now c.deref.result.now (occurrence.Run c.in-Some.action) c.in-Some.field-0-1
    c.self.view_is c.self.invariant c.requires.there c.index_mut-slot.ensures.value c.deref.ensures c.in-Some.ensures.some in
    let items = rw c.len-before.ensures at c.truncate.ensures.items in
    let many : vec_len c.args.into.now ≡ length c.args.into.now.items = omega (arith, c.args.into.now.ok.0) in (
      items ∙ ap (λ n. take n c.take_runs-given.new.into.items) many ∙ c.take_runs-given.ensures.kept,
      rw (← c.self.view_is) (c.in-Some.action, job_of c.self.inside c.args.worker c.index_mut-slot.result.now (occurrence.Run c.in-Some.action) c.in-Some.field-0-1 turn.is turn.next),
      c.in_default-given.ensures.refused,
    )

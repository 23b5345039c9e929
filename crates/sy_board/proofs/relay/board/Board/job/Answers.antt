use Rattle.std.proofs.Common.{refl, subst}
use Rattle.std.specs.Arc.{arc_value}
use Rattle.sy_rules.specs.declared.lists.occurrence.Occurrence.{Occurrence}
use Rattle.sy_rules.specs.declared.lists.occurrence.Occurrence.TheVariants as occurrence
use Rattle.sy_board.proofs.relay.JobSteps.{IsTurn, slot_in, reported, turn_of}
use Rattle.sy_board.proofs.relay.Slots.{no_job}
use Rattle.sy_board.proofs.relay.Firsts.{front_read}
use Rattle.sy_board.proofs.relay.board.Board.job.Goals as goal
use Rattle.sy_board.proofs.relay.board.Board.job.Goals.{in-Run, in-Post}

pub returns-in_err-occurrence-clause-none : goal.returns-in_err-occurrence-clause-none
returns-in_err-occurrence-clause-none c =
    let is = slot_in c.self.inside c.args.self.now c.args.worker c.index.result.now c.self.view_is c.self.invariant c.requires c.index.ensures in
    rw (c.from_residual.ensures, ← c.self.view_is) (no_job c.self.inside c.args.worker c.index.result.now is (rw c.deref.ensures at c.in_err-occurrence.ensures.none))

pub returns-clause-some : goal.returns-clause-some
returns-clause-some c =
    let turn = turn_of c.self.inside c.args.self.now c.args.worker c.index.result.now c.deref.result.now c.in_ok-occurrence.occurrence c.in_ok-occurrence.field-0-1
    c.self.view_is c.self.invariant c.requires c.index.ensures c.deref.ensures c.in_ok-occurrence.ensures.some in
    elim c.match-occurrence.branch [
      | in-Run w ↦
          let run = subst (λ (o : Occurrence). IsTurn c.self.inside c.args.worker c.index.result.now o c.in_ok-occurrence.field-0-1) w.in-Run.is turn in
          let reports = reported c.self.inside c.args.worker c.index.result.now (occurrence.Run w.in-Run.action) c.in_ok-occurrence.field-0-1 run c.in_ok-node.node.now
          (arc_value c.message-message.result.now) c.in_ok-node.node.now.input c.tag-tag.result (front_read _ _ c.in_ok-node.ensures.some) c.message-message.ensures.value refl c.tag-tag.ensures in
          rw (w.result-is, ← c.self.view_is) (reports.0, reports.1, reports.3)
      | in-Post w ↦
          let post = subst (λ (o : Occurrence). IsTurn c.self.inside c.args.worker c.index.result.now o c.in_ok-occurrence.field-0-1) w.in-Post.is turn in
          let reports = reported c.self.inside c.args.worker c.index.result.now (occurrence.Post w.in-Post.list) c.in_ok-occurrence.field-0-1 post c.in_ok-node.node.now
          (arc_value c.message-message.result.now) w.input.result c.tag-tag.result (front_read _ _ c.in_ok-node.ensures.some) c.message-message.ensures.value w.input.ensures c.tag-tag.ensures in
          rw (w.result-is, ← c.self.view_is) (reports.0, reports.2, reports.1, reports.3)
    ]

use Rattle.std.proofs.Common.{◌∙◌, Some, ap, sym}
use Rattle.sy_board.specs.relay.Boards.{BoardState}
use Rattle.sy_board.specs.relay.Cells.{first_list, followed_at}
use Rattle.sy_board.proofs.relay.JobSteps.{slot_in}
use Rattle.sy_board.proofs.relay.Slots.{slot_entries}
use Rattle.sy_board.proofs.relay.board.Board.followed.Goals as goal

pub returns : goal.returns
returns c =
    let is = slot_in c.self.inside c.args.self.now c.args.worker c.index.result.now c.self.view_is c.self.invariant c.requires c.index.ensures in
    ap Some c.list.ensures ∙ sym (ap first_list (slot_entries c.self.inside c.args.worker c.index.result.now is ∙ c.in_ok-first.ensures.some))
    ∙ ap (λ (s : BoardState). followed_at s.state c.args.worker) c.self.view_is

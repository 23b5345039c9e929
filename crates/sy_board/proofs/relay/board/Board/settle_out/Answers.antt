use Rattle.sy_board.proofs.relay.board.Board.settle_out.Goals as goal

pub returns-in-Ok-clause-ok : goal.returns-in-Ok-clause-ok
returns-in-Ok-clause-ok c = rw (c.device.ensures, c.deref.ensures, c.message.ensures.value) at c.in-Ok.ensures.ok

use Rattle.sy_runtime.proofs.Posted.{post_lost}
use Rattle.sy_runtime.proofs.worker.posting.lose.Goals as goal

pub returns-in-Ok : goal.returns-in-Ok
returns-in-Ok c = post_lost c.args.board.now c.args.worker c.post_lost.new.self c.in-Ok.ensures.ok

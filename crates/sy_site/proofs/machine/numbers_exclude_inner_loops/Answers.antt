use Rattle.sy_site.proofs.machine.Posts.{no_inner_loop}
use Rattle.sy_site.proofs.machine.numbers_exclude_inner_loops.Goals as goal

pub returns : goal.returns
returns c = no_inner_loop

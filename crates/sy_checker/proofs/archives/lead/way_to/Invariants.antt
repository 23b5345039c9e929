use Rattle.sy_checker.proofs.PathsFound.{HasWay}
use Rattle.sy_checker.proofs.archives.lead.way_to.Given as goal

abbrev pub invariant-loop-origin : goal.invariant-loop-origin
invariant-loop-origin l = HasWay l.fn.site l.fn.class l.found.lists.items l.fn.place l.at l.back.items

abbrev pub decreases-loop-origin : goal.decreases-loop-origin
decreases-loop-origin l = l.at

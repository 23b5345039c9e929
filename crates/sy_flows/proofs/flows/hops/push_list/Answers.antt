use Rattle.std.proofs.Common.{subst, sym}
use Rattle.sy_flows.specs.internal.Marks.{AreListed}
use Rattle.sy_flows.proofs.Marked.{list_marked}
use Rattle.sy_flows.proofs.flows.hops.push_list.Goals as goal

pub returns-clause-listed : goal.returns-clause-listed
returns-clause-listed c =
    subst (λ l. AreListed l c.mark.new.marks.items) (sym c.in_ok-push.ensures.items)
    (list_marked c.args.lists.now.items c.args.list c.args.marks.now.items c.mark.new.marks.items c.requires.listed c.in_ok-mark.ensures)

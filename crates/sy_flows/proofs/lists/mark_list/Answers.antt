use Rattle.std.proofs.Common.{subst}
use Rattle.sy_flows.specs.internal.Marks.{IsMarkedMore}
use Rattle.sy_flows.proofs.MarkedLists.{list_behind, list_marked_more}
use Rattle.sy_flows.proofs.lists.mark_list.Goals as goal

pub returns-then-list-ge64 : goal.returns-then-list-ge64
returns-then-list-ge64 c = λ before are. list_behind before c.args.list c.args.marks.now.items are c.if-list-ge64.true

pub returns : goal.returns
returns c = λ before are.
    list_marked_more before c.args.list c.args.marks.now.items are c.mark.new.marks.items c.if-list-ge64.false
    (subst (λ p. IsMarkedMore c.args.marks.now.items p c.mark.new.marks.items) c.place_of.ensures c.in_ok-mark.ensures)

use Rattle.std.proofs.Common.{subst}
use Rattle.sy_flows.specs.internal.Marks.{IsMarkedMore}
use Rattle.sy_flows.proofs.Marked.{input_behind, input_marked}
use Rattle.sy_flows.proofs.reach.mark_input.Goals as goal

pub returns-then-input-ge64 : goal.returns-then-input-ge64
returns-then-input-ge64 c = λ before are. input_behind before c.args.input c.args.marks.now.items are c.if-input-ge64.true

pub returns : goal.returns
returns c = λ before are.
    input_marked before c.args.input c.args.marks.now.items are c.mark.new.marks.items c.if-input-ge64.false
    (subst (λ p. IsMarkedMore c.args.marks.now.items p c.mark.new.marks.items) c.place_of.ensures c.in_ok-mark.ensures)

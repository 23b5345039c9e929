use Rattle.sy_chain.proofs.Leading.{some_in, joined_in}
use Rattle.sy_chain.proofs.linked.LinkedBlocks.append.Goals as goal

-- the other's last block is the last, and the last one here leads to the other's first
pub invariant_of-self : goal.invariant_of-self
invariant_of-self g c = joined_in
    _ _ _ _ _ _ _ _
    (some_in _ _ _ c.self.view_is c.if-is_empty-2.false c.is_empty-2.ensures)
    (some_in _ _ _ c.other.view_is c.if-is_empty.false c.is_empty.ensures)
    c.self.invariant c.other.invariant c.set_last_next.ensures c.append.ensures

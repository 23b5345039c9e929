use Rattle.sy_passing.proofs.Ready.{node_leaves, settle_done}
use Rattle.sy_passing.proofs.pass.one_message.carry.Goals as goal

pub unreachable-requires : goal.unreachable-requires
unreachable-requires g c = node_leaves _ _ _ _ c.insert_entry.ensures.ready c.in-Ok-None.ensures.ok (rw c.in-Ok-None.field-0-is at c.in-Ok-None.ensures.out)

pub unreachable-requires-in-Err-settle_out : goal.unreachable-requires-in-Err-settle_out
unreachable-requires-in-Err-settle_out g c = settle_done _ _ _ _ c.requires.room c.insert_entry.ensures.taken c.in-Ok.ensures.receipt c.in-Err-settle_out.ensures.err

-- What the threads of a relay share may cross threads: one lemma for each type, each by those of its fields.
use denote.RattleType.{RattleType}
use denote.Param.Object.{Ghosts, table_of}
use denote.Param.Sent.{Sends}
use denote.Param.Send.{IsSend, IsSync, sendable}
use Rattle.std.proofs.Crossing.{crosses, dyn_box_send}
use Rattle.std.specs.contracts.dyn_box.DynBox as Dyn
use Rattle.std.specs.contracts.alloc.Global as Heap
use Rattle.std.specs.contracts.impls.GlobalAllocator.TheImpl.{ghosts}
use Rattle.sy_actions.specs.contracts.hatch.Hatch as Hatch
use Rattle.sy_board.specs.contracts.relay.board.Board as Board
use Rattle.sy_board.specs.contracts.relay.guard.Guard as Guard
use Rattle.sy_chain.specs.contracts.chain.Chain as Chain
use Rattle.sy_chain.specs.contracts.node.Fields as Fields
use Rattle.sy_chain.specs.contracts.node.Node as Node
use Rattle.sy_chain.proofs.linked.LinkedBlocks.TheSendSync.{the_send as linked_send}
use Rattle.sy_marks.specs.contracts.queue.MarkQueue as Queue
use Rattle.sy_rules.specs.contracts.plan.Plan as Plan
use Rattle.sy_select.proofs.node.Node.TheLaws.TheKnot.{crosses as expressions}
use Rattle.sy_runtime.specs.contracts.locked.Locked as Locked
use Rattle.sy_runtime.specs.contracts.relay.Common as Common
use Rattle.sy_runtime.specs.contracts.relay.Relay as Relay

node_send : IsSend Node.the_row
node_send = search (sendable, crosses) depth 30 fits 2000

guard_send : IsSend Guard.the_row
guard_send = search (sendable, crosses) depth 30 fits 2000

plan_send : IsSend Plan.the_row
plan_send = search (expressions, sendable, crosses) depth 60 fits 5000

plan_sync : IsSync Plan.the_row
plan_sync = search (expressions, sendable, crosses) depth 60 fits 5000

fields_send : IsSend Fields.the_row
fields_send = search (sendable, crosses) depth 30 fits 2000

chain_send : IsSend Chain.the_row
chain_send = search (node_send, fields_send, linked_send, sendable, crosses) depth 30 fits 2000

queue_send : IsSend Queue.the_row
queue_send = search (chain_send, sendable, crosses) depth 30 fits 2000

board_send : IsSend Board.the_row
board_send = search (plan_send, plan_sync, queue_send, chain_send, node_send, guard_send, sendable, crosses) depth 40 fits 2000

locked_send : IsSend Locked.the_row
locked_send = search (board_send, node_send, sendable, crosses) depth 40 fits 2000

guard_sync : IsSync Guard.the_row
guard_sync = search (sendable, crosses) depth 30 fits 2000

-- (a device in its box; a proof for a type isn't found at a field of it, so the others go down to what the locks hold)
module _ (T : RattleType) (g : Ghosts T.Denot) (s : Sends (table_of T.Denot g)) (t : IsSend T) where
  device_send : IsSend (Dyn.the_row T Heap.the_row g ghosts)
  device_send = dyn_box_send T g s t

  hatch_send : IsSend (Hatch.the_row (Dyn.the_row T Heap.the_row g ghosts))
  hatch_send = search (device_send, sendable, crosses) depth 20

  module _ (G : RattleType) where
    pub common_send : IsSend G → IsSend (Common.the_row G T g)
    common_send a = search (locked_send, hatch_send, guard_send, sendable, crosses) depth 40 fits 5000

    pub common_sync : IsSync G → IsSync (Common.the_row G T g)
    common_sync b = search (locked_send, hatch_send, guard_sync, sendable, crosses) depth 40 fits 5000

    pub relay_send : IsSend G → IsSync G → IsSend (Relay.the_row G T g)
    relay_send a b = search (common_send, common_sync, sendable, crosses) depth 20

    pub relay_sync : IsSend G → IsSync G → IsSync (Relay.the_row G T g)
    relay_sync a b = search (common_send, common_sync, sendable, crosses) depth 20

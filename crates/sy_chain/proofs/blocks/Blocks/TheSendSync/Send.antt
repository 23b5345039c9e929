-- Blocks may move to another thread where their values may. Assumes nothing.
use Rattle.std.specs.Prelude.{List, [], ◌∷◌}
use mir.Raw.{raw}
use base.Shift.{Keyless}
use denote.Memory.{lone}
use denote.RattleType.{RattleType}
use denote.Struct.Struct.{exits_of}
use denote.Struct.Owning.{shape, fields, to}
use denote.Param.Send.{IsSend, AllSend, owning_send, struct_send, sendable}
use Rattle.std.proofs.Crossing as heap
use Rattle.std_alloc.proofs.SendSync.{quiet, lies}
use Rattle.core.specs.contracts.marker.PhantomData as Mark
use Rattle.sy_chain.specs.internal.Linked.{Placed}
use Rattle.sy_chain.specs.internal.Ownership.{blocks_own}
use Rattle.sy_chain.specs.contracts.blocks.Blocks.{the_row, the_type}
use Rattle.sy_chain.specs.contracts.blocks.Block as Block
use Rattle.sy_chain.proofs.blocks.Block.TheSendSync.{the_send}

mark_send : (T : RattleType) → IsSend T → IsSend (Mark.the_field T).row
mark_send T s = search sendable

keyless : (T : RattleType) → IsSend T → (bs : List (Placed T.Denot)) → Keyless (blocks_own T bs)
keyless T s [] = tt
keyless T s (b ∷ bs) = ((lies (Block.the_row T) (the_send T s) b.0 b.1, heap.frees.frees b.1.alloc (raw (lone (Block.the_row T).mir)) b.0), keyless T s bs)

pub send : (T : RattleType) → IsSend T → IsSend (the_row T)
send T s = let all : AllSend (fields (the_type T)) = (mark_send T s, tt) in
    owning_send (the_type T) all (λ d. keyless T s d.placed) (λ k. quiet (to (the_type T)) (exits_of k (fields (the_type T))) ((struct_send (shape (the_type T)) all).leaving k))

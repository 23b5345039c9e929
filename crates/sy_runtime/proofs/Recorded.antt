-- What is settled by receipts one after the other.
use Rattle.std.proofs.Common.{◌≡◌, ℕ, sym, ap, subst}
use Rattle.sy_actions.specs.Devices.{DeliveredAll}
use Rattle.sy_board.specs.declared.fault.BoardFault.{BoardFault}
use Rattle.sy_board.specs.relay.Boards.{BoardState, SettlesNext, SettlesNoNext}
use Rattle.sy_runtime.specs.internal.Recording.{Settled, SomeSettled}

-- a receipt that settles changes no plan
pub same_plan : (old : BoardState) (w : ℕ) (receipts : DeliveredAll) (new : BoardState) (left : DeliveredAll) → SettlesNext old w receipts new left
    → new.plan ≡ old.plan
same_plan old w receipts new left (next, is, made) = ap (λ (b : BoardState). b.plan) made.2

-- a receipt more
pub one_more : (w : ℕ) (old between new : BoardState) (receipts left later : DeliveredAll) → Settled w old receipts between left
    → SettlesNext between w left new later → Settled w old receipts new later
one_more w old between new receipts left later settled next = Settled.more settled next

-- the next is refused, and nothing changed
pub some_settled : (fault : BoardFault) (w : ℕ) (old between new : BoardState) (receipts left : DeliveredAll) → Settled w old receipts between left → new ≡ between
    → SettlesNoNext fault between w left → SomeSettled fault w old receipts new
some_settled fault w old between new receipts left settled same fails =
    subst (λ b. SomeSettled fault w old receipts b) (sym same) (left, settled, fails)

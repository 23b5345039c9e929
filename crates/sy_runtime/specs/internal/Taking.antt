-- What a connection holds when it stops putting messages in.
use Rattle.std.specs.Prelude.{◌≡◌, ◌⊎◌, ℕ, Bool, false, List, [], ◌∷◌, ◌++◌, option_to_list, Option, None, Result, Ok, Err, ⊤}
use Rattle.sy_board.specs.declared.relay.answers.Taken.{Taken}
use Rattle.sy_board.specs.declared.relay.answers.Entry.TheVariants as entry
use Rattle.sy_board.specs.relay.Boards.{BoardState, EnterIs, TakeIs}
use Rattle.sy_chain.specs.Entries.{Entry}
use Rattle.sy_wire.specs.Messages.{Said}
use Rattle.sy_runtime.specs.Connections.{Counts, Kept}
use Rattle.sy_runtime.specs.internal.Held.{Holds}
use Rattle.sy_runtime.specs.declared.untaken.Item.{Item}
use Rattle.sy_runtime.specs.declared.untaken.Item.TheVariants as item
use Rattle.sy_runtime.specs.declared.connection.taking.Hand.{Hand}
use Rattle.sy_runtime.specs.declared.connection.taking.Pause.{Pause}
use Rattle.sy_runtime.specs.declared.connection.taking.Pause.TheVariants.{Held, TotalsFull, Hands, NoMemory}

-- what it holds once an item was taken, or stands first still
abbrev pub TakenIs : Result Bool (Pause × Item) → List ℕ → Counts → Kept → List Item → List ℕ → Type 0
TakenIs (Ok stays) read end kept later left = Holds read end kept later left
TakenIs (Err e) read end kept later left = Holds read end kept (e.1 ∷ later) left

-- the same, of one that goes on
abbrev pub InsertIs : Result ⊤ (Pause × Option Item) → List ℕ → Counts → Kept → List Item → List ℕ → Type 0
InsertIs (Ok _) read end kept later left = Holds read end kept later left
InsertIs (Err e) read end kept later left = Holds read end kept (option_to_list e.1 ++ later) left

-- after these a connection takes nothing more
abbrev pub IsLast : Pause → Type 0
IsLast TotalsFull = Unit {0}
IsLast Hands = Unit {0}
IsLast NoMemory = Unit {0}
IsLast (Held hold) = ⊥

-- ---- what the board then holds

-- an entry of this message came to the hand, or was discarded there; its tag is the number of the messages that were taken before it
abbrev pub Takes : BoardState → Hand → Said → BoardState → Type 0
Takes old hand message new =
    (answer : Taken) × (node : Entry) × (node.message ≡ message) × (node.tag ≡ old.totals.taken)
    × TakeIs answer old hand.input hand.number node new

-- the hand's message went into the queue
abbrev pub Enters : BoardState → Hand → BoardState → Type 0
Enters old hand new = EnterIs entry.Entered old hand.input hand.number new

abbrev pub MayEnter : BoardState → Hand → BoardState → Type 0
MayEnter old hand new = (new ≡ old) ⊎ Enters old hand new

-- a frame that carries no message is none for the board
abbrev pub HasMessage : Item → Type 0
HasMessage (item.Message node) = Unit {0}
HasMessage (item.Other text fault) = ⊥
HasMessage (item.Unmade text) = Unit {0}

-- nothing is left but from the first frame on that carries no message
abbrev pub IsUpToUnread : List Item → Type 0
IsUpToUnread [] = Unit {0}
IsUpToUnread (item.Message node ∷ later) = ⊥
IsUpToUnread (item.Other text fault ∷ later) = Unit {0}
IsUpToUnread (item.Unmade text ∷ later) = ⊥

-- the board after an item: its message came to the hand, where it may stay
abbrev pub ItemTaken : Bool → Item → BoardState → Hand → BoardState → Type 0
ItemTaken stays (item.Message node) old hand new = Takes old hand node.message new
ItemTaken stays (item.Other text fault) old hand new = ⊥
ItemTaken stays (item.Unmade text) old hand new = ⊥

-- the same, where its message may have gone on
abbrev pub ItemInsert : Item → BoardState → Hand → BoardState → Type 0
ItemInsert (item.Message node) old hand new = (between : BoardState) × Takes old hand node.message between × MayEnter between hand new
ItemInsert (item.Other text fault) old hand new = ⊥
ItemInsert (item.Unmade text) old hand new = ⊥

-- the board after these items, one after the other
pub data ItemsInsert : List Item → BoardState → Hand → BoardState → Type 0 where
  none : {board : BoardState} {hand : Hand} → ItemsInsert [] board hand board
  more :
      {items : List Item} {old between new : BoardState} {hand : Hand} (item : Item)
      → ItemsInsert items old hand between → ItemInsert item between hand new → ItemsInsert (items ++ item ∷ []) old hand new

-- the message that was in the hand may have gone on, and then these of a batch were put, one after the other
pub record BatchInsert (batch later : List Item) (old : BoardState) (hand : Hand) (new : BoardState) : Type 0 where
  pub before : BoardState
  pub items : List Item
  pub first : MayEnter old hand before
  pub parts : batch ≡ items ++ later
  pub inserted : ItemsInsert items before hand new

-- where something holds the message in the hand, it was taken, and no item stands first again
abbrev pub IsHeldInsert : Pause → Option Item → Item → BoardState → Hand → BoardState → Type 0
IsHeldInsert (Held hold) back item old hand new = (back ≡ None) × ItemInsert item old hand new
IsHeldInsert TotalsFull back item old hand new = Unit {0}
IsHeldInsert Hands back item old hand new = Unit {0}
IsHeldInsert NoMemory back item old hand new = Unit {0}

-- The same by what was answered. After the answers that end a connection nothing is said.
abbrev pub OneInsert : Result ⊤ (Pause × Option Item) → Item → BoardState → Hand → BoardState → Type 0
OneInsert (Ok _) item old hand new = ItemInsert item old hand new
OneInsert (Err e) item old hand new = IsHeldInsert e.0 e.1 item old hand new

abbrev pub SomeInsert : Result ⊤ Pause → List Item → List Item → BoardState → Hand → BoardState → Type 0
SomeInsert (Ok _) batch later old hand new = BatchInsert batch later old hand new
SomeInsert (Err (Held hold)) batch later old hand new = BatchInsert batch later old hand new
SomeInsert (Err TotalsFull) batch later old hand new = Unit {0}
SomeInsert (Err Hands) batch later old hand new = Unit {0}
SomeInsert (Err NoMemory) batch later old hand new = Unit {0}

-- What the board holds once items were put.
use Rattle.std.proofs.Common.{◌≡◌, List, [], ◌∷◌, ◌++◌, Some, None, inl, refl, sym, ap, ◌∙◌, append_assoc}
use Rattle.std.specs.Prelude.{Bool, true, false, Option, Err, option_to_list}
use Rattle.sy_board.specs.relay.Boards.{BoardState}
use Rattle.sy_runtime.specs.internal.Taking.{BatchInsert, IsLast, ItemInsert, ItemTaken, ItemsInsert, MayEnter, OneInsert, SomeInsert}
use Rattle.sy_runtime.specs.declared.untaken.Item.{Item}
use Rattle.sy_runtime.specs.declared.untaken.Item.TheVariants.{Message, Other, Unmade}
use Rattle.sy_runtime.specs.declared.connection.taking.Hand.{Hand}
use Rattle.sy_runtime.specs.declared.connection.taking.Pause.{Pause}
use Rattle.sy_runtime.specs.declared.connection.taking.Pause.TheVariants.{Held, TotalsFull, Hands, NoMemory}

pub item_insert : (stays : Bool) (item : Item) (old between new : BoardState) (hand : Hand) → ItemTaken stays item old hand between
    → MayEnter between hand new → stays ≡ true → ItemInsert item old hand new
item_insert stays (Message node) old between new hand took enters is = (between, took, enters)
item_insert stays (Other text why) old between new hand took enters is = absurd took
item_insert stays (Unmade text) old between new hand took enters is = absurd took

-- an item after which nothing stays in the hand
pub item_gone : (item : Item) (old new : BoardState) (hand : Hand) → ItemTaken false item old hand new → ItemInsert item old hand new
item_gone (Message node) old new hand took = (new, took, inl refl)
item_gone (Other text why) old new hand took = absurd took
item_gone (Unmade text) old new hand took = absurd took

-- whatever holds it, the item was put
pub held_insert : (pause : Pause) (item : Item) (old : BoardState) (hand : Hand) (new : BoardState) → ItemInsert item old hand new
    → OneInsert (Err (pause, None)) item old hand new
held_insert (Held hold) item old hand new inserted = (refl, inserted)
held_insert TotalsFull item old hand new inserted = tt
held_insert Hands item old hand new inserted = tt
held_insert NoMemory item old hand new inserted = tt

-- where the connection ends nothing has to be shown
pub last_insert : (pause : Pause) (back item : Item) (old : BoardState) (hand : Hand) (new : BoardState) → IsLast pause
    → OneInsert (Err (pause, Some back)) item old hand new
last_insert (Held hold) back item old hand new last = absurd last
last_insert TotalsFull back item old hand new last = tt
last_insert Hands back item old hand new last = tt
last_insert NoMemory back item old hand new last = tt

-- nothing was put yet
pub first_insert : (batch : List Item) (old : BoardState) (hand : Hand) (new : BoardState) → MayEnter old hand new → BatchInsert batch batch old hand new
first_insert batch old hand new enters = record { before = new; items = []; first = enters; parts = refl; inserted = ItemsInsert.none }

-- the next was put
pub next_insert : (batch now later : List Item) (item : Item) (old between new : BoardState) (hand : Hand) → now ≡ item ∷ later
    → BatchInsert batch now old hand between → ItemInsert item between hand new → BatchInsert batch later old hand new
next_insert batch now later item old between new hand is inserted one = record {
  before = inserted.before;
  items = inserted.items ++ item ∷ [];
  first = inserted.first;
  parts = inserted.parts ∙ ap (λ xs. inserted.items ++ xs) is ∙ sym (append_assoc inserted.items (item ∷ []) later);
  inserted = ItemsInsert.more item inserted.inserted one;
}

pub some_insert : (pause : Pause) (batch later : List Item) (old : BoardState) (hand : Hand) (new : BoardState) → BatchInsert batch later old hand new
    → SomeInsert (Err pause) batch later old hand new
some_insert (Held hold) batch later old hand new inserted = inserted
some_insert TotalsFull batch later old hand new inserted = tt
some_insert Hands batch later old hand new inserted = tt
some_insert NoMemory batch later old hand new inserted = tt

-- the last that was put, whatever was answered
pub insert_last : (pause : Pause) (back : Option Item) (batch now later later' : List Item) (item : Item) (old between new : BoardState) (hand : Hand)
    → now ≡ item ∷ later → later' ≡ option_to_list back ++ later → BatchInsert batch now old hand between → OneInsert (Err (pause, back)) item between hand new
    → SomeInsert (Err pause) batch later' old hand new
insert_last (Held hold) back batch now later later' item old between new hand is back_is inserted one =
    next_insert batch now later' item old between new hand
    (is ∙ ap (λ xs. item ∷ xs) (sym (back_is ∙ ap (λ b. option_to_list b ++ later) one.0))) inserted one.1
insert_last TotalsFull back batch now later later' item old between new hand is back_is inserted one = tt
insert_last Hands back batch now later later' item old between new hand is back_is inserted one = tt
insert_last NoMemory back batch now later later' item old between new hand is back_is inserted one = tt

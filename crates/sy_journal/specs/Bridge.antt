-- A segment as the steps of a life see it: its entries with their numbers, and the finishes of its places.
use Rattle.std.specs.Prelude.{◌≡◌, ◌⊎◌, ◌<◌, ◌≤◌, ℕ, suc, ◌+◌, List, [], ◌∷◌, ◌++◌, length, drop}
use Rattle.sy_journal.specs.Storage.{written_at}
use Rattle.sy_journal.specs.Frames.{blank}
use Rattle.sy_journal.specs.Finishes.{Fades}
use Rattle.sy_journal.specs.Life.{Entry, Slot, fresh, finish_slots, with_finished, FadesTo}

-- numbers from this one on
abbrev pub numbered : ℕ → List (List ℕ) → List Entry
numbered base [] = []
numbered base (e ∷ es) = (base, e) ∷ numbered (suc base) es

-- each entry with the finish of its place
abbrev pub slots : ℕ → List (List ℕ) → List ℕ → List Slot
slots base [] finishes = []
slots base (e ∷ es) [] = ((base, e), 0) ∷ slots (suc base) es []
slots base (e ∷ es) (m ∷ finishes) = ((base, e), m) ∷ slots (suc base) es finishes

-- what an append does to the entries of a file is what it does to the slots, where no place behind them is finished
abbrev pub AppendsAsInLife : Type 0
AppendsAsInLife = (base : ℕ) (es batch : List (List ℕ)) (finishes : List ℕ) (left : ℕ) → drop (length es) finishes ≡ blank left
    → slots base (es ++ batch) finishes ≡ slots base es finishes ++ fresh (numbered (base + length es) batch)

-- a finish at a place is a finish of the number that stands there
abbrev pub FinishesAsInLife : Type 0
FinishesAsInLife = (base place : ℕ) (es : List (List ℕ)) (finishes : List ℕ) → place < length finishes
    → slots base es (written_at place (1 ∷ []) finishes) ≡ finish_slots (base + place) (slots base es finishes)

-- finishes that a crash loses are slots that fade
abbrev pub FadesAsInLife : Type 0
FadesAsInLife = (base : ℕ) (es : List (List ℕ)) (finishes found : List ℕ) → Fades finishes found → FadesTo (slots base es finishes) (slots base es found)

-- none of these slots has this number
abbrev pub HasNone : ℕ → List Slot → Type 0
HasNone n [] = Unit {0}
HasNone n (slot ∷ slots) = (slot.0.0 ≡ n → ⊥) × HasNone n slots

-- the same of all segments
abbrev pub HaveNone : ℕ → List (List Slot) → Type 0
HaveNone n [] = Unit {0}
HaveNone n (segment ∷ segments) = HasNone n segment × HaveNone n segments

-- a segment has the numbers from its first one on, and no others
abbrev pub HasItsOwn : Type 0
HasItsOwn = (n base : ℕ) (es : List (List ℕ)) (finishes : List ℕ) → (n < base) ⊎ (base + length es ≤ n) → HasNone n (slots base es finishes)

-- a finish in one segment is that Finish of the whole journal, where no other segment has the number
abbrev pub FinishesInOne : Type 0
FinishesInOne = (front back : List (List Slot)) (base place : ℕ) (es : List (List ℕ)) (finishes : List ℕ) → place < length finishes
    → HaveNone (base + place) front → HaveNone (base + place) back
    → front ++ slots base es (written_at place (1 ∷ []) finishes) ∷ back ≡ with_finished (base + place) (front ++ slots base es finishes ∷ back)

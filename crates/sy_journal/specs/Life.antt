-- The whole life of a journal: segments in their order, each a list of entries with their finishes.
use Rattle.std.specs.Prelude.{◌≡◌, ◌⊎◌, ℕ, zero, suc, List, [], ◌∷◌, ◌++◌, if◌then◌else◌, ◌==◌}

-- a number, and the bytes of a message with its input
abbrev pub Entry : Type 0
Entry = ℕ × List ℕ

-- an entry with its finish, 0 while it has work left
abbrev pub Slot : Type 0
Slot = Entry × ℕ

-- what happens to a journal
pub data Event : Type 0 where
  -- a segment more
  Begin : Event
  -- a batch was appended, and that was answered
  Append : List Entry → Event
  -- a batch was to be appended, and no answer came
  Attempt : List Entry → Event
  -- all work of the entry of this number is done
  Finish : ℕ → Event
  -- the segment at this place is removed
  Retire : ℕ → Event
  -- a crash, and a recovery
  Crash : Event

-- the entry in front of the others, unless it is finished
abbrev pub unless_finished : Entry → ℕ → List Entry → List Entry
unless_finished entry zero entries = entry ∷ entries
unless_finished entry (suc m) entries = entries

-- the entries of a segment that have work left
abbrev pub unfinished : List Slot → List Entry
unfinished [] = []
unfinished (slot ∷ slots) = unless_finished slot.0 slot.1 (unfinished slots)

-- what a recovery gives: the entries that have work left, of all segments in their order
abbrev pub held : List (List Slot) → List Entry
held [] = []
held (segment ∷ segments) = unfinished segment ++ held segments

-- entries that have work left, as slots
abbrev pub fresh : List Entry → List Slot
fresh [] = []
fresh (entry ∷ batch) = (entry, 0) ∷ fresh batch

-- the batch behind all others
abbrev pub with_batch : List Entry → List (List Slot) → List (List Slot)
with_batch batch [] = fresh batch ∷ []
with_batch batch (segment ∷ []) = (segment ++ fresh batch) ∷ []
with_batch batch (segment ∷ other ∷ segments) = segment ∷ with_batch batch (other ∷ segments)

-- the slots after a finish of the entry of this number
abbrev pub finish_slots : ℕ → List Slot → List Slot
finish_slots n [] = []
finish_slots n (slot ∷ slots) = (if slot.0.0 == n then (slot.0, 1) else slot) ∷ finish_slots n slots

-- the same in all segments
abbrev pub with_finished : ℕ → List (List Slot) → List (List Slot)
with_finished n [] = []
with_finished n (segment ∷ segments) = finish_slots n segment ∷ with_finished n segments

-- the segments without the one at this place
abbrev pub removed : ℕ → List (List Slot) → List (List Slot)
removed place [] = []
removed zero (segment ∷ segments) = segments
removed (suc place) (segment ∷ segments) = segment ∷ removed place segments

-- the segment at this place has no work left
abbrev pub IsFinished : ℕ → List (List Slot) → Type 0
IsFinished place [] = Unit {0}
IsFinished zero (segment ∷ segments) = unfinished segment ≡ []
IsFinished (suc place) (segment ∷ segments) = IsFinished place segments

-- the same entries, some finishes maybe lost, and none made
abbrev pub FadesTo : List Slot → List Slot → Type 0
FadesTo [] found = found ≡ []
FadesTo (s ∷ slots) [] = ⊥
FadesTo (s ∷ slots) (c ∷ found) = (c.0 ≡ s.0) × (s.1 ≡ 0 → c.1 ≡ 0) × FadesTo slots found

-- the same of all segments
abbrev pub AllFadeTo : List (List Slot) → List (List Slot) → Type 0
AllFadeTo [] found = found ≡ []
AllFadeTo (s ∷ segments) [] = ⊥
AllFadeTo (s ∷ segments) (c ∷ found) = FadesTo s c × AllFadeTo segments found

-- these events lead from these segments to those, whatever a crash chose
abbrev pub Run : List Event → List (List Slot) → List (List Slot) → Type 0
Run [] old new = new ≡ old
Run (Begin ∷ events) old new = Run events (old ++ [] ∷ []) new
Run (Append batch ∷ events) old new = Run events (with_batch batch old) new
Run (Attempt batch ∷ events) old new = Run events old new ⊎ Run events (with_batch batch old) new
Run (Finish n ∷ events) old new = Run events (with_finished n old) new
Run (Retire place ∷ events) old new = IsFinished place old × Run events (removed place old) new
Run (Crash ∷ events) old new = (mid : List (List Slot)) × AllFadeTo old mid × Run events mid new

-- the entries but for those of this number
abbrev pub without : ℕ → List Entry → List Entry
without n [] = []
without n (entry ∷ entries) = if entry.0 == n then without n entries else entry ∷ without n entries

-- the entries whose append was answered and that aren't finished
abbrev pub owed_after : List Entry → List Event → List Entry
owed_after owed [] = owed
owed_after owed (Begin ∷ events) = owed_after owed events
owed_after owed (Append batch ∷ events) = owed_after (owed ++ batch) events
owed_after owed (Attempt batch ∷ events) = owed_after owed events
owed_after owed (Finish n ∷ events) = owed_after (without n owed) events
owed_after owed (Retire place ∷ events) = owed_after owed events
owed_after owed (Crash ∷ events) = owed_after owed events

-- the entries that were ever to be appended
abbrev pub given_after : List Entry → List Event → List Entry
given_after given [] = given
given_after given (Begin ∷ events) = given_after given events
given_after given (Append batch ∷ events) = given_after (given ++ batch) events
given_after given (Attempt batch ∷ events) = given_after (given ++ batch) events
given_after given (Finish n ∷ events) = given_after given events
given_after given (Retire place ∷ events) = given_after given events
given_after given (Crash ∷ events) = given_after given events

-- the first list is the second one with some left out: the same order, and none more often
abbrev pub IsAmong : List Entry → List Entry → Type 0
IsAmong [] ys = Unit {0}
IsAmong (x ∷ xs) [] = ⊥
IsAmong (x ∷ xs) (y ∷ ys) = ((x ≡ y) × IsAmong xs ys) ⊎ IsAmong (x ∷ xs) ys

-- from an empty journal on, what a recovery gives has each entry that is owed, in order, and none that wasn't appended
abbrev pub LosesNothing : Type 0
LosesNothing = (events : List Event) (segments : List (List Slot)) → Run events [] segments
    → IsAmong (owed_after [] events) (held segments) × IsAmong (held segments) (given_after [] events)

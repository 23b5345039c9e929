-- All that the segments of a journal have.
use Rattle.std.specs.Prelude.{List, [], ◌∷◌, ◌++◌}
use Rattle.sy_journal.specs.Life.{Entry, Slot}

-- the entries of a segment
abbrev pub entries : List Slot → List Entry
entries [] = []
entries (slot ∷ slots) = slot.0 ∷ entries slots

-- all entries that are in the files
abbrev pub stored : List (List Slot) → List Entry
stored [] = []
stored (segment ∷ segments) = entries segment ++ stored segments

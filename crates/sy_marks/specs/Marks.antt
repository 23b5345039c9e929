-- What the marks of a queue say, and what becomes of the entries that a worker takes. The parameters are those of the
-- rsyslog manual (General Queue Parameters; of imtcp: flowControl); that they go by each message, by how many entries
-- wait, is this profile's own. The entries in workers' batches don't wait any more.
use Rattle.std.specs.Prelude.{◌≡◌, ℕ, ◌<◌, ◌≤◌, ◌==◌, Bool, true, false, not, ◌&&◌, nat_le, if◌then◌else◌, List, [], ◌∷◌, length}
use Rattle.sy_chain.specs.Entries.{Entry}
use Rattle.sy_marks.specs.declared.marks.Flow.{Flow}
use Rattle.sy_marks.specs.declared.marks.Flow.TheVariants as flow
use Rattle.sy_marks.specs.declared.marks.Hold.{Hold}
use Rattle.sy_marks.specs.declared.marks.Hold.TheVariants as hold
use Rattle.sy_marks.specs.declared.marks.Marks.{Marks}

-- a queue: its size and marks, and the entries that wait, from the front
pub record QueueState : Type 0 where
  pub marks : Marks
  pub entries : List Entry

-- ---- Marks, where so many entries wait

-- a mark of 0 is off, and any other is reached where as many wait
abbrev pub is_reached : ℕ → ℕ → Bool
is_reached mark waiting = nat_le 1 mark && nat_le mark waiting

-- queue.discardMark, queue.discardSeverity: a message is discarded at the mark where its severity is that one or a less
-- urgent one, which has a greater number
abbrev pub discards : Marks → ℕ → ℕ → Bool
discards marks severity waiting = is_reached marks.discard_mark waiting && nat_le marks.discard_severity severity

-- queue.fullDelayMark: at the mark messages of an input with flowControl "full" are held
abbrev pub is_delayed : Flow → Marks → ℕ → Bool
is_delayed flow.Full marks waiting = is_reached marks.full_delay_mark waiting
is_delayed flow.Light marks waiting = false
is_delayed flow.NoWait marks waiting = false

-- queue.lightDelayMark: at the mark messages of an input with flowControl "on" are held for a while
abbrev pub is_slowed : Flow → Marks → ℕ → Bool
is_slowed flow.Full marks waiting = false
is_slowed flow.Light marks waiting = is_reached marks.light_delay_mark waiting
is_slowed flow.NoWait marks waiting = false

-- what holds a message of an input: the full-delay mark before the size, and that before the light-delay mark
abbrev pub HoldIs : Hold → Flow → Marks → ℕ → Type 0
HoldIs hold.FullDelay f marks waiting = is_delayed f marks waiting ≡ true
HoldIs hold.Full f marks waiting = (is_delayed f marks waiting ≡ false) × (marks.size ≤ waiting)
HoldIs hold.LightDelay f marks waiting =
    (is_delayed f marks waiting ≡ false) × (waiting < marks.size) × (is_slowed f marks waiting ≡ true)
HoldIs hold.Clear f marks waiting =
    (is_delayed f marks waiting ≡ false) × (waiting < marks.size) × (is_slowed f marks waiting ≡ false)

-- ---- What becomes of an entry that is taken, where so many remain without it

-- it is discarded at that length
abbrev pub is_lost : Marks → Entry → ℕ → Bool
is_lost marks e remaining = discards marks e.message.class.severity remaining

-- it isn't, and nothing is due for it
abbrev pub is_finished : Marks → Entry → ℕ → Bool
is_finished marks e remaining = not (is_lost marks e remaining) && e.due == 0

-- it isn't, and something is due
abbrev pub is_kept : Marks → Entry → ℕ → Bool
is_kept marks e remaining = not (is_lost marks e remaining) && not (e.due == 0)

-- ---- The first n entries, or all where there are fewer, taken one after the other

-- those that pass a test; where an entry was taken, those that stood behind it remain
abbrev pub front_where : (Entry → ℕ → Bool) → ℕ → List Entry → List Entry
front_where test ℕ.zero entries = []
front_where test (ℕ.suc n) [] = []
front_where test (ℕ.suc n) (e ∷ behind) =
    if test e (length behind) then e ∷ front_where test n behind else front_where test n behind

abbrev pub lost_of : Marks → ℕ → List Entry → List Entry
lost_of marks n entries = front_where (is_lost marks) n entries

abbrev pub finished_of : Marks → ℕ → List Entry → List Entry
finished_of marks n entries = front_where (is_finished marks) n entries

abbrev pub kept_of : Marks → ℕ → List Entry → List Entry
kept_of marks n entries = front_where (is_kept marks) n entries

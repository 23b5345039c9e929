-- A worker's job with what an event needs of it.
use Rattle.std.specs.Prelude.{◌≡◌, ℕ, Bool, true, if◌then◌else◌, List, [], ◌∷◌, ◌++◌}
use Rattle.sy_wire.specs.Messages.{Said}
use Rattle.sy_rules.specs.declared.lists.occurrence.Occurrence.TheVariants as occurrence
use Rattle.sy_chain.specs.Entries.{Entry}
use Rattle.sy_board.specs.relay.Boards.{BoardState, HasNoPost, HasNoRun}
use Rattle.sy_board.specs.relay.Steps.{Cause, Event, Job, Out, if_so}
use Rattle.sy_site.specs.machine.States.{Loss}
use Rattle.sy_replay.specs.internal.Events.{Goes, IsIllegal}
use Rattle.sy_replay.specs.declared.event.Illegal.{Illegal}
use Rattle.sy_replay.specs.declared.event.Illegal.TheVariants as illegal

-- what becomes of a job that runs an action
pub data Answer : Type 0 where
  Done Fail GiveUp : Answer

-- the job runs this action, on an entry that follows this list, of this message and with this tag
pub record IsRunJob (board : BoardState) (worker action list : ℕ) (message : Said) (tag : ℕ) : Type 0 where
  pub job : Job board.plan board.state worker (occurrence.Run action)
  pub its_list : job.entry.list ≡ list
  pub its_message : job.entry.message ≡ message
  pub its_tag : job.entry.tag ≡ tag

-- the job posts to this list an entry of this message, of this input and with this tag; its own entry follows another one
pub record IsPostJob (board : BoardState) (worker list followed input : ℕ) (message : Said) (tag : ℕ) : Type 0 where
  pub job : Job board.plan board.state worker (occurrence.Post list)
  pub its_list : job.entry.list ≡ followed
  pub its_input : job.entry.input ≡ input
  pub its_message : job.entry.message ≡ message
  pub its_tag : job.entry.tag ≡ tag

-- why no job of the kind is given: there is none, or memory ran out
abbrev pub NoRunJob : Illegal → BoardState → ℕ → Type 0
NoRunJob illegal.NotAStep board worker = HasNoRun board worker
NoRunJob illegal.NoMemory board worker = Unit {0}
NoRunJob illegal.TotalsFull board worker = ⊥

abbrev pub NoPostJob : Illegal → BoardState → ℕ → Type 0
NoPostJob illegal.NotAStep board worker = HasNoPost board worker
NoPostJob illegal.NoMemory board worker = Unit {0}
NoPostJob illegal.TotalsFull board worker = ⊥

-- ---- what a device's answer does to a relay: `took` is whether the device took the message, and its tag comes to the
-- end of what it took

-- what the device took after it
abbrev pub with_tag : Bool → List ℕ → ℕ → List ℕ
with_tag took tags tag = if took then tags ++ tag ∷ [] else tags

-- whether the device took the message
abbrev pub is_taken : Answer → Bool → Bool
is_taken Answer.Done took = true
is_taken Answer.Fail took = took
is_taken Answer.GiveUp took = took

-- what is lost
abbrev pub losses_by : Answer → (relay action list tag : ℕ) → List Loss
losses_by Answer.Done relay action list tag = []
losses_by Answer.Fail relay action list tag = []
losses_by Answer.GiveUp relay action list tag = record { copy = tag; relay = relay; list = list; cause = Cause.GiveUp action } ∷ []

-- what each of the three steps lets out
abbrev pub outs_of : Answer → ℕ → Bool → Entry → List Out
outs_of Answer.Done action took e = Out.Passed action e ∷ []
outs_of Answer.Fail action took e = if_so took (Out.Passed action e)
outs_of Answer.GiveUp action took e = Out.Lost (Cause.GiveUp action) e ∷ if_so took (Out.Passed action e)

abbrev pub event_of : Answer → ℕ → Bool → Event
event_of Answer.Done worker took = Event.Done worker
event_of Answer.Fail worker took = Event.Fail worker took
event_of Answer.GiveUp worker took = Event.GiveUp worker took

-- The step of the worker's job of this action, list and tag is made; whether the device took the message, the board
-- doesn't say.
abbrev pub Answers : Answer → BoardState → (worker action list tag : ℕ) → BoardState → Type 0
Answers answer old worker action list tag new =
    (e : Entry) × (e.tag ≡ tag) × (e.list ≡ list) × ((took : Bool) → Goes old (event_of answer worker took) new (outs_of answer action took e))

abbrev pub IsNoAnswer : Illegal → Answer → BoardState → ℕ → Type 0
IsNoAnswer why answer old worker = (took : Bool) → IsIllegal why old (event_of answer worker took)

-- The same, and a copy comes to the end of what the device took where it took the message.
abbrev pub Comes : Answer → Bool → BoardState → List ℕ → (worker action list tag : ℕ) → BoardState → List ℕ → Type 0
Comes answer took old tags worker action list tag new after =
    (e : Entry) × (e.tag ≡ tag) × (e.list ≡ list) × Goes old (event_of answer worker took) new (outs_of answer action took e)
    × (after ≡ with_tag (is_taken answer took) tags tag)

-- A receiver's session, as steps.
use Rattle.std.specs.Prelude.{◌≡◌, ◌≢◌, ℕ, ◌<◌, Bool, true, false, List, [], ◌∷◌, ◌++◌, codes}
use Rattle.sy_relp.specs.Frames.{Frame}
use Rattle.sy_relp.specs.Answers.{answer_to, rsp}
use Rattle.sy_relp.specs.declared.session.Kind.{Kind}
use Rattle.sy_relp.specs.declared.session.Kind.TheVariants.{Open, Message, Close, Other}
use Rattle.sy_relp.specs.declared.session.Stage.{Stage}
use Rattle.sy_relp.specs.declared.session.Stage.TheVariants.{Fresh, Opened, Closed, Ended}
use Rattle.sy_relp.specs.declared.session.Outcome.{Outcome}
use Rattle.sy_relp.specs.declared.session.Outcome.TheVariants.{Take, Wait, End}
use Rattle.sy_relp.specs.declared.session.Waiting.{Waiting}

-- a session: how far it is, the number of the last command that it took up, and what waits for its answer, in the order in which it came
pub record Session : Type 0 where
  pub stage : Stage
  pub last : ℕ
  pub waiting : List Waiting

abbrev pub fresh : Session
fresh = record { stage = Fresh; last = 0; waiting = [] }

-- what a command is
abbrev pub IsKind : List ℕ → Kind → Type 0
IsKind command Open = command ≡ codes "open"
IsKind command Message = command ≡ codes "syslog"
IsKind command Close = command ≡ codes "close"
IsKind command Other = (command ≢ codes "open") × (command ≢ codes "syslog") × (command ≢ codes "close")

-- the first offer is the version
abbrev pub HasVersion : List ℕ → Type 0
HasVersion content = (rest : List ℕ) × (content ≡ codes "relp_version=" ++ rest)

-- where such a command leads: an open begins a session, a close ends its commands
abbrev pub Leads : Stage → Kind → List ℕ → Stage → Type 0
Leads Fresh Open content after = HasVersion content × (after ≡ Opened)
Leads Opened Message content after = after ≡ Opened
Leads Opened Close content after = after ≡ Closed
Leads Opened Other content after = after ≡ Opened
Leads Fresh Message content after = ⊥
Leads Fresh Close content after = ⊥
Leads Fresh Other content after = ⊥
Leads Opened Open content after = ⊥
Leads Closed kind content after = ⊥
Leads Ended kind content after = ⊥

-- all commands but messages are done as soon as they come
abbrev pub done_at_once : Kind → Bool
done_at_once Open = true
done_at_once Message = false
done_at_once Close = true
done_at_once Other = true

-- what is made of a command
abbrev pub outcome_of : Kind → Outcome
outcome_of Open = Wait
outcome_of Message = Take
outcome_of Close = Wait
outcome_of Other = Wait

-- a command is taken up: its number is above the last, it waits for its answer, and a message is to be taken
pub record TakesUp (old : Session) (f : Frame) (answer : Outcome) (new : Session) : Type 0 where
  pub kind : Kind
  pub is_kind : IsKind f.command kind
  pub rises : old.last < f.txnr
  pub leads : Leads old.stage kind f.content new.stage
  pub last : new.last ≡ f.txnr
  pub waiting : new.waiting ≡ old.waiting ++ (record { txnr = f.txnr; kind = kind; is_done = done_at_once kind }) ∷ []
  pub made : answer ≡ outcome_of kind

-- it breaks the protocol, and the session ends: nothing more is taken up
pub record Ends (old : Session) (f : Frame) (new : Session) : Type 0 where
  pub why : (kind : Kind) (after : Stage) → IsKind f.command kind → old.last < f.txnr → Leads old.stage kind f.content after → ⊥
  pub after : new ≡ record old { stage = Ended }

-- a frame came
abbrev pub Receives : Session → Frame → Outcome → Session → Type 0
Receives old f Take new = TakesUp old f Take new
Receives old f Wait new = TakesUp old f Wait new
Receives old f End new = Ends old f new

-- the messages of a frame
abbrev pub taken : Outcome → Frame → List Frame
taken Take f = f ∷ []
taken Wait f = []
taken End f = []

-- the message of this number, which waits, is acknowledged
pub record Acknowledges (old : Session) (txnr : ℕ) (new : Session) : Type 0 where
  pub before : List Waiting
  pub after : List Waiting
  pub there : old.waiting ≡ before ++ (record { txnr = txnr; kind = Message; is_done = false }) ∷ after
  pub then : new ≡ record old { waiting = before ++ (record { txnr = txnr; kind = Message; is_done = true }) ∷ after }

-- no message of this number waits
abbrev pub IsNone : Session → ℕ → Type 0
IsNone old txnr = (before after : List Waiting) → old.waiting ≡ before ++ (record { txnr = txnr; kind = Message; is_done = false }) ∷ after → ⊥

-- the first that waits is done, and is answered
pub record Answers (old : Session) (g : Frame) (new : Session) : Type 0 where
  pub first : Waiting
  pub rest : List Waiting
  pub there : old.waiting ≡ first ∷ rest
  pub is_done : first.is_done ≡ true
  pub says : g ≡ rsp first.txnr (answer_to first.kind)
  pub then : new ≡ record old { waiting = rest }

-- the first that waits, if one does, isn't done
abbrev pub IsWaiting : Session → Type 0
IsWaiting old = (first : Waiting) (rest : List Waiting) → old.waiting ≡ first ∷ rest → first.is_done ≡ false

-- From its start: the frames that came, the messages that were taken, the numbers that were acknowledged, and the answers that were made, each in order.
pub data Runs : List Frame → List Frame → List ℕ → List Frame → Session → Type 0 where
  starts : Runs [] [] [] [] fresh
  receives :
      {came messages : List Frame} {numbers : List ℕ} {wrote : List Frame} {old new : Session} (f : Frame) (answer : Outcome)
      → Runs came messages numbers wrote old → Receives old f answer new → Runs (came ++ f ∷ []) (messages ++ taken answer f) numbers wrote new
  acknowledges :
      {came messages : List Frame} {numbers : List ℕ} {wrote : List Frame} {old new : Session} (txnr : ℕ)
      → Runs came messages numbers wrote old → Acknowledges old txnr new → Runs came messages (numbers ++ txnr ∷ []) wrote new
  answers :
      {came messages : List Frame} {numbers : List ℕ} {wrote : List Frame} {old new : Session} (g : Frame)
      → Runs came messages numbers wrote old → Answers old g new → Runs came messages numbers (wrote ++ g ∷ []) new

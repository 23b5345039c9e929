-- What a sender writes, hears and counts.
use Rattle.std.specs.Prelude.{◌≡◌, ℕ, ◌+◌, ◌<◌, ◌≤◌, ◌⊎◌, Bool, false, true, List, [], ◌∷◌, ◌++◌, Option, codes, length, take}
use Rattle.std.specs.List.{AllByRecursion}
use Rattle.std.specs.Io.KnownBytes.{Appends, Consumes}
use Rattle.sy_wire.specs.Frames.{Held}
use Rattle.sy_wire.specs.Messages.{Said}
use Rattle.sy_relp.specs.Frames.{Frame, IsFrame, stream}
use Rattle.sy_relp.specs.Answers.{IsOk, syslog}

-- the frames of the messages, their numbers from this one on
abbrev pub numbered : ℕ → List Said → List Frame
numbered txnr [] = []
numbered txnr (m ∷ messages) = syslog txnr m.raw ∷ numbered (txnr + 1) messages

-- the answer to the transaction of this number, which says that all is well
pub record IsAnswer (txnr : ℕ) (g : Frame) : Type 0 where
  pub number : g.txnr ≡ txnr
  pub command : g.command ≡ codes "rsp"
  pub is_ok : IsOk g.content

-- such answers, their numbers from this one on, with none left out
abbrev pub AreAnswers : ℕ → List Frame → Type 0
AreAnswers txnr [] = Unit {0}
AreAnswers txnr (g ∷ frames) = IsAnswer txnr g × AreAnswers (txnr + 1) frames

-- the frame that opens a session
abbrev pub open_frame : Frame
open_frame = record { txnr = 1; command = codes "open"; content = codes "relp_version=0\nrelp_software=syc\ncommands=syslog" }

-- a sender: what it reads from and writes to, what came and wasn't given yet, the number of its next command, how many messages
-- with the last numbers before it are out whole and weren't answered, and whether it wants to be renewed
pub record Link (R W : Type 0) : Type 0 where
  pub reader : R
  pub writer : W
  pub held : Held
  pub next : ℕ
  pub unanswered : ℕ
  pub is_broken : Bool

-- these frames were read, and no others
pub record Hears (ahead ahead' : Option (List ℕ)) (left left' : List ℕ) (heard : List Frame) : Type 0 where
  pub bytes : List ℕ
  pub read : Consumes ahead ahead' bytes
  pub each : AllByRecursion IsFrame heard
  pub whole : left ++ bytes ≡ stream heard ++ left'

module _ {R W : Type 0} (remaining : R → Option (List ℕ)) (contents : W → Option (List ℕ)) (old : Link R W) (messages : List Said) where
  -- The frames of all of these were written, whole and in order, and each was answered with 200 under its number; nothing else was written or heard.
  pub record Exchanges (new : Link R W) : Type 0 where
    pub each : AllByRecursion IsFrame (numbered old.next messages)
    pub wrote : Appends (contents old.writer) (contents new.writer) (stream (numbered old.next messages))
    pub heard : List Frame
    pub hears : Hears (remaining old.reader) (remaining new.reader) old.held.left new.held.left heard
    pub answers : AreAnswers old.next heard
    pub size : length heard ≡ length messages
    pub next : new.next ≡ old.next + length messages
    pub stays : new.is_broken ≡ old.is_broken
    pub no_more : new.unanswered ≡ old.unanswered
    pub unless : (messages ≡ []) ⊎ (old.is_broken ≡ false)

  -- The front of the frames of some of these was written. The frames of so many were written whole, and each of those was answered with 200 under
  -- its number. The receiver may have taken any of the others whose frames are out whole. The sender is broken then, or nothing else was written or heard.
  -- Where all frames are out, and an answer didn't come, the others are unanswered.
  pub record Breaks (count : ℕ) (new : Link R W) : Type 0 where
    pub sent : ℕ
    pub rest : List ℕ
    pub front : List ℕ
    pub each : AllByRecursion IsFrame (numbered old.next (take sent messages))
    pub of_sent : stream (numbered old.next (take sent messages)) ≡ front ++ rest
    pub wrote : Appends (contents old.writer) (contents new.writer) front
    pub more : List ℕ
    pub out : front ≡ stream (numbered old.next (take count messages)) ++ more
    pub heard : List Frame
    pub hears : Hears (remaining old.reader) (remaining new.reader) old.held.left new.held.left heard
    pub answers : AreAnswers old.next (take count heard)
    pub enough : count ≤ length heard
    pub within : count < length messages
    pub counted : count ≤ sent
    pub after : (new.is_broken ≡ true) ⊎ ((more ≡ []) × (new.next ≡ old.next + count) × (length heard ≡ count) × (new.is_broken ≡ old.is_broken))
    pub waits : (new.unanswered ≡ old.unanswered) ⊎ ((rest ≡ []) × (new.next ≡ old.next + sent) × (new.unanswered + count ≡ sent))
    pub unless : old.is_broken ≡ true → (count ≡ 0) × (front ≡ []) × (new.is_broken ≡ true)

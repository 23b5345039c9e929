-- How a sender ends a session.
use Rattle.std.specs.Prelude.{◌≡◌, ℕ, ◌-◌, ◌<◌, ◌≤◌, ◌⊎◌, false, true, List, [], ◌∷◌, ◌++◌, Option, codes, length}
use Rattle.std.specs.Io.KnownBytes.{Appends}
use Rattle.sy_relp.specs.Frames.{Frame, IsFrame, frame}
use Rattle.sy_relp.specs.Exchanges.{AreAnswers, Hears, Link}
use Rattle.sy_relp.specs.declared.fault.SendFault.{SendFault}
use Rattle.sy_relp.specs.declared.fault.SendFault.TheVariants.{Broken, NoMemory, TooLong, WriteFailed, Unanswered}

-- the frame that ends a session
abbrev pub close_frame : ℕ → Frame
close_frame txnr = record { txnr = txnr; command = codes "close"; content = [] }

-- the receiver has ended the session: it answers the close of this number, or closes of itself
abbrev pub IsEnd : ℕ → Frame → Type 0
IsEnd txnr g = ((g.command ≡ codes "rsp") × (g.txnr ≡ txnr)) ⊎ (g.command ≡ codes "serverclose")

-- no such frame comes first
abbrev pub NoEnd : ℕ → List Frame → Type 0
NoEnd txnr [] = Unit {0}
NoEnd txnr (g ∷ frames) = IsEnd txnr g → ⊥

module _ {R W : Type 0} (remaining : R → Option (List ℕ)) (contents : W → Option (List ℕ)) (old : Link R W) where
  -- The front of a close was written, and nothing else will be. Of the messages that were unanswered, so many of the first were answered with 200, and
  -- then these frames were heard.
  pub record Closing (count : ℕ) (new : Link R W) : Type 0 where
    pub is_frame : IsFrame (close_frame old.next)
    pub front : List ℕ
    pub rest : List ℕ
    pub of_close : frame (close_frame old.next) ≡ front ++ rest
    pub wrote : Appends (contents old.writer) (contents new.writer) front
    pub answered : List Frame
    pub behind : List Frame
    pub hears : Hears (remaining old.reader) (remaining new.reader) old.held.left new.held.left (answered ++ behind)
    pub answers : AreAnswers (old.next - old.unanswered) answered
    pub size : length answered ≡ count
    pub within : count ≤ old.unanswered
    pub unless : (old.is_broken ≡ false) ⊎ (0 < old.unanswered)
    pub over : (new.is_broken ≡ true) × (new.unanswered ≡ 0)

  -- The close went out whole, all were answered, and the receiver has ended the session.
  abbrev pub Closes : ℕ → Link R W → Type 0
  Closes count new =
      (c : Closing count new) × (c.rest ≡ []) × (count ≡ old.unanswered) × (end : Frame) × (c.behind ≡ end ∷ []) × IsEnd old.next end

  -- `close` answered this fault
  abbrev pub CloseFails : SendFault → ℕ → Link R W → Type 0
  CloseFails Broken count new = (old.is_broken ≡ true) × (old.unanswered ≡ 0) × (count ≡ 0) × (new ≡ old)
  CloseFails NoMemory count new = (count ≡ 0) × (new ≡ old)
  CloseFails TooLong count new = ⊥
  CloseFails WriteFailed count new = (c : Closing count new) × (count ≡ 0) × (c.behind ≡ [])
  CloseFails Unanswered count new = (c : Closing count new) × (c.rest ≡ []) × ((count < old.unanswered) ⊎ NoEnd old.next c.behind)

-- A sender and its receiver, over one connection.
use Rattle.std.specs.Prelude.{◌≡◌, ℕ, ◌+◌, ◌<◌, List, [], ◌∷◌, ◌++◌, Option, Some, length}
use Rattle.sy_wire.specs.Messages.{Said}
use Rattle.sy_relp.specs.Frames.{Frame, IsFrame, frame}
use Rattle.sy_relp.specs.Answers.{syslog}
use Rattle.sy_relp.specs.Lists.{Has}
use Rattle.sy_relp.specs.Links.{Delivers, Read, Wrote}
use Rattle.sy_relp.specs.Sessions.{Runs, Session}
use Rattle.sy_relp.specs.Exchanges.{Breaks, Exchanges, Link, open_frame}
use Rattle.sy_relp.specs.Closings.{Closing}

module _ {R W : Type 0} (remaining : R → Option (List ℕ)) (contents : W → Option (List ℕ)) where
  -- A session was opened: the open went out whole, under number 1, and one frame came back; then nothing else was written. These bytes were read
  -- till then, and these are all that will ever be read behind them.
  pub record Opened (first : Link R W) (came ahead : List ℕ) : Type 0 where
    pub answer : Frame
    pub is_answer : IsFrame answer
    pub told : contents first.writer ≡ Some (frame open_frame)
    pub heard : came ≡ frame answer ++ first.held.left
    pub left : remaining first.reader ≡ Some ahead
    pub next : first.next ≡ 2
    pub none_waits : first.unanswered ≡ 0

  -- so many of the messages are counted as taken: all of them, or those before a fault
  pub data Counts (first : Link R W) (messages : List Said) (count : ℕ) (last : Link R W) : Type 0 where
    all : count ≡ length messages → Exchanges remaining contents first messages last → Counts first messages count last
    some : Breaks remaining contents first messages count last → Counts first messages count last

  -- the same by an offer alone, or by that and a close behind it
  pub data CountsInAll (first : Link R W) (messages : List Said) (count : ℕ) (last : Link R W) : Type 0 where
    offered : Counts first messages count last → CountsInAll first messages count last
    closed :
        (mid : Link R W) (before more : ℕ) → Counts first messages before mid → Closing remaining contents mid more last → count ≡ before + more
        → CountsInAll first messages count last

  -- Each message that the sender counts as taken, its receiver took, and acknowledged: given a receiver whose reads and writes are a run of a session,
  -- where what each party read is the front of what the other wrote.
  abbrev pub CountedWasTaken : Type 0
  CountedWasTaken =
      (first last : Link R W) (came ahead told : List ℕ) (messages : List Said) (count : ℕ)
      → Opened first came ahead → CountsInAll first messages count last → contents last.writer ≡ Some told
      → (there back : List ℕ) (frames answers taken : List Frame) (numbers : List ℕ) (session : Session)
      → Read there frames → Wrote back answers → Runs frames taken numbers answers session → Delivers there told → Delivers (came ++ ahead) back
      → (before after : List Said) (m : Said) → messages ≡ before ++ m ∷ after → length before < count
      → Has taken (syslog (2 + length before) m.raw) × Has numbers (2 + length before)

  -- A sender whose streams told all: nothing written, and all that will ever be read.
  abbrev pub Opens : R → W → Link R W → Type 0
  Opens reader writer sender =
      (every : List ℕ) → remaining reader ≡ Some every → contents writer ≡ Some []
      → (came ahead : List ℕ) × Opened sender came ahead × (every ≡ came ++ ahead)

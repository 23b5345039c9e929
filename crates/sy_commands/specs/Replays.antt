-- What a replay of an events file prints, and how it ends (this profile's own).
use Rattle.std.specs.Prelude.{◌≡◌, ◌≤◌, ℕ, Bool, true, false, List, [], ◌∷◌, ◌++◌, ◌==◌, ◌⊎◌, Option, Some, None, codes, drop, flat_map, length, slice_get}
use Rattle.std.specs.Fmt.{decimal}
use Rattle.std.specs.Io.KnownBytes.{Appends, Keeps}
use Rattle.std.specs.List.{slice_split}
use Rattle.sy_wire.specs.Streams.{Rose, count_after}
use Rattle.sy_board.specs.relay.Steps.{Cause}
use Rattle.sy_site.specs.Names.{name_of}
use Rattle.sy_site.specs.Sites.{Site}
use Rattle.sy_site.specs.machine.States.{Copy, Loss, SiteState}
use Rattle.sy_site.specs.machine.Steps.{SiteEvent}
use Rattle.sy_replay.specs.Lines.{IsNoEvent, StandsFor, is_skipped}
use Rattle.sy_replay.specs.Flags.{is_flagged_of}
use Rattle.sy_replay.specs.Held.{opened_parts}
use Rattle.sy_replay.specs.States.{Applies, Contents, IsIllegalAt, holding, state_in}
use Rattle.sy_report.specs.HaltTexts.{in_line}
use Rattle.sy_passing.specs.Pass.{READS}
use Rattle.sy_commands.specs.Reports.{HasReportedBy}
use Rattle.sy_commands.specs.Words.{is_any}
use Rattle.sy_report.specs.declared.command_line.options.Options.{Options}
use Rattle.sy_report.specs.Printed.{printed}
use Rattle.sy_report.specs.Reports.{SinkState, Streams, HasReported, line_feed, said}
use Rattle.sy_commands.specs.SiteFiles.{HasNoAnswer}
use Rattle.sy_places.specs.SiteFiles.{IsSiteOf}
use Rattle.sy_report.specs.Texts.{class_text}
use Rattle.sy_replay.specs.declared.event.Illegal.TheVariants as illegal

-- ---- the lines that are printed

-- the first word of the event that lost it
abbrev pub cause_word : Cause → List ℕ
cause_word Cause.Take = codes "take"
cause_word Cause.Expire = codes "expire"
cause_word Cause.Grab = codes "grab"
cause_word (Cause.GiveUp action) = codes "giveup"
cause_word (Cause.Post list) = codes "post"
cause_word (Cause.PostLost list) = codes "postlost"

abbrev pub number_of : Option Copy → ℕ
number_of None = 0
number_of (Some copy) = copy.number

abbrev pub copy_class : Option Copy → List ℕ
copy_class None = []
copy_class (Some copy) = class_text copy.message.class

-- loss line L message N
abbrev pub loss_number : SiteState → ℕ → Loss → List ℕ
loss_number state line loss =
    codes "loss line " ++ decimal line ++ codes " message " ++ decimal (number_of (slice_get state.copies loss.copy))

-- behind the loss of a flagged copy: spare
abbrev pub spare_word : Bool → List ℕ
spare_word true = codes " spare"
spare_word false = []

--  at RELAY CLASS CAUSE
abbrev pub loss_place : Site → SiteState → Loss → List ℕ
loss_place site state loss =
    codes " at " ++ printed (name_of site loss.relay) ++ codes " " ++ copy_class (slice_get state.copies loss.copy) ++ codes " " ++ cause_word loss.cause

-- a loss, of the event in this line
abbrev pub loss_line : Site → SiteState → ℕ → Loss → List ℕ
loss_line site state line loss =
    loss_number state line loss ++ loss_place site state loss ++ spare_word (is_flagged_of site loss (slice_get state.copies loss.copy)) ++ line_feed ∷ []

-- the losses that a step made, which was that of this line
abbrev pub loss_lines : Site → ℕ → SiteState → SiteState → List ℕ
loss_lines site line old new = flat_map (loss_line site new line) (drop (length old.losses) new.losses)

-- events E messages M losses K
abbrev pub end_line : ℕ → SiteState → List ℕ
end_line events state =
    codes "events " ++ decimal events ++ codes " messages " ++ decimal (length state.arrivals) ++ codes " losses " ++ decimal (length state.losses) ++ line_feed ∷ []

-- ---- how it goes

-- the lines of an events file; what is behind its last line feed is one too, and skipped where it is empty
abbrev pub lines_of : List ℕ → List (List ℕ)
lines_of text = slice_split (λ b. b == line_feed) text

-- lines and events are counted up to the greatest number of 64 bits
abbrev pub next : ℕ → ℕ
next n = count_after n 1

-- How a replay ends: with all lines and the last one printed; at a line that stands for no event; at one whose event is no step; at one whose event is
-- a step that a full total doesn't let through; or somewhere, since memory ran out, a read failed, or a write or flush failed.
pub data Ending : Type 0 where
  Done : Ending
  Faulty Illegal Full : (line : ℕ) → Ending
  NoMemory ReadFailed WriteFailed : Ending

-- A replay that is at this line, counted from 1, after so many events, where the site holds this: what it prints for the lines from there on, and how
-- it ends. Where a write fails, a prefix of a text may have been written: of the lines of a step's losses, or of the last line.
pub data Replays (site : Site) : (line events : ℕ) → Contents → List (List ℕ) → List ℕ → Ending → Type 0 where
  done : {line events : ℕ} {held : Contents} → Replays site line events held [] (end_line events (state_in held)) Ending.Done
  skips : {line events : ℕ} {held : Contents} {text : List ℕ} {later : List (List ℕ)} {out : List ℕ} {ending : Ending}
      → is_skipped text ≡ true → Replays site (next line) events held later out ending
      → Replays site line events held (text ∷ later) out ending
  steps : {line events : ℕ} {old new : Contents} {text : List ℕ} {later : List (List ℕ)} {out : List ℕ} {ending : Ending} (event : SiteEvent)
      → StandsFor site text event → Applies site old event new → Replays site (next line) (next events) new later out ending
      → Replays site line events old (text ∷ later) (loss_lines site line (state_in old) (state_in new) ++ out) ending
  faulty : {line events : ℕ} {held : Contents} {text : List ℕ} {later : List (List ℕ)} → is_skipped text ≡ false → IsNoEvent site text
      → Replays site line events held (text ∷ later) [] (Ending.Faulty line)
  no_step : {line events : ℕ} {held : Contents} {text : List ℕ} {later : List (List ℕ)} (event : SiteEvent)
      → StandsFor site text event → IsIllegalAt illegal.NotAStep site held event
      → Replays site line events held (text ∷ later) [] (Ending.Illegal line)
  full : {line events : ℕ} {held : Contents} {text : List ℕ} {later : List (List ℕ)} (event : SiteEvent)
      → StandsFor site text event → IsIllegalAt illegal.TotalsFull site held event
      → Replays site line events held (text ∷ later) [] (Ending.Full line)
  no_memory : {line events : ℕ} {held : Contents} {lines : List (List ℕ)} → Replays site line events held lines [] Ending.NoMemory
  unread : {line events : ℕ} {held : Contents} {lines : List (List ℕ)} → Replays site line events held lines [] Ending.ReadFailed
  unwritten : {line events : ℕ} {held : Contents} {lines : List (List ℕ)} → Replays site line events held lines [] Ending.WriteFailed
  torn : {line events : ℕ} {old : Contents} {text : List ℕ} {later : List (List ℕ)} (event : SiteEvent) (new : Contents) (part tail : List ℕ)
      → StandsFor site text event → Applies site old event new → loss_lines site line (state_in old) (state_in new) ≡ part ++ tail
      → Replays site line events old (text ∷ later) part Ending.WriteFailed
  end_torn : {line events : ℕ} {held : Contents} (part tail : List ℕ) → end_line events (state_in held) ≡ part ++ tail
      → Replays site line events held [] part Ending.WriteFailed

-- ---- why reading fails

-- A source of this kind may fail: between two of its states its count of failed reads rises.
abbrev pub MayRise : {S : Type 0} → (S → ℕ) → Type 0
MayRise {S} faults = (before after : S) × Rose (faults before) (faults after)

-- Reading these events piece by piece may fail: a read may, or there are as many bytes as reads are made at most.
abbrev pub PiecesMayFail : {S : Type 0} → (S → ℕ) → List ℕ → Type 0
PiecesMayFail faults events = MayRise faults ⊎ (READS ≤ length events)

-- ---- the command

-- the exit status
abbrev pub status_of : Ending → ℕ
status_of Ending.Done = 0
status_of (Ending.Illegal line) = 1
status_of (Ending.Full line) = 1
status_of (Ending.Faulty line) = 2
status_of Ending.NoMemory = 3
status_of Ending.ReadFailed = 4
status_of Ending.WriteFailed = 4

-- what is printed on standard error then: nothing where all lines were replayed
abbrev pub IsReportedEnding : (List ℕ → Type 0) → Ending → Type 0
IsReportedEnding IsReported Ending.Done = Unit {0}
IsReportedEnding IsReported (Ending.Faulty line) = IsReported (in_line (codes "51 Line") line)
IsReportedEnding IsReported (Ending.Illegal line) = IsReported (in_line (codes "illegal event") line)
IsReportedEnding IsReported (Ending.Full line) = IsReported (in_line (codes "86 TotalsFull") line)
IsReportedEnding IsReported Ending.NoMemory = IsReported (said (codes "no memory"))
IsReportedEnding IsReported Ending.ReadFailed = IsReported (said (codes "read failed"))
IsReportedEnding IsReported Ending.WriteFailed = IsReported (said (codes "write failed"))

-- How the output is left: a write or flush failed; or none did, and all that was written was handed on.
abbrev pub IsLeft : Ending → SinkState → SinkState → Type 0
IsLeft Ending.WriteFailed old new = Rose old.faults new.faults
IsLeft ending old new = (new.faults ≡ old.faults) × (new.is_flushed ≡ true)

-- before the first event
abbrev pub opened : Site → Contents
opened site = holding (opened_parts site) [] [] []

-- The events were replayed, up to their end or to where that stopped, and nothing but what that prints was written.
pub record IsReplayed (site : Site) (events : List ℕ) (status : ℕ) (old new : SinkState) (IsReported : List ℕ → Type 0) : Type 0 where
  pub out : List ℕ
  pub ending : Ending
  pub replays : Replays site 1 0 (opened site) (lines_of events) out ending
  pub wrote : Appends old.contents new.contents out
  pub status_is : status ≡ status_of ending
  pub left : IsLeft ending old new
  pub reported : IsReportedEnding IsReported ending

-- There is no answer of a site, and all that was printed before is handed on; or memory ran out before that, which is told; or handing it on failed, which
-- is told. Nothing is printed.
abbrev pub IsNoReplay : (List ℕ → Option (List ℕ)) → (site : List ℕ) → ℕ → SinkState → SinkState → (List ℕ → Type 0) → Type 0
IsNoReplay bytes_of site_text status old new IsReported = Keeps old.contents new.contents × (
    (HasNoAnswer bytes_of site_text status IsReported × (new.faults ≡ old.faults) × (new.is_flushed ≡ true))
    ⊎ ((status ≡ 3) × (new ≡ old) × IsReported (said (codes "no memory")))
    ⊎ ((status ≡ 4) × Rose old.faults new.faults × IsReported (said (codes "write failed"))))

-- What a replay of these files answers: there is no site; or the events were replayed.
abbrev pub EndsReplay : (List ℕ → Option (List ℕ)) → (site events : List ℕ) → ℕ → SinkState → SinkState → (List ℕ → Type 0) → Type 0
EndsReplay bytes_of site_text events status old new IsReported =
    IsNoReplay bytes_of site_text status old new IsReported
    ⊎ ((site : Site) × IsSiteOf bytes_of site_text site × IsReplayed site events status old new IsReported)

-- the same of the two streams
abbrev pub ReplayIs : (List ℕ → Option (List ℕ)) → (site events : List ℕ) → ℕ → Streams → Streams → Type 0
ReplayIs bytes_of site_text events status old new = EndsReplay bytes_of site_text events status old.output new.output (HasReported old new)

-- The same with any options, or none, where that line stands alone.
abbrev pub ReplayReport : Options → (List ℕ → Option (List ℕ)) → (site events : List ℕ) → ℕ → Streams → Streams → Type 0
ReplayReport options bytes_of site_text events status old new =
    EndsReplay bytes_of site_text events status old.output new.output (HasReportedBy (is_any options) old new)

-- What is printed of a port (this profile's own).
use Rattle.std.specs.Prelude.{ℕ, List, [], ◌∷◌, codes}
use Rattle.std.specs.Fmt.{decimal}
use Rattle.sy_wire.specs.Faults.{frame_fault_words, message_fault_words}
use Rattle.sy_wire.specs.declared.framer.FrameFault.TheVariants.{TooLong}
use Rattle.sy_runtime.specs.Faults.{fault_words}
use Rattle.sy_log.specs.declared.peers.FirstUnread.{FirstUnread}
use Rattle.sy_log.specs.declared.peers.NoMessage.{NoMessage}
use Rattle.sy_log.specs.declared.peers.NoMessage.TheVariants as no_message
use Rattle.sy_runtime.specs.declared.fault.RunFault.{RunFault}
use Rattle.sy_runtime.specs.declared.fault.RunFault.TheVariants as fault
use Rattle.sy_report.specs.Printed.{printed}
use Rattle.sy_report.specs.Reports.{joined, line_feed}

-- syc: WORDS at PORT
abbrev pub at_port : List ℕ → ℕ → List ℕ
at_port words port = joined (codes "syc: " ∷ words ∷ codes " at " ∷ decimal port ∷ (line_feed ∷ []) ∷ [])

-- the same, and how often it happened besides: syc: WORDS at PORT, and N others
abbrev pub at_port_often : List ℕ → ℕ → ℕ → List ℕ
at_port_often words port others =
    joined (codes "syc: " ∷ words ∷ codes " at " ∷ decimal port ∷ codes ", and " ∷ decimal others ∷ codes " others" ∷ (line_feed ∷ []) ∷ [])

-- the number and the name of what ended a connection: of a frame's fault its own
abbrev pub end_words : RunFault → List ℕ
end_words (fault.Frame why) = frame_fault_words why
end_words why = fault_words why

-- syc: N unread at PORT: CODE NAME at O in frame F, all numbers in digits
abbrev pub unread_at : List ℕ → List ℕ → List ℕ → List ℕ → List ℕ → List ℕ
unread_at count port words offset frame =
    joined (codes "syc: " ∷ count ∷ codes " unread at " ∷ port ∷ codes ": " ∷ words ∷ codes " at " ∷ offset ∷ codes " in frame " ∷ frame
    ∷ (line_feed ∷ []) ∷ [])

-- the number and the name of what is wrong with what is no message
abbrev pub no_message_words : NoMessage → List ℕ
no_message_words (no_message.Text fault) = message_fault_words fault.code
no_message_words no_message.Long = frame_fault_words TooLong
no_message_words (no_message.Unframed bytes) = frame_fault_words bytes.fault

-- the byte that shows it
abbrev pub no_message_offset : NoMessage → ℕ
no_message_offset (no_message.Text fault) = fault.offset
no_message_offset no_message.Long = 0
no_message_offset (no_message.Unframed bytes) = bytes.at

-- the frames that carried no message, and why the first of them doesn't
abbrev pub unread_line : ℕ → ℕ → FirstUnread → List ℕ
unread_line count port first =
    unread_at (decimal count) (decimal port) (no_message_words first.what) (decimal (no_message_offset first.what)) (decimal first.frame)

-- the same, and how many frames of how many other connections carried none: .. in frame F, and N of C others
abbrev pub unread_often : ℕ → ℕ → FirstUnread → ℕ → ℕ → List ℕ
unread_often count port first more others =
    joined (codes "syc: " ∷ decimal count ∷ codes " unread at " ∷ decimal port ∷ codes ": " ∷ no_message_words first.what ∷ codes " at "
    ∷ decimal (no_message_offset first.what) ∷ codes " in frame " ∷ decimal first.frame ∷ codes ", and " ∷ decimal more ∷ codes " of " ∷ decimal others
    ∷ codes " others" ∷ (line_feed ∷ []) ∷ [])

-- an input at this port listens at this address: syc: input PORT listening at ADDRESS
abbrev pub listening_line : ℕ → List ℕ → List ℕ
listening_line port address =
    joined (codes "syc: input " ∷ decimal port ∷ codes " listening at " ∷ address ∷ (line_feed ∷ []) ∷ [])

-- which files a relay of this name runs, by the digits of their sum and their number: syc: relay NAME runs: site SUM, N files
abbrev pub runs_line : List ℕ → List ℕ → ℕ → List ℕ
runs_line name sum files =
    joined (codes "syc: relay " ∷ printed name ∷ codes " runs: site " ∷ sum ∷ codes ", " ∷ decimal files ∷ codes " files" ∷ (line_feed ∷ []) ∷ [])

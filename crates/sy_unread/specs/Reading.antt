-- Records that are read again.
use Rattle.std.specs.Prelude.{◌≡◌, ◌≢◌, ℕ, ◌≤◌, ◌<◌, ◌^◌, List, [], ◌++◌, IfSome, IsUtf8, codes, drop, length, string_bytes}
use Rattle.sy_unread.specs.Records.{head}
use Rattle.sy_unread.specs.declared.record.About.{About}
use Rattle.sy_unread.specs.declared.reading.Found.{Found}
use Rattle.sy_unread.specs.declared.reading.Share.{Share}
use Rattle.sy_unread.specs.declared.reading.Share.TheVariants.{First, Second, Whole}

-- what is known of the frame is what was read
pub record Says (found : Found) (about : About) : Type 0 where
  pub relay : about.relay.now ≡ found.relay.items
  pub input : about.input ≡ found.input
  pub peer : about.peer.now ≡ string_bytes found.peer
  pub frame : about.frame ≡ found.frame
  pub fault : about.fault.now ≡ string_bytes found.fault
  pub at : about.at ≡ found.at
  pub length : about.length ≡ found.length

-- the last parameter
abbrev pub share_text : Share → List ℕ
share_text Whole = []
share_text First = codes " part=\"1/2\""
share_text Second = codes " part=\"2/2\""

-- The message is the record that was read, and the bytes of the frame are those from a place on.
pub record IsRecord (raw : List ℕ) (found : Found) : Type 0 where
  pub within : found.start ≤ length raw
  pub whole : (about : About) → Says found about → raw ≡ head about (share_text found.share) ++ drop found.start raw

-- What may be known of a frame: its numbers have the bits of their types, and its texts are UTF-8.
pub record IsWellTyped (about : About) : Type 0 where
  pub input : about.input < 2 ^ 16
  pub peer : IsUtf8 about.peer.now
  pub frame : about.frame < 2 ^ 64
  pub fault : IsUtf8 about.fault.now
  pub at : about.at < 2 ^ 64
  pub length : IfSome about.length (λ n. n < 2 ^ 64)

-- Whatever is known of a frame, and whichever share of its bytes there is, the message doesn't begin as the record of that.
abbrev pub IsNoRecord : List ℕ → Type 0
IsNoRecord raw = (about : About) (share : Share) (rest : List ℕ) → IsWellTyped about → raw ≢ head about (share_text share) ++ rest

-- two records of the parts of one frame: of what they say the share alone differs
pub record AreParts (first second : Found) : Type 0 where
  pub is_first : first.share ≡ First
  pub is_second : second.share ≡ Second
  pub relay : first.relay.items ≡ second.relay.items
  pub input : first.input ≡ second.input
  pub peer : string_bytes first.peer ≡ string_bytes second.peer
  pub frame : first.frame ≡ second.frame
  pub fault : string_bytes first.fault ≡ string_bytes second.fault
  pub at : first.at ≡ second.at
  pub length : first.length ≡ second.length

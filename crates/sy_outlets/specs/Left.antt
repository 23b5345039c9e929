-- What a relay that stopped keeps for its next run: a file for each input that has anything (this profile's own).
use Rattle.std.specs.Prelude.{◌≡◌, ◌≤◌, ◌<◌, ◌⊎◌, ℕ, Bool, true, ◌==◌, if◌then◌else◌, IsPermutation, length, slice_index_or, List, [], ◌∷◌, ◌++◌, drop, map, Option}
use Rattle.std.specs.Io.KnownBytes.{Appends, IsAtEnd}
use Rattle.sy_rules.specs.declared.parts.Input.{Input}
use Rattle.sy_chain.specs.Entries.{Entry}
use Rattle.sy_wire.specs.Frames.{Held, IsBadLength, IsOpen, IsTooLong, stream}
use Rattle.sy_runtime.specs.Connections.{text_of}
use Rattle.sy_runtime.specs.declared.untaken.Untaken.{Untaken}
use Rattle.sy_outlets.specs.Ports.{ports_from}
use Rattle.sy_outlets.specs.declared.leaving.remaining.AtInput.{AtInput}
use Rattle.sy_outlets.specs.declared.port.Port.{Port}

-- the texts of the messages of these entries that came by this input, in their order
abbrev pub texts_of : ℕ → List Entry → List (List ℕ)
texts_of input [] = []
texts_of input (e ∷ later) = if e.input == input then e.message.raw ∷ texts_of input later else texts_of input later

-- no entry was taken before one in front of it: an entry's tag is the number of the messages that were taken before it
abbrev pub IsInOrder : List Entry → Type 0
IsInOrder entries = (i j : ℕ) (d : Entry) → i ≤ j → j < length entries → (slice_index_or entries i d).tag ≤ (slice_index_or entries j d).tag

-- These bytes begin with no whole frame: more must come first, or there is a fault of a frame.
abbrev pub IsCut : List ℕ → Type 0
IsCut left = IsOpen left ⊎ IsBadLength left ⊎ IsTooLong left

-- What a framer had is these frames, and then what it has now, which begins with no whole frame; where it had failed it gives none.
pub record Cuts (had : Held) (framed : List (List ℕ)) (left : List ℕ) : Type 0 where
  pub whole : had.left ≡ stream framed ++ left
  pub cut : IsCut left ⊎ ((had.has_failed ≡ true) × (framed ≡ []))

-- the texts of the whole frames that a connection had read and not taken: those that it had gathered, and then those of its framer, which then
-- has that left
pub record IsRestUpTo (untaken : Untaken) (left : List ℕ) (texts : List (List ℕ)) : Type 0 where
  pub framed : List (List ℕ)
  pub texts_are : texts ≡ map text_of untaken.items.items ++ framed
  pub cuts : Cuts untaken.framer framed left

pub record IsRest (untaken : Untaken) (texts : List (List ℕ)) : Type 0 where
  pub left : List ℕ
  pub up_to : IsRestUpTo untaken left texts

-- the whole frames are among those that were gathered now, and nothing is lost
abbrev pub IsRestIn : Untaken → Untaken → Type 0
IsRestIn old new = IsRestUpTo old new.framer.left (map text_of new.items.items)

-- those of some connections, one after the other
pub data AreRests : List Untaken → List (List ℕ) → Type 0 where
  none : AreRests [] []
  more :
      {later : List Untaken} {texts others : List (List ℕ)} (untaken : Untaken)
      → IsRest untaken texts → AreRests later others → AreRests (untaken ∷ later) (texts ++ others)

-- What is kept of an input: what the relay still held, in the order in which it had taken it, and then what its connections had read and not taken.
pub record IsOfInput (input : AtInput) (entries : List Entry) (texts : List (List ℕ)) : Type 0 where
  pub others : List (List ℕ)
  pub rests : AreRests input.untaken.items others
  pub texts_are : texts ≡ texts_of input.at.input entries ++ others

-- A store kept a file for the input of this port, which has these bytes: it began as the store says that one begins, which is empty, and they were
-- written, and no more. `Kept store port contents store'` is what the store's `keep` says of a file with these contents.
pub record KeepsFile {S : Type 0} (begun : S → ℕ → Option (List ℕ)) (Kept : S → ℕ → Option (List ℕ) → S → Type 0) (store : S) (port : ℕ)
    (bytes : List ℕ) (store' : S) : Type 0 where
  pub contents : Option (List ℕ)
  pub empty : IsAtEnd (begun store port)
  pub wrote : Appends (begun store port) contents bytes
  pub kept : Kept store port contents store'

-- A store keeps a file of its own for each input that has anything, in the order of the inputs: `Kept store port bytes store'` is that it kept one with
-- these bytes.
pub data KeepsEach {S : Type 0} (Kept : S → ℕ → List ℕ → S → Type 0) (entries : List Entry) : S → List AtInput → S → Type 0 where
  none : {store : S} → KeepsEach Kept entries store [] store
  kept :
      {store between store' : S} {later : List AtInput} (input : AtInput) (texts : List (List ℕ))
      → IsOfInput input entries texts → Kept store input.at.port (stream texts) between
      → KeepsEach Kept entries between later store' → KeepsEach Kept entries store (input ∷ later) store'
  nothing :
      {store store' : S} {later : List AtInput} (input : AtInput)
      → IsOfInput input entries [] → KeepsEach Kept entries store later store' → KeepsEach Kept entries store (input ∷ later) store'

abbrev pub port_of : AtInput → Port
port_of input = input.at

abbrev pub rests_of : AtInput → List Untaken
rests_of input = input.untaken.items

-- what the connections of each of these inputs had read and not taken: the first list is of the first input; where there is no list there is nothing
abbrev pub rests_for : List Input → List (List Untaken) → List (List Untaken)
rests_for [] untaken = []
rests_for (input ∷ inputs) untaken = slice_index_or untaken 0 [] ∷ rests_for inputs (drop 1 untaken)

-- What was held was kept, and with it what the connections of each of these inputs had read and not taken.
pub record Keeps {S : Type 0} (Kept : S → ℕ → List ℕ → S → Type 0) (inputs : List Input) (held : List Entry)
    (untaken : List (List Untaken)) (store store' : S) : Type 0 where
  pub entries : List Entry
  pub same : IsPermutation held entries
  pub in_order : IsInOrder entries
  pub all : List AtInput
  pub ports : map port_of all ≡ ports_from 0 inputs
  pub rests : map rests_of all ≡ rests_for inputs untaken
  pub each : KeepsEach Kept entries store all store'

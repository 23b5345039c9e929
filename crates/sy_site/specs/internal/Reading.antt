-- The lines of a text that were read so far, and why reading stops at one (this profile's own).
use Rattle.std.specs.Prelude.{◌≡◌, ℕ, Bool, ◌||◌, ◌<◌, ◌≤◌, ◌⊎◌, true, false, List, [], ◌∷◌, ◌++◌, length, map, filter, codes}
use Rattle.std.specs.Str.{bytes_eq}
use Rattle.sy_site.specs.declared.texts.reading.Given.{Given}
use Rattle.sy_site.specs.declared.texts.reading.Halt.{Halt}
use Rattle.sy_site.specs.declared.texts.reading.Halt.TheVariants as halt
use Rattle.sy_site.specs.declared.fault.SiteFault.{SiteFault}
use Rattle.sy_site.specs.declared.fault.SiteFault.TheVariants as fault
use Rattle.sy_site.specs.internal.Lines.{line_of}
use Rattle.sy_site.specs.texts.Lines.{is_kind, is_skipped, word_lines, words}
use Rattle.sy_site.specs.texts.Shapes.{Line, IsLine}
use Rattle.sy_site.specs.texts.Files.{RELAYS}
use Rattle.sy_site.specs.texts.Describes.{ENTRIES, OUTSIDES, PROTECTIONS, SPARES, IsDuplicate, IsMisplaced, policy_of}
use Rattle.sy_site.specs.texts.HasFault.{IsLimit, Stands, number}

-- the first word of a line
abbrev pub kind : Line → List ℕ
kind Line.Policy = codes "policy"
kind (Line.Relay it) = codes "relay"
kind (Line.Entry it) = codes "entry"
kind (Line.Protect it) = codes "protect"
kind (Line.Spare it) = codes "spare"
kind (Line.Outside it) = codes "outside"

-- the most lines of its kind
abbrev pub most : Line → ℕ
most Line.Policy = 1
most (Line.Relay it) = RELAYS
most (Line.Entry it) = ENTRIES
most (Line.Protect it) = PROTECTIONS
most (Line.Spare it) = SPARES
most (Line.Outside it) = OUTSIDES

abbrev pub line_given : Given → Line
line_given given = line_of given.line

-- the words of a line that was read
abbrev pub words_given : Given → List (List ℕ)
words_given given = kind (line_given given) ∷ words given.behind.now

-- both have a first word, and it is the same
pub data BeginAlike : List (List ℕ) → List (List ℕ) → Type 0 where
  alike : (word : List ℕ) (first second : List (List ℕ)) → BeginAlike (word ∷ first) (word ∷ second)

-- both have two first words, and these are the same
pub data BeginAlikeTwice : List (List ℕ) → List (List ℕ) → Type 0 where
  alike_twice : (word next : List ℕ) (first second : List (List ℕ)) → BeginAlikeTwice (word ∷ next ∷ first) (word ∷ next ∷ second)

-- a line that begins with this word gives a name that no line of the other such kind gives
abbrev pub is_naming : List ℕ → Bool
is_naming word = bytes_eq word (codes "relay") || bytes_eq word (codes "outside")

-- both have a second word, and it is the same
pub data SecondAlike : List (List ℕ) → List (List ℕ) → Type 0 where
  second_alike : (x y word : List ℕ) (first second : List (List ℕ)) → SecondAlike (x ∷ word ∷ first) (y ∷ word ∷ second)

-- both have three first words, of which the first and the third are the same
pub data NameOneReceiver : List (List ℕ) → List (List ℕ) → Type 0 where
  one_receiver : (name host other port : List ℕ) (first second : List (List ℕ))
      → NameOneReceiver (name ∷ host ∷ port ∷ first) (name ∷ other ∷ port ∷ second)

-- This is what was read of the line of this number and these words.
pub record IsGiven (given : Given) (place : ℕ) (line : List (List ℕ)) : Type 0 where
  pub number_is : given.number ≡ place
  pub words_are : words_given given ≡ line
  pub shaped : IsLine line (line_given given)

-- Behind these lines one like this has no place: a policy line behind another line, or a spare line where the first line sets no policy 2.
abbrev pub HasNoPlace : List Line → Line → Type 0
HasNoPlace before Line.Policy = before ≡ [] → ⊥
HasNoPlace before (Line.Spare it) = policy_of before ≡ 1
HasNoPlace before _ = ⊥

-- behind these lines stands less than the most of the line's kind
abbrev pub HasRoom : List (List (List ℕ)) → Line → Type 0
HasRoom before line = length (filter (is_kind (kind line)) before) < most line

-- the line is one more than the most of its kind
pub record IsTooMany (before : List (List (List ℕ))) (line : List (List ℕ)) : Type 0 where
  pub word : List ℕ
  pub limit : ℕ
  pub is_limit : IsLimit word limit
  pub is_of : is_kind word line ≡ true
  pub many : limit ≤ length (filter (is_kind word) before)

-- a line that is not skipped has no shape
pub record IsShapeless (line : List (List ℕ)) : Type 0 where
  pub there : is_skipped line ≡ false
  pub never : (it : Line) → IsLine line it → ⊥

-- a line that has a shape has no place behind those that were read
pub record IsUnplaced (found : List Given) (line : List (List ℕ)) : Type 0 where
  pub of : Line
  pub shaped : IsLine line of
  pub unplaced : HasNoPlace (map line_given found) of

-- a line that has a shape and a place, and is none too many, gives again what an earlier one gave
pub record IsAgain (found : List Given) (line : List (List ℕ)) : Type 0 where
  pub of : Line
  pub shaped : IsLine line of
  pub placed : HasNoPlace (map line_given found) of → ⊥
  pub room : HasRoom (map words_given found) of
  pub again : IsDuplicate (map words_given found) line

-- A line behind these is refused as one of no shape, as one too many, or as one without a place.
abbrev pub IsWrong : List (List (List ℕ)) → List (List ℕ) → Type 0
IsWrong before line = IsShapeless line ⊎ (IsTooMany before line ⊎ IsMisplaced before line)

-- Behind these lines that were read, reading stops at this one.
abbrev pub IsStopped : List Given → List (List ℕ) → Halt → Type 0
IsStopped found line halt.Line = IsShapeless line ⊎ (IsTooMany (map words_given found) line ⊎ IsUnplaced found line)
IsStopped found line halt.Duplicate = IsAgain found line
IsStopped found line halt.NoMemory = Unit {0}

-- no line before the one of this number is refused
abbrev pub NoneBefore : List ℕ → ℕ → Type 0
NoneBefore text place =
    (before later : List (List (List ℕ))) (line : List (List ℕ)) → word_lines text ≡ before ++ line ∷ later → number before < place
    → IsWrong before line ⊎ IsDuplicate before line → ⊥

-- the line of this number is wrong
abbrev pub IsWrongAt : List ℕ → ℕ → Type 0
IsWrongAt text place =
    (before : List (List (List ℕ))) × (later : List (List (List ℕ))) × (line : List (List ℕ)) × (word_lines text ≡ before ++ line ∷ later)
    × (number before ≡ place) × IsWrong before line

-- Of what may be wrong with the lines of a text by themselves this is the first: no earlier line is refused, and the line of a duplicate isn't
-- also wrong for another reason.
abbrev pub IsFirst : List ℕ → SiteFault → Type 0
IsFirst text (fault.Line place) = NoneBefore text place
IsFirst text (fault.Duplicate place) = NoneBefore text place × (IsWrongAt text place → ⊥)
IsFirst text _ = Unit {0}

-- The line of this number and these words was put behind the others.
pub record IsAdded (old new : List Given) (place : ℕ) (line : List (List ℕ)) : Type 0 where
  pub given : Given
  pub is_given : IsGiven given place line
  pub behind : new ≡ old ++ given ∷ []
  pub placed : HasNoPlace (map line_given old) (line_given given) → ⊥
  pub room : HasRoom (map words_given old) (line_given given)
  pub single : IsDuplicate (map words_given old) line → ⊥

-- The line stands in the text, at its number, and in these words.
pub record IsPlaced (text : List ℕ) (given : Given) : Type 0 where
  pub before : List (List (List ℕ))
  pub line : List (List ℕ)
  pub stands : Stands text before line
  pub number_is : given.number ≡ number before
  pub words_are : words_given given ≡ line
  pub shaped : IsLine line (line_given given)

-- The line of this number is this one.
pub record IsLineAt (text : List ℕ) (place : ℕ) (it : Line) : Type 0 where
  pub before : List (List (List ℕ))
  pub line : List (List ℕ)
  pub stands : Stands text before line
  pub number_is : place ≡ number before
  pub shaped : IsLine line it

-- What was read is the line of its number.
abbrev pub IsFound : List ℕ → Given → Type 0
IsFound text given = IsLineAt text given.number (line_given given)

-- What private functions of a sender read and write.
use Rattle.std.specs.Prelude.{◌≡◌, ◌≢◌, ℕ, ◌-◌, ◌<◌, ◌≤◌, ◌⊎◌, Bool, true, false, List, [], ◌∷◌, ◌++◌, Option, length, take}
use Rattle.std.specs.Io.KnownBytes.{Appends, Consumes}
use Rattle.sy_relp.specs.Closings.{IsEnd, NoEnd}
use Rattle.sy_relp.specs.Exchanges.{AreAnswers, Hears}
use Rattle.sy_relp.specs.Frames.{Frame}

-- the bytes begin so, and go on
pub record IsProperPrefix (front bytes : List ℕ) : Type 0 where
  pub rest : List ℕ
  pub goes_on : rest ≢ []
  pub joined : bytes ≡ front ++ rest

-- known bytes grew by a proper prefix of these
pub record AppendsFront (old new : Option (List ℕ)) (bytes : List ℕ) : Type 0 where
  pub front : List ℕ
  pub is_front : IsProperPrefix front bytes
  pub wrote : Appends old new front

-- bytes were read, and are held
pub record Fed (ahead ahead' : Option (List ℕ)) (left left' : List ℕ) : Type 0 where
  pub bytes : List ℕ
  pub read : Consumes ahead ahead' bytes
  pub whole : left ++ bytes ≡ left'

-- the first so many of what was heard are the answers to the commands from this one on; nothing else was heard where that is all that was wanted
pub record HearsUpTo (ahead ahead' : Option (List ℕ)) (left left' : List ℕ) (first wanted count : ℕ) : Type 0 where
  pub heard : List Frame
  pub hears : Hears ahead ahead' left left' heard
  pub answers : AreAnswers first (take count heard)
  pub enough : count ≤ length heard
  pub within : count ≤ wanted
  pub no_more : count ≡ wanted → length heard ≡ count

-- the session has ended behind the answers to so many transactions before its close, or it hasn't
abbrev pub EndsBehind : Bool → ℕ → ℕ → ℕ → List Frame → Type 0
EndsBehind true txnr waiting count behind = (count ≡ waiting) × (end : Frame) × (behind ≡ end ∷ []) × IsEnd txnr end
EndsBehind false txnr waiting count behind = (count < waiting) ⊎ NoEnd txnr behind

-- the first so many answers to the transactions before the close of this number were heard, and then these frames
pub record HearsEnd (ahead ahead' : Option (List ℕ)) (left left' : List ℕ) (txnr waiting count : ℕ) (is_over : Bool) : Type 0 where
  pub answered : List Frame
  pub behind : List Frame
  pub hears : Hears ahead ahead' left left' (answered ++ behind)
  pub answers : AreAnswers (txnr - waiting) answered
  pub size : length answered ≡ count
  pub within : count ≤ waiting
  pub ends : EndsBehind is_over txnr waiting count behind

-- What the private functions that read a line answer.
use Rattle.std.specs.Prelude.{◌≡◌, ℕ, List, [], ◌∷◌, Option, Some, None, codes}
use Rattle.sy_site.specs.declared.site.SiteInput.{SiteInput}
use Rattle.sy_site.specs.Sites.{Site}
use Rattle.sy_site.specs.machine.Steps.{SiteEvent}
use Rattle.sy_replay.specs.declared.line.fault.EventFault.{EventFault}
use Rattle.sy_replay.specs.declared.line.fault.EventFault.TheVariants as fault
use Rattle.sy_replay.specs.declared.line.verb.Verb.{Verb}
use Rattle.sy_replay.specs.declared.line.verb.Verb.TheVariants as verb
pub use Rattle.sy_wire.specs.Words.{words_left}
use Rattle.sy_replay.specs.Lines.{IsHand, words_in}

-- why words give no event of these; and what they are where memory ran out
abbrev pub NoEvent : (SiteEvent → Type 0) → Type 0 → EventFault → Type 0
NoEvent Stands Wants fault.Line = (e : SiteEvent) → Stands e → ⊥
NoEvent Stands Wants fault.NoMemory = Wants

-- ---- words that memory is wanted for

-- those of some bytes
abbrev pub AreRaw : List (List ℕ) → Type 0
AreRaw words = (raw : List ℕ) × (words ≡ words_in raw)

-- new RAW
abbrev pub IsNewRaw : List (List ℕ) → Type 0
IsNewRaw words = (raw : List ℕ) × (words ≡ codes "new" ∷ words_in raw)

-- RELAY PORT H new RAW
abbrev pub IsHandRaw : Site → List (List ℕ) → Type 0
IsHandRaw site words = (to : SiteInput) × (hand : ℕ) × (raw : List ℕ) × IsHand site words to hand (codes "new" ∷ words_in raw)

-- these behind `take`
abbrev pub WantsMemory : Site → Verb → List (List ℕ) → Type 0
WantsMemory site verb.Take words = IsHandRaw site words
WantsMemory site _ words = ⊥

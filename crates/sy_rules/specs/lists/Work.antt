-- The work of a message at a list, and what a class may and must execute of it.
use Rattle.std.specs.Prelude.{◌≡◌, ℕ, true, List}
use Rattle.sy_wire.specs.declared.class.Class.{Class}
use Rattle.sy_wire.specs.Messages.{Said}
use Rattle.sy_select.specs.Properties.{known, says}
use Rattle.sy_select.specs.Truth.{Valuation, valuation, Admits}
use Rattle.sy_rules.specs.lists.Body.{Body, tests, executed, is_in}

-- the valuation that a message gives the test occurrences of a text
abbrev pub valuation_of : Body → Said → Valuation
valuation_of s m = valuation (says m) (tests s)

-- the occurrences that a message executes
abbrev pub work : Body → Said → List ℕ
work s m = executed s (valuation_of s m)

-- an occurrence that a message executes
abbrev pub Due : Body → Said → ℕ → Type 0
Due s m number = is_in number (work s m) ≡ true

-- the class of a message
abbrev pub HasClass : Said → Class → Type 0
HasClass m class = m.class ≡ class

-- the valuations that a class admits: what the class decides is as it says, every other test occurrence is free by itself
abbrev pub IsAdmitted : Body → Class → Valuation → Type 0
IsAdmitted s class v = Admits (known class) (tests s) v

-- an occurrence that some admitted valuation executes
pub record May (s : Body) (class : Class) (number : ℕ) : Type 0 where
  pub values : Valuation
  pub admitted : IsAdmitted s class values
  pub executes : is_in number (executed s values) ≡ true

-- an occurrence that every admitted valuation executes
abbrev pub Must : Body → Class → ℕ → Type 0
Must s class number = (v : Valuation) → IsAdmitted s class v → is_in number (executed s v) ≡ true

-- The ports of a relay's inputs.
use Rattle.std.specs.Prelude.{ℕ, List, [], ◌∷◌}
use Rattle.sy_rules.specs.declared.parts.Input.{Input}
use Rattle.sy_outlets.specs.declared.port.Port.{Port}

-- each input by its number, from this one on, with its port
abbrev pub ports_from : ℕ → List Input → List Port
ports_from number [] = []
ports_from number (input ∷ inputs) = record { input = number; port = input.port } ∷ ports_from (ℕ.suc number) inputs

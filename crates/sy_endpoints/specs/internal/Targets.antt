-- A target by itself.
use Rattle.std.specs.Prelude.{ℕ, List}
use Rattle.sy_endpoints.specs.Outlets.{Place}

-- to this port of the address that a text is, or nowhere where it is none
abbrev pub target_at : List ℕ → ℕ → Place
target_at target port = Place.Target target port

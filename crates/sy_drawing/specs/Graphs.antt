-- What a drawing of a site answers (this profile's own).
use Rattle.std.specs.Prelude.{◌≡◌, ℕ, List}
use Rattle.sy_wire.specs.declared.class.Class.{Class}
use Rattle.sy_report.specs.Texts.{class_text}

-- no class is printed so
abbrev pub IsNoClass : List ℕ → Type 0
IsNoClass word = (class : Class) → class_text class ≡ word → ⊥

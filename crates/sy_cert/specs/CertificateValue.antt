-- A certificate as a value (this profile's own).
use Rattle.std.specs.Prelude.{ℕ, List}
use Rattle.sy_cert.specs.declared.row.Row.{Row}

pub record Certificate : Type 0 where
  pub version : ℕ
  pub rows : List Row

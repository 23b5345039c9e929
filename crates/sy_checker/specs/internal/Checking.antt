-- What the parts of a check say.
use Rattle.std.specs.Prelude.{Contains, List}
use Rattle.sy_wire.specs.declared.class.Class.{Class}
use Rattle.sy_site.specs.Sites.{Site}
use Rattle.sy_site.specs.machine.Soundness.{IsSoundFor}

-- The site is sound for each of these classes.
abbrev pub AreSound : Site → List Class → Type 0
AreSound site classes = (class : Class) → Contains classes class → IsSoundFor site class

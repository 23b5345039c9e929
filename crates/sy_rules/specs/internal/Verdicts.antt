-- What classes say of a test, as the code keeps it: of each facility two sets of severities, the bit k for severity k.
use Rattle.std.specs.Prelude.{◌≡◌, ℕ, Bool, true, false, ◌==◌, List, length, get_or}
use Rattle.std.specs.Int.{bit_at}
use Rattle.sy_wire.specs.declared.class.Class.{Class}
use Rattle.sy_select.specs.declared.condition.Test.{Test}
use Rattle.sy_select.specs.declared.verdict.Verdict.{Verdict}
use Rattle.sy_select.specs.declared.verdict.Verdict.TheVariants.{Yes, No, Either}
use Rattle.sy_select.specs.Properties.{known}
use Rattle.sy_select.specs.Truth.{Formula}
use Rattle.sy_select.specs.internal.Walk.{verdict}
use Rattle.sy_rules.specs.declared.lists.condition.Verdicts.{Verdicts}

abbrev pub of_bits : Bool → Bool → Verdict
of_bits true possible = Yes
of_bits false true = Either
of_bits false false = No

abbrev pub said : Verdicts → ℕ → Verdict
said v severity = of_bits (bit_at v.certain severity == 1) (bit_at v.possible severity == 1)

abbrev pub none : Verdicts
none = record { certain = 0; possible = 0 }

-- those of a facility, where there are as many as facilities
abbrev pub verdicts_at : List Verdicts → ℕ → Verdicts
verdicts_at verdicts facility = get_or verdicts facility none

-- each class says of the expression what is kept for it
pub record AreVerdicts (x : Formula Test) (verdicts : List Verdicts) : Type 0 where
  pub size : length verdicts ≡ 24
  pub are : (class : Class) → said (verdicts_at verdicts class.facility) class.severity ≡ verdict (known class) x

-- where a test is free, every class leaves it open
abbrev pub IsFree : Formula Test → Bool → Type 0
IsFree x free = free ≡ true → (class : Class) → verdict (known class) x ≡ Either

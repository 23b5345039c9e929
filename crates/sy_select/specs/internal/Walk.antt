-- The walks that the code makes, for its private functions: truth by what each test says, and by three values.
use Rattle.std.specs.Prelude.{Bool, true, false, not, ◌||◌, ◌&&◌, Option, Some, None}
use Rattle.sy_select.specs.declared.verdict.Verdict.{Verdict}
use Rattle.sy_select.specs.declared.verdict.Verdict.TheVariants.{Yes, No, Either}
use Rattle.sy_select.specs.Truth.{Formula, opposite}

abbrev pub holds : {T : Type 0} → (T → Bool) → Formula T → Bool
holds says (Formula.Test t) = says t
holds says (Formula.Not x) = not (holds says x)
holds says (Formula.Or x y) = holds says x || holds says y
holds says (Formula.And x y) = holds says x && holds says y
holds says Formula.Never = false
holds says Formula.Always = true

abbrev pub or_of : Verdict → Verdict → Verdict
or_of Yes w = Yes
or_of No w = w
or_of Either Yes = Yes
or_of Either No = Either
or_of Either Either = Either

abbrev pub and_of : Verdict → Verdict → Verdict
and_of No w = No
and_of Yes w = w
and_of Either No = No
and_of Either Yes = Either
and_of Either Either = Either

abbrev pub of_known : Option Bool → Verdict
of_known None = Either
of_known (Some true) = Yes
of_known (Some false) = No

abbrev pub verdict : {T : Type 0} → (T → Option Bool) → Formula T → Verdict
verdict known (Formula.Test t) = of_known (known t)
verdict known (Formula.Not x) = opposite (verdict known x)
verdict known (Formula.Or x y) = or_of (verdict known x) (verdict known y)
verdict known (Formula.And x y) = and_of (verdict known x) (verdict known y)
verdict known Formula.Never = No
verdict known Formula.Always = Yes

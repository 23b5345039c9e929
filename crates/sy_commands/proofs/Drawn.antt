-- A drawing of one class, or of all.
use Rattle.std.proofs.Common.{◌≡◌, ℕ, List, arith, inl, inr}
use Rattle.std.specs.Prelude.{IfSome, Option, true}
use Rattle.sy_commands.specs.Graphs.{GraphIs, IsClass}
use Rattle.sy_commands.specs.Outcomes.{AnswersOf, FailsBy}
use Rattle.sy_report.specs.Reports.{Streams}

pub drawn : (class : Option (List ℕ)) (bytes_of : List ℕ → Option (List ℕ)) (text : List ℕ) (status : ℕ) (old new : Streams) → IfSome class IsClass
    → AnswersOf (λ site drawing is_accepted. is_accepted ≡ true) bytes_of text status old new → GraphIs class bytes_of text status old new
drawn class bytes_of text status old new is (inl (site, is_site, drawing, is_accepted, accepts, printed)) =
    inl (inl (site, is_site, drawing, is_accepted, (accepts, is), printed))
drawn class bytes_of text status old new is (inr none) = inl (inr none)

two_or_four : (n : ℕ) → n ≡ 2 → n ≡ 4 → ⊥
two_or_four n two four = omega (arith, two, four)

pub two_fails : (MayFail : Type 0) (status : ℕ) (old new : Streams) → status ≡ 2 → FailsBy MayFail status old new
two_fails MayFail status old new two four = absurd (two_or_four status two four)

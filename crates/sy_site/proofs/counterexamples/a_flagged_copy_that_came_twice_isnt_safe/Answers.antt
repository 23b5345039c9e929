use Rattle.std.proofs.Common.{true, [], ◌∷◌, refl, arith}
use Rattle.sy_board.specs.relay.Cells.{hand}
use Rattle.sy_site.specs.machine.Examples.{up}
use Rattle.sy_site.proofs.machine.CirclingRun.{copy, held_others, held_run, link_others, link_run, not_different, s10, s13}
use Rattle.sy_site.proofs.machine.EdgeRun.{node}
use Rattle.sy_site.proofs.machine.ExampleSound.{auth_is_protected}
use Rattle.sy_site.proofs.counterexamples.a_flagged_copy_that_came_twice_isnt_safe.Goals as goal

pub returns-clause-held : goal.returns-clause-held
returns-clause-held c class facility severity = (
  s10 class,
  held_run class,
  λ safe. not_different class ((safe 0 _ refl (auth_is_protected class facility severity) (0, omega arith, refl)).held_once
      0 (hand 0 0) (node class 2) (0, omega arith, refl) (record { copy = copy class (0 ∷ 1 ∷ 0 ∷ []) true; is = refl; numbered = refl })),
  held_others class,
)

pub returns-clause-on_a_link : goal.returns-clause-on_a_link
returns-clause-on_a_link c class facility severity = (
  s13 class,
  link_run class,
  λ safe. not_different class ((safe 0 _ refl (auth_is_protected class facility severity) (0, omega arith, refl)).passed_once
      up 2 (0, omega arith, refl) (record { copy = copy class (0 ∷ 1 ∷ 0 ∷ []) true; is = refl; numbered = refl })),
  link_others class,
)

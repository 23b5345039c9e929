use Rattle.std.proofs.Common.{[], ◌∷◌, refl, arith}
use Rattle.sy_board.specs.relay.Cells.{hand}
use Rattle.sy_site.specs.machine.Counterexamples.{to_hub}
use Rattle.sy_site.specs.machine.Examples.{audit}
use Rattle.sy_site.proofs.machine.ExampleSound.{auth_is_protected}
use Rattle.sy_site.proofs.machine.TwiceParts.{held_others, sent_others, written_others}
use Rattle.sy_site.proofs.machine.TwiceRun.{copy, held_run, node, not_different, s12, s5, s8, sent_run, written_run}
use Rattle.sy_site.proofs.counterexamples.a_message_that_came_twice_isnt_safe.Goals as goal

pub returns-clause-held : goal.returns-clause-held
returns-clause-held c class facility severity = (
  s5 class,
  held_run class,
  λ safe. not_different [] ((safe 0 _ refl (auth_is_protected class facility severity) (0, omega arith, refl)).held_once
      0 (hand 1 0) (node class 1 1 1) (0, omega arith, refl) (record { copy = copy class (0 ∷ 0 ∷ []); is = refl; numbered = refl })),
  held_others class,
)

pub returns-clause-on_a_link : goal.returns-clause-on_a_link
returns-clause-on_a_link c class facility severity = (
  s8 class,
  sent_run class,
  λ safe. not_different [] ((safe 0 _ refl (auth_is_protected class facility severity) (0, omega arith, refl)).passed_once
      to_hub 1 (0, omega arith, refl) (record { copy = copy class (0 ∷ 0 ∷ []); is = refl; numbered = refl })),
  sent_others class,
)

pub returns-clause-in_a_file : goal.returns-clause-in_a_file
returns-clause-in_a_file c class facility severity = (
  s12 class,
  written_run class,
  λ safe. not_different (1 ∷ []) ((safe 0 _ refl (auth_is_protected class facility severity) (0, omega arith, refl)).passed_once
      audit 2 (0, omega arith, refl) (record { copy = copy class (0 ∷ 0 ∷ 1 ∷ []); is = refl; numbered = refl })),
  written_others class,
)

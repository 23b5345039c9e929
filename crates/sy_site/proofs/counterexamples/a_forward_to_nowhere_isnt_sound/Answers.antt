use Rattle.std.proofs.Common.{refl, arith}
use Rattle.sy_rules.specs.lists.Body.{Body}
use Rattle.sy_rules.proofs.lemmas.lists.WorkLaws.{work_may}
use Rattle.sy_board.specs.relay.Spares.{own}
use Rattle.sy_site.specs.machine.Examples.{edge_input, example_message}
use Rattle.sy_site.specs.machine.Findings.{Kind}
use Rattle.sy_site.specs.machine.Reach.{entry}
use Rattle.sy_site.proofs.counterexamples.a_forward_to_nowhere_isnt_sound.Goals as goal

pub returns : goal.returns
returns c class sound =
    let may = work_may (Body.Run 0 (Body.Run 1 Body.End)) (example_message class) class 1 refl refl in
    sound.clean edge_input (entry (0, omega arith, refl)) Kind.NoTarget
    (1, record { list = 1; follows = own; number = 1; does = record { may = may; found = refl; in_scope = refl } }, tt, refl)

use Rattle.std.proofs.Common.{refl, arith}
use Rattle.sy_rules.specs.lists.Body.{Body}
use Rattle.sy_rules.proofs.lemmas.lists.WorkLaws.{work_may}
use Rattle.sy_board.specs.relay.Spares.{more, once, own}
use Rattle.sy_site.specs.machine.Examples.{edge_input, example_message}
use Rattle.sy_site.specs.machine.Findings.{Kind}
use Rattle.sy_site.specs.machine.Reach.{entry}
use Rattle.sy_site.proofs.counterexamples.a_circle_of_queues_isnt_sound.Goals as goal

pub returns : goal.returns
returns c class sound =
    let there = work_may (Body.Run 0 (Body.Post 2 Body.End)) (example_message class) class 1 refl refl in
    let back = work_may (Body.Post 1 Body.End) (example_message class) class 0 refl refl in
    sound.clean edge_input (entry (0, omega arith, refl)) Kind.InnerLoop (record {
      list = 1;
      follows = own;
      again = more 1 (record { may = there; found = refl; in_scope = refl }) (once 0 (record { may = back; found = refl; in_scope = refl }));
    })

use Rattle.std.proofs.Common.{refl, arith}
use Rattle.sy_wire.specs.declared.class.Class.{Class}
use Rattle.sy_rules.specs.lists.Body.{Body}
use Rattle.sy_rules.proofs.lemmas.lists.WorkLaws.{work_may}
use Rattle.sy_board.specs.relay.Spares.{Scope}
use Rattle.sy_site.specs.machine.Counterexamples.{circling_site}
use Rattle.sy_site.specs.machine.Examples.{edge_input, example_message, hub_input}
use Rattle.sy_site.specs.machine.Reach.{Reach, Reaches, entry, forwards, onward}
use Rattle.sy_site.proofs.counterexamples.a_circle_of_spare_actions_isnt_sound.Goals as goal

module _ (class : Class) where
  to_hub : Reaches circling_site class Scope.Every 0 1 0 hub_input
  to_hub = forwards 0 0 (record { may = work_may (Body.Run 0 Body.End) (example_message class) class 0 refl refl; found = refl; in_scope = tt }) refl

  to_edge : Reaches circling_site class Scope.Every 1 0 1 edge_input
  to_edge = forwards 1 1
      (record { may = work_may (Body.Run 0 (Body.Run 1 Body.End)) (example_message class) class 1 refl refl; found = refl; in_scope = tt }) refl

  first : Reach circling_site class Scope.Every edge_input
  first = entry (0, omega arith, refl)

pub returns : goal.returns
returns c class sound =
    let there = sound.ranks.falls edge_input hub_input 0 (first class) (to_hub class) in
    let again = sound.ranks.falls hub_input edge_input 1 (onward 0 (first class) (to_hub class)) (to_edge class) in
    omega (arith, there, again)

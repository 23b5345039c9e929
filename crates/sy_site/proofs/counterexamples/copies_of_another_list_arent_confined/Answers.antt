use Rattle.std.proofs.Common.{◌≡◌, refl, arith, inl}
use Rattle.sy_board.specs.relay.Cells.{Cell}
use Rattle.sy_site.specs.machine.Counterexamples.{changing_site}
use Rattle.sy_site.proofs.machine.ChangingRun.{changing_run, copy, node, s4}
use Rattle.sy_site.proofs.machine.PlaceParts.{list_others, not_placed}
use Rattle.sy_site.proofs.counterexamples.copies_of_another_list_arent_confined.Goals as goal

pub returns : goal.returns
returns c class = (
  s4 class,
  changing_run class,
  λ confined. not_placed changing_site class 0 (Cell.Queue 0) (node class 1) (λ its. let list : 1 ≡ 0 = its.list in omega (arith, list))
      (inl (λ e. cc))
      (confined.placed 0 (Cell.Queue 0) (node class 1) (0, omega arith, refl) (copy class)
      (record { is = refl; class_is = refl; entered = (0, omega arith, refl) }) refl),
  list_others class,
)

use Rattle.std.proofs.Common.{◌≡◌, refl, arith, inl}
use Rattle.sy_board.specs.relay.Cells.{Cell}
use Rattle.sy_site.specs.machine.Counterexamples.{moving_site}
use Rattle.sy_site.proofs.machine.MovingRun.{copy, node, queue_run, s4, s5, worker_run}
use Rattle.sy_site.proofs.machine.PlaceParts.{not_placed, queue_others, worker_others}
use Rattle.sy_site.proofs.counterexamples.copies_at_such_places_arent_confined.Goals as goal

pub returns-clause-in_a_queue : goal.returns-clause-in_a_queue
returns-clause-in_a_queue c class = (
  s4 class,
  queue_run class,
  λ confined. not_placed moving_site class 0 (Cell.Queue 1) (node class 1) (λ its. let is : 0 ≡ 1 = its.place in omega (arith, is)) (inl (λ e. cc))
      (confined.placed 0 (Cell.Queue 1) (node class 1) (0, omega arith, refl) (copy class)
      (record { is = refl; class_is = refl; entered = (0, omega arith, refl) }) refl),
  queue_others class,
)

pub returns-clause-with_a_worker : goal.returns-clause-with_a_worker
returns-clause-with_a_worker c class = (
  s5 class,
  worker_run class,
  λ confined. not_placed moving_site class 0 (Cell.Worker 1) (node class 1) (λ its. let is : 0 ≡ 1 = its.place in omega (arith, is)) (inl (λ e. cc))
      (confined.placed 0 (Cell.Worker 1) (node class 1) (0, omega arith, refl) (copy class)
      (record { is = refl; class_is = refl; entered = (0, omega arith, refl) }) refl),
  worker_others class,
)

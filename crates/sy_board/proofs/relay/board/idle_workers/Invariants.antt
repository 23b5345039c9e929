use Rattle.std.proofs.Common.{◌≡◌, [], map, replicate}
use Rattle.sy_board.specs.declared.relay.board.Worker.{Worker}
use Rattle.sy_board.proofs.relay.board.idle_workers.Given as goal

abbrev pub invariant-loop : goal.invariant-loop
invariant-loop l = record {
  entries : map (λ (w : Worker). w.entries) l.workers.items ≡ replicate l.counter [];
  failures : map (λ (w : Worker). w.failures) l.workers.items ≡ replicate l.counter 0;
}

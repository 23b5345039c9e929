use Rattle.std.proofs.Common.{refl}
use Rattle.sy_runtime.proofs.Taken.{unsettled}
use Rattle.sy_runtime.proofs.Turning.{may_go_on, rounded}
use Rattle.sy_runtime.proofs.connection.turns.take_in.Goals as goal

pub returns : goal.returns
returns g c = record {
  kept = λ read before begun.
      rounded _ _ _ read _ _ _ _ _ _ _ c.sum_up.ensures
      (c.gather-stop.ensures.kept read c.args.end.now _ (unsettled read _ _ _ _ c.requires.empty begun))
      (λ read left. c.insert_batch-insert_batch.ensures.kept read left before) c.insert_batch-insert_batch.ensures.all;
  on = may_go_on _ _ _ _ _ _ _ _ _ c.sum_up.ensures c.requires.empty c.gather-stop.ensures.kept c.insert_batch-insert_batch.ensures.all c.insert_batch-insert_batch.ensures.free;
  same = refl;
}

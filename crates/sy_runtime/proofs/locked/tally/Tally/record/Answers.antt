use Rattle.std.proofs.Common.{rules}
use Rattle.sy_runtime.proofs.Counted.{record_takes_none, still_counted}
use Rattle.sy_runtime.proofs.locked.tally.Tally.record.Goals as goal

pub invariant_of-self : goal.invariant_of-self
invariant_of-self c = record {
  counted =
      still_counted c.args.self.now.board c.in-Some.board.now c.record.new.board c.args.self.now.counts (search rules) c.args.self.now.counted
      (record_takes_none _ _ _ _ _ _ c.record.ensures);
}

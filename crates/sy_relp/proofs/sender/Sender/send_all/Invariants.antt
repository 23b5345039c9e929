use Rattle.std.proofs.Common.{length, ◌-◌, ◌≤◌, map, take}
use Rattle.std.specs.Arc.{arc_value}
use Rattle.sy_relp.specs.Exchanges.{Exchanges}
use Rattle.sy_relp.proofs.sender.Sender.send_all.Given as goal

abbrev pub invariant-loop-taken : goal.invariant-loop-taken
invariant-loop-taken g l = record {
  within : l.taken ≤ length l.messages;
  so_far : Exchanges g.R.Source.remaining g.W.Sink.contents l.fn.self (take l.taken (map arc_value l.messages)) l.self;
}

abbrev pub decreases-loop-taken : goal.decreases-loop-taken
decreases-loop-taken g l = length l.messages - l.taken

use Rattle.std.proofs.Common.{◌≡◌}
use Rattle.sy_chain.specs.internal.Linked.{place_of}
use Rattle.sy_chain.proofs.blocks.Blocks.place.Given as goal

abbrev pub invariant-loop-k : goal.invariant-loop-k
invariant-loop-k g l = record {
  same : l.self ≡ l.initial.self;
  place : l.at ≡ place_of l.self.placed l.k;
}

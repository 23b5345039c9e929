use Rattle.std.proofs.Common.{◌≡◌, [], replicate}
use Rattle.sy_replay.specs.internal.Parts.{items_of}
use Rattle.sy_replay.proofs.part.empty_lists.Given as goal

abbrev pub invariant-loop : goal.invariant-loop
invariant-loop l = items_of l.lists.items ≡ replicate l.counter []

use Rattle.std.proofs.Common.{◌≡◌, ◌++◌, map, drop}
use Rattle.sy_fit.specs.declared.rows.wanted.Wanted.TheVariants as wanted
use Rattle.sy_fit.proofs.rows.wanted.push_relays.Given as goal

abbrev pub invariant-loop-relay : goal.invariant-loop-relay
invariant-loop-relay l = l.part.items ++ map (wanted.Rank) (drop l.relay-index l.relays) ≡ l.initial.part.items ++ map (wanted.Rank) l.relays

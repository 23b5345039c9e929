use Rattle.std.proofs.Common.{◌≡◌, drop}
use Rattle.sy_checker.specs.internal.Inner.{number_in}
use Rattle.sy_checker.proofs.inner.number_in.Given as goal

abbrev pub invariant-loop-own : goal.invariant-loop-own
invariant-loop-own l = number_in l.lists l.list ≡ number_in (drop l.own-index l.lists) l.list

use Rattle.std.proofs.Common.{◌≤◌, ◌-◌, length}
use Rattle.sy_relp.proofs.Numbers.{HasNumber}
use Rattle.sy_relp.proofs.parts.number.Given as goal

abbrev pub invariant-loop-i : goal.invariant-loop-i
invariant-loop-i l = record {
  within : l.i ≤ length l.bytes;
  digits : HasNumber l.bytes l.i l.value;
  most : l.value ≤ l.max;
}

abbrev pub decreases-loop-i : goal.decreases-loop-i
decreases-loop-i l = length l.bytes - l.i

use Rattle.std.proofs.Common.{◌≡◌, ◌≤◌, length}
use Rattle.sy_board.specs.relay.Spares.{is_spare_occurrence}
use Rattle.sy_flows.proofs.Firmness.{AreFirmBelow}
use Rattle.sy_flows.proofs.flows.firm.firm_among.Given as goal

abbrev pub invariant-loop-number : goal.invariant-loop-number
invariant-loop-number l = record {
  firm : AreFirmBelow (is_spare_occurrence l.plan l.spares) l.occurrences l.number l.set;
  all : l.number-end ≡ length l.occurrences;
  within : l.number ≤ l.number-end;
}

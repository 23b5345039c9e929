use Rattle.std.proofs.Common.{◌≡◌, ◌≤◌, length}
use Rattle.sy_replay.specs.internal.Routes.{first_of, row_of, rows_of}
use Rattle.sy_replay.proofs.routes.table_of.Given as goal

abbrev pub invariant-loop-relay : goal.invariant-loop-relay
invariant-loop-relay l = record {
  made : rows_of l.rows.items ≡ first_of (row_of l.fn.site) l.relay;
  all : l.relay-end ≡ length l.fn.site.relays;
  within : l.relay ≤ l.relay-end;
}

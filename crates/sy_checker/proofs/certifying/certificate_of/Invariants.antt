use Rattle.std.proofs.Common.{◌≡◌, ◌++◌}
use Rattle.sy_cert.specs.Rows.{last_kind}
use Rattle.sy_checker.specs.internal.Certifying.{AreShaped}
use Rattle.sy_checker.proofs.certifying.certificate_of.Given as goal

abbrev pub invariant-loop-row : goal.invariant-loop-row
invariant-loop-row l = record {
  version : l.certificate.version ≡ l.version;
  whole : l.certificate.rows ++ l.row-iterator.rest.items ≡ l.initial.row-iterator.rest.items;
  shaped : AreShaped l.version (last_kind l.certificate.rows) l.row-iterator.rest.items;
}

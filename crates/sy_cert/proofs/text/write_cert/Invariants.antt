use Rattle.std.proofs.Common.{◌≡◌, ◌++◌, drop}
use Rattle.sy_cert.specs.Rows.{lines, text}
use Rattle.sy_cert.proofs.text.write_cert.Given as goal

-- what was written, and the lines that are left to write
abbrev pub invariant-loop-row : goal.invariant-loop-row
invariant-loop-row l = l.bytes.items ++ lines (drop l.row-index l.certificate.rows) ≡ text l.certificate.version l.certificate.rows

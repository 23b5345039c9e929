use Rattle.std.proofs.Common.{subst}
use Rattle.sy_cert.specs.Faults.{words_in}
use Rattle.sy_cert.specs.Rows.{last_kind}
use Rattle.sy_cert.specs.internal.Reading.{IsUnread}
use Rattle.sy_cert.proofs.RowLines.{not_taken}
use Rattle.sy_cert.proofs.reading.take_line.Goals as goal

pub returns-in-Err-clause-err : goal.returns-in-Err-clause-err
returns-in-Err-clause-err c =
    not_taken c.args.certificate.now.version (last_kind c.args.certificate.now.rows) (words_in c.args.line.now) c.in-Err.code
    (subst (λ v. IsUnread v (words_in c.args.line.now) c.in-Err.code) c.version.ensures c.in-Err.ensures.err)

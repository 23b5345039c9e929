use Rattle.std.proofs.Common.{sym, subst}
use Rattle.std.specs.Prelude.{IfErr, codes}
use Rattle.sy_cert.specs.internal.Reading.{IsUnread}
use Rattle.sy_cert.proofs.RowLines.{begins}
use Rattle.sy_cert.proofs.reading.row_of.Goals as goal

pub returns-then-eq-clause-err : goal.returns-then-eq-clause-err
returns-then-eq-clause-err c =
    subst (λ ws. IfErr c.class_row.result (λ code. IsUnread c.args.version ws code))
    (sym (begins c.args.line.now c.first_word.result.0.now c.as_slice.result.now (codes "class") _ c.eq.result c.first_word.ensures
    c.eq.ensures c.if-eq.true c.as_slice.ensures)) (c.class_row.ensures.err c.args.version)

pub returns-then-eq-2-clause-err : goal.returns-then-eq-2-clause-err
returns-then-eq-2-clause-err c =
    subst (λ ws. IfErr c.reach_row.result (λ code. IsUnread c.args.version ws code))
    (sym (begins c.args.line.now c.first_word.result.0.now c.as_slice-2.result.now (codes "reach") _ c.eq-2.result c.first_word.ensures
    c.eq-2.ensures c.if-eq-2.true c.as_slice-2.ensures)) (c.reach_row.ensures.err c.args.version)

pub returns-then-eq-3-clause-err : goal.returns-then-eq-3-clause-err
returns-then-eq-3-clause-err c =
    subst (λ ws. IfErr c.branch_row.result (λ code. IsUnread c.args.version ws code))
    (sym (begins c.args.line.now c.first_word.result.0.now c.as_slice-3.result.now (codes "branch") _ c.eq-3.result c.first_word.ensures
    c.eq-3.ensures c.if-eq-3.true c.as_slice-3.ensures)) c.branch_row.ensures.err

pub returns-then-eq-4-clause-err : goal.returns-then-eq-4-clause-err
returns-then-eq-4-clause-err c =
    subst (λ ws. IfErr c.rank_row.result (λ code. IsUnread c.args.version ws code))
    (sym (begins c.args.line.now c.first_word.result.0.now c.as_slice-4.result.now (codes "rank") _ c.eq-4.result c.first_word.ensures
    c.eq-4.ensures c.if-eq-4.true c.as_slice-4.ensures)) (c.rank_row.ensures.err c.args.version)

pub returns-then-eq-5-clause-err : goal.returns-then-eq-5-clause-err
returns-then-eq-5-clause-err c =
    subst (λ ws. IfErr c.inner_row.result (λ code. IsUnread c.args.version ws code))
    (sym (begins c.args.line.now c.first_word.result.0.now c.as_slice-5.result.now (codes "inner") _ c.eq-5.result c.first_word.ensures
    c.eq-5.ensures c.if-eq-5.true c.as_slice-5.ensures)) (c.inner_row.ensures.err c.args.version)

pub returns-then-eq-6-clause-err : goal.returns-then-eq-6-clause-err
returns-then-eq-6-clause-err c =
    subst (λ ws. IfErr c.path_row.result (λ code. IsUnread c.args.version ws code))
    (sym (begins c.args.line.now c.first_word.result.0.now c.as_slice-6.result.now (codes "path") _ c.eq-6.result c.first_word.ensures
    c.eq-6.ensures c.if-eq-6.true c.as_slice-6.ensures)) (c.path_row.ensures.err c.args.version)

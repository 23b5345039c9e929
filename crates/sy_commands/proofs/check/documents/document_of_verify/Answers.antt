use Rattle.std.proofs.Common.{◌∙◌, subst, sym}
use Rattle.sy_fit.specs.Verifying.{IsFault}
use Rattle.sy_commands.proofs.Said.{kept_said, wrong_or_memory, wrong_said}
use Rattle.sy_commands.proofs.check.documents.document_of_verify.Goals as goal

pub returns-in-Ok-clause-ok : goal.returns-in-Ok-clause-ok
returns-in-Ok-clause-ok c =
    kept_said c.args.site.now c.args.certificate.now c.in-Ok.field-0 c.with_document.result c.in-Ok.ensures.fit c.in-Ok.ensures.keeps
    c.with_document.ensures.ok

pub returns-in-Err-Wrong-clause-ok : goal.returns-in-Err-Wrong-clause-ok
returns-in-Err-Wrong-clause-ok c =
    wrong_said c.args.site.now c.args.certificate.now c.in-Err-Wrong.line c.in-Err-Wrong.row c.with_document-in-Err-Wrong.result
    (subst (IsFault c.args.site.now c.args.certificate.now) c.in-Err-Wrong.field-0-is c.in-Err-Wrong.ensures.wrong)
    (λ fit. wrong_or_memory (sym c.in-Err-Wrong.field-0-is ∙ c.in-Err-Wrong.ensures.only fit)) c.with_document-in-Err-Wrong.ensures.ok

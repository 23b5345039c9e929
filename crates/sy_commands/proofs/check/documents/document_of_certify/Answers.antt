use Rattle.std.proofs.Common.{subst}
use Rattle.sy_site.specs.Finding.{IsTrueRefusal}
use Rattle.sy_commands.proofs.Said.{fit_certified, refused_certified}
use Rattle.sy_commands.proofs.check.documents.document_of_certify.Goals as goal

pub returns-in-Ok-clause-ok : goal.returns-in-Ok-clause-ok
returns-in-Ok-clause-ok c =
    fit_certified c.args.site.now c.in-Ok.certificate c.document_of_fit.result c.in-Ok.ensures.fit
    c.document_of_fit.ensures.text c.document_of_fit.ensures.accepted

pub returns-in-Err-Finding-clause-ok : goal.returns-in-Err-Finding-clause-ok
returns-in-Err-Finding-clause-ok c =
    refused_certified c.args.site.now c.in-Err-Finding.finding c.with_document.result
    (subst (IsTrueRefusal c.args.site.now) c.in-Err-Finding.field-0-is c.in-Err-Finding.ensures.found) c.with_document.ensures.ok

use Rattle.std.proofs.Common.{subst}
use Rattle.sy_site.specs.Finding.{IsTrueRefusal}
use Rattle.sy_commands.proofs.Said.{refused_checked}
use Rattle.sy_commands.proofs.check.documents.document_of_check.Goals as goal

pub returns-in-Err-Finding-clause-ok : goal.returns-in-Err-Finding-clause-ok
returns-in-Err-Finding-clause-ok c =
    refused_checked c.args.site.now c.in-Err-Finding.finding c.with_document-in-Err-Finding.result
    (subst (IsTrueRefusal c.args.site.now) c.in-Err-Finding.field-0-is c.in-Err-Finding.ensures.found) c.with_document-in-Err-Finding.ensures.ok

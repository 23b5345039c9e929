use Rattle.std.proofs.Common.{[], ◌∷◌}
use Rattle.sy_places.proofs.Promised.{if_err}
use Rattle.sy_places.proofs.Unread.{unread_no_file}
use Rattle.sy_commands.proofs.verify.read_certificate.Goals as goal

pub returns-in-Ok-clause-unread : goal.returns-in-Ok-clause-unread
returns-in-Ok-clause-unread g c =
    if_err c.certificate_of-read.result c.certificate_of-read.ensures.unread (λ why unread.
    unread_no_file (g.F.Files.may_fail c.args.files.now) (c.args.name.now ∷ []) why unread)

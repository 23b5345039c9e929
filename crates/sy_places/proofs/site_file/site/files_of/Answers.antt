use Rattle.std.proofs.Common.{◌∙◌}
use Rattle.sy_places.proofs.FilesGiven.{names_given}
use Rattle.sy_places.proofs.Promised.{if_ok_both}
use Rattle.sy_places.proofs.site_file.site.files_of.Goals as goal

pub returns-in-Ok-clause-ok : goal.returns-in-Ok-clause-ok
returns-in-Ok-clause-ok g c =
    if_ok_both c.read_files.result c.read_files.ensures.ok c.read_files.ensures.names (λ found known same.
    record { names = names_given found.items ∙ same ∙ c.in-Ok.ensures.names; bytes = known })

use Rattle.std.proofs.Common.{◌≡◌, subst}
use Rattle.sy_site.specs.texts.Files.{file_names}
use Rattle.sy_places.specs.Halts.{IsUnread}
use Rattle.sy_places.proofs.Promised.{if_err}
use Rattle.sy_places.proofs.Unread.{unread_behind}
use Rattle.sy_places.proofs.site_file.site.read_site.Goals as goal

pub returns-in-Ok-clause-unread : goal.returns-in-Ok-clause-unread
returns-in-Ok-clause-unread g c =
    let may_fail = g.F.Files.may_fail c.args.files.now in
    if_err c.site_of.result.site c.site_of.ensures.unread (λ why unread text known.
    let same : c.in-Ok.text.items ≡ text = rw known at c.in-Ok.ensures.ok in
    unread_behind may_fail c.args.name.now (file_names text) why (subst (λ bytes. IsUnread may_fail (file_names bytes) why) same unread))

use Rattle.std.proofs.Common.{◌∷◌, inl, inr}
use Rattle.std.proofs.lemmas.Result.{err_from_is_err_and}
use Rattle.sy_site.specs.texts.Files.{file_names}
use Rattle.sy_places.proofs.Promised.{if_err}
use Rattle.sy_places.proofs.Unread.{any_behind, any_here, unread_any}
use Rattle.sy_commands.proofs.replay.replay_files.Goals as goal

pub returns-in_err-site-clause-unread : goal.returns-in_err-site-clause-unread
returns-in_err-site-clause-unread g c =
    let p = err_from_is_err_and c.from_residual.result c.from_residual.ensures.1 in
    rw (p.1, p.2) (λ is text events known read.
    inl (unread_any (g.F.Files.may_fail c.args.files.now) c.args.site_name.now c.args.events_name.now (file_names text) c.in_err-site.field-0.0
    (c.in_err-site.ensures.unread text known) is))

pub returns-in-Err-Read-clause-unread : goal.returns-in-Err-Read-clause-unread
returns-in-Err-Read-clause-unread g c = λ is text events known read.
    let may_fail = g.F.Files.may_fail c.args.files.now in
    inl (any_behind may_fail c.args.site_name.now (c.args.events_name.now ∷ file_names text)
    (any_here may_fail c.args.events_name.now (file_names text) (c.in-Err-Read.ensures.err c.in-Err-Read.field-0-is)))

pub returns-clause-unread : goal.returns-clause-unread
returns-clause-unread g c =
    if_err c.replay_events.result c.replay_events.ensures.unread (λ why unread is text events known read.
    inr (unread is events (rw read at c.in-Ok.ensures.bytes)))

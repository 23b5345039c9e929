use Rattle.std.proofs.Common.{◌∙◌, ap}
use Rattle.sy_replay.specs.internal.Routes.{entry_in, rows_of}
use Rattle.sy_replay.proofs.Tables.{table_says}
use Rattle.sy_replay.proofs.routes.Routes.target.Goals as goal

pub returns : goal.returns
returns c = rw (← c.self.view_is) (c.entry_in.ensures ∙ ap (λ rows. entry_in (rows_of rows) c.args.link) c.as_slice.ensures.value
    ∙ ap (λ rows. entry_in rows c.args.link) c.self.invariant ∙ table_says c.self.inside.site.now c.args.link)

use Rattle.std.proofs.Common.{sym, ap, ◌∙◌}
use Rattle.sy_cert.specs.declared.kinds.Kind.TheVariants as kinds
use Rattle.sy_cert.specs.Rows.{kind}
use Rattle.sy_cert.proofs.RowLines.{last_is}
use Rattle.sy_cert.proofs.kinds.last_kind.Goals as goal

pub returns-in-len1-up : goal.returns-in-len1-up
returns-in-len1-up c = c.kind_of.ensures ∙ ap kind c.last-item.is ∙ sym (last_is kinds.Cert c.args.rows.now c.last-item.result c.in-len1-up.len_at_least)

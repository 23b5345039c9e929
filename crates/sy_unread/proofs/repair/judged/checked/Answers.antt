use Rattle.std.proofs.Common.{◌+◌, ◌*◌, ◌++◌, ◌∙◌, ap, sym}
use Rattle.sy_wire.specs.Messages.{Said}
use Rattle.sy_wire.proofs.Options.{if_none_then}
use Rattle.sy_unread.proofs.repair.judged.checked.Goals as goal

pub returns-in-Ok-clause-none : goal.returns-in-Ok-clause-none
returns-in-Ok-clause-none c =
    if_none_then c.placed.result c.placed.ensures.none
    (λ never said front is raw fits whole how class.
    let same = sym (c.in-Ok.ensures.only said raw is) in
    never front (whole ∙ ap (λ (m : Said). front ++ m.msg) same) how (ap (λ (m : Said). 8 * m.class.facility + m.class.severity) (sym same) ∙ class))

pub returns-clause-none : goal.returns-clause-none
returns-clause-none c = λ said front is raw fits whole how class. c.in-Err.ensures.only said raw is

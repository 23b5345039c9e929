use Rattle.std.proofs.Common.{◌++◌, ◌∙◌, ap, sym}
use Rattle.std.specs.Prelude.{codes}
use Rattle.sy_wire.specs.Messages.{Said}
use Rattle.sy_unread.proofs.Times.{said_at, some_text, time_message, time_read}
use Rattle.sy_unread.proofs.repair.is_timestamp.Goals as goal

pub returns-in-Ok-clause-yes : goal.returns-in-Ok-clause-yes
returns-in-Ok-clause-yes c = λ empty word.
    let raw = c.in_ok-extend_from_slice-3.ensures.items ∙ ap (λ x. x ++ codes " - - - - -") (c.in_ok-extend_from_slice-2.ensures.items
    ∙ ap (λ x. x ++ c.args.field.now) (c.in_ok-extend_from_slice.ensures.items ∙ ap (λ x. x ++ codes "<13>1 ") c.new-text.ensures.items)) in
    time_read c.args.field.now _ c.in-Ok.ensures.found.0 (c.in-Ok.ensures.found.1 ∙ raw) word

pub returns-in-Ok-clause-no : goal.returns-in-Ok-clause-no
returns-in-Ok-clause-no c = λ some is.
    let raw = c.in_ok-extend_from_slice-3.ensures.items ∙ ap (λ x. x ++ codes " - - - - -") (c.in_ok-extend_from_slice-2.ensures.items
    ∙ ap (λ x. x ++ c.args.field.now) (c.in_ok-extend_from_slice.ensures.items ∙ ap (λ x. x ++ codes "<13>1 ") c.new-text.ensures.items)) in
    let none = c.msg.ensures ∙ ap (λ (m : Said). m.msg) (c.in-Ok.ensures.only (said_at c.args.field.now) (sym raw) (time_message c.args.field.now is)) in
    some_text c.is_empty.result c.msg.result.now c.is_empty.ensures none some

pub returns-clause-no : goal.returns-clause-no
returns-clause-no c = λ never is.
    let raw = c.in_ok-extend_from_slice-3.ensures.items ∙ ap (λ x. x ++ codes " - - - - -") (c.in_ok-extend_from_slice-2.ensures.items
    ∙ ap (λ x. x ++ c.args.field.now) (c.in_ok-extend_from_slice.ensures.items ∙ ap (λ x. x ++ codes "<13>1 ") c.new-text.ensures.items)) in
    c.in-Err.ensures.only (said_at c.args.field.now) (sym raw) (time_message c.args.field.now is)

use Rattle.std.proofs.Common.{◌+◌, ◌*◌, ◌++◌, ◌∙◌, ap, sym}
use Rattle.std.specs.Prelude.{codes}
use Rattle.sy_wire.specs.Messages.{Said}
use Rattle.sy_wire.specs.declared.class.Class.{Class}
use Rattle.sy_unread.proofs.Classes.{front_is, pri_message, said_by, same_number}
use Rattle.sy_unread.proofs.repair.pri_number.Goals as goal

pub returns-in-Ok-clause-class : goal.returns-in-Ok-clause-class
returns-in-Ok-clause-class c = λ text rest n is whole.
    let low = is.1.bound in
    let raw = ap (λ x. x ++ codes "1 - - - - - -") (sym (front_is c.args.bytes.now text rest n is whole)) ∙ sym c.in_ok-pri_text.ensures in
    let same = c.in-Ok.ensures.only (said_by text n low) raw (pri_message text n low is) in
    c.number.ensures.value ∙ ap (λ (k : Class). 8 * k.facility + k.severity) (c.class.ensures ∙ ap (λ (m : Said). m.class) same) ∙ same_number n

pub returns-clause-class : goal.returns-clause-class
returns-clause-class c = λ text rest n is whole.
    let low = is.1.bound in
    let raw = ap (λ x. x ++ codes "1 - - - - - -") (sym (front_is c.args.bytes.now text rest n is whole)) ∙ sym c.in_ok-pri_text.ensures in
    absurd (c.in-Err.ensures.only (said_by text n low) raw (pri_message text n low is))

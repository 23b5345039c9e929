use Rattle.std.proofs.lemmas.Result.{IfOk-weaker}
use Rattle.sy_wire.proofs.Options.{if_none_then}
use Rattle.sy_unread.proofs.FieldLaws.{no_fields, no_record}
use Rattle.sy_unread.proofs.reading.read_record.Goals as goal

pub returns-in_ok-of_fields-in-Some-clause-none : goal.returns-in_ok-of_fields-in-Some-clause-none
returns-in_ok-of_fields-in-Some-clause-none c =
    IfOk-weaker c.checked.result _ _ (λ read p. if_none_then read p (no_record _ _ _ c.in-Some.ensures c.in_ok-of_fields-in-Some.ensures)) c.checked.ensures.none

pub returns-in-None-clause-none : goal.returns-in-None-clause-none
returns-in-None-clause-none c = no_fields _ c.in-None.ensures

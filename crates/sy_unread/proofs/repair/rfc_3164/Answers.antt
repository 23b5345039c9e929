use Rattle.std.proofs.lemmas.Result.{IfOk-weaker}
use Rattle.sy_wire.proofs.Options.{if_none_then}
use Rattle.sy_unread.proofs.Drafts.{no_old_draft}
use Rattle.sy_unread.proofs.repair.rfc_3164.Goals as goal

pub returns-clause-none : goal.returns-clause-none
returns-clause-none c =
    IfOk-weaker c.drafted-2.result _ _ (λ made p. if_none_then made p (no_old_draft _ c.in-Some.head _ c.untimed.ensures.time c.untimed.ensures.head c.untimed.ensures.rest
    c.untimed.ensures.text c.in-Some.ensures.pri c.in-Some.ensures.msgid c.in-Some.ensures.within)) c.drafted-2.ensures.none

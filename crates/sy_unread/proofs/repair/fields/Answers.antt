use Rattle.std.proofs.Common.{◌∙◌, ap, drop, refl}
use Rattle.sy_unread.proofs.HeadTexts.{head_anew}
use Rattle.sy_unread.proofs.NewHeads.{no_new_draft}
use Rattle.sy_unread.proofs.repair.fields.Goals as goal

pub returns-in-Some-2-clause-head : goal.returns-in-Some-2-clause-head
returns-in-Some-2-clause-head c =
    head_anew _ _ _ _ c.in-Some.ensures.begins c.in_ok-how.ensures.head (rw c.in-Some-2.is at c.in_ok-made.ensures.head)

pub returns-in-Some-3-clause-head : goal.returns-in-Some-3-clause-head
returns-in-Some-3-clause-head c =
    head_anew _ _ _ _ c.in-Some.ensures.begins c.in_ok-how.ensures.head (rw c.in-Some-3.is at c.in_ok-made-2.ensures.head)

pub returns-in_default-clause-none : goal.returns-in_default-clause-none
returns-in_default-clause-none c = λ head time rest is anew. absurd (c.in_default.ensures.none head rest is)

pub returns-in-None-2-clause-none : goal.returns-in-None-2-clause-none
returns-in-None-2-clause-none c =
    no_new_draft _ c.in-Some.came _ c.in-Some.ensures.read c.in_ok-how.ensures.head c.in_ok-how.ensures.time
    (c.from-rest.ensures ∙ ap (λ n. drop n c.args.bytes.now) c.in_ok-how.ensures.end) refl refl (rw c.in-None-2.is at c.in_ok-made-2.ensures.none)

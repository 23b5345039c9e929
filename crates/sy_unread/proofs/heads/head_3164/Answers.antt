use Rattle.std.proofs.Common.{ℕ, List, ◌∙◌, ap, sym}
use Rattle.std.proofs.lemmas.Option.{none-some, same_Some}
use Rattle.sy_unread.specs.Repairs.{time_at}
use Rattle.sy_unread.specs.Words.{word_at}
use Rattle.sy_unread.proofs.OldHeads.{behind_pri}
use Rattle.sy_unread.proofs.heads.head_3164.Goals as goal

pub returns-in_default-clause-none : goal.returns-in_default-clause-none
returns-in_default-clause-none c = λ head. c.in_default.ensures.none head.pri head.rest head.number head.is_pri head.whole

pub returns-in_default-time-clause-none : goal.returns-in_default-time-clause-none
returns-in_default-time-clause-none c = λ head.
    none-some head.time (sym c.in_default-time.ensures.first ∙ ap time_at (c.from.ensures ∙ behind_pri _ _ head c.in-Some.ensures.value) ∙ head.is_time)

pub returns-in_default-word-clause-none : goal.returns-in_default-word-clause-none
returns-in_default-word-clause-none c = λ head.
    let time = same_Some _ _ (sym c.in-Some-time.ensures.first ∙ ap time_at (c.from.ensures ∙ behind_pri _ _ head c.in-Some.ensures.value) ∙ head.is_time) in
    none-some head.host (sym c.in_default-word.ensures.first ∙ ap (λ (t : List ℕ × List ℕ). word_at t.1) time ∙ head.is_host)

use Rattle.std.proofs.Common.{length, sym, ap, ◌∙◌, arith}
use Rattle.sy_board.proofs.relay.Firsts.{front_read, IsRead, next_by, no_next}
use Rattle.sy_board.proofs.relay.board.jobs.next_of.Goals as goal

pub returns-in_err-occurrence-clause-none : goal.returns-in_err-occurrence-clause-none
returns-in_err-occurrence-clause-none c =
    let read : IsRead c.args.entries.now c.in_ok-first.first.now c.list.result c.due-due.result =
    record { some = omega (arith, ap length c.in_ok-first.ensures.some); first = (front_read _ _ c.in_ok-first.ensures.some); list_is = c.list.ensures; due_is = c.due-due.ensures; work = omega arith; fits = omega arith } in
    rw c.from_residual-in_err-occurrence.ensures (no_next c.args.plan.now c.args.entries.now c.in_ok-first.first.now c.list.result c.due-due.result read (sym c.occurrence_of.ensures ∙ c.in_err-occurrence.was))

pub returns-clause-some : goal.returns-clause-some
returns-clause-some c =
    let read : IsRead c.args.entries.now c.in_ok-first.first.now c.list.result c.due-due.result =
    record { some = omega (arith, ap length c.in_ok-first.ensures.some); first = (front_read _ _ c.in_ok-first.ensures.some); list_is = c.list.ensures; due_is = c.due-due.ensures; work = omega arith; fits = omega arith } in
    next_by c.args.plan.now c.args.entries.now c.in_ok-first.first.now c.list.result c.due-due.result c.in_ok-occurrence.occurrence read (sym c.occurrence_of.ensures ∙ c.in_ok-occurrence.was)

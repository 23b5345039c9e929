use Rattle.std.proofs.Common.{arith, sym}
use Rattle.sy_unread.proofs.OldHeads.{pri_value, pri_within}
use Rattle.sy_unread.proofs.heads.pri.Goals as goal

pub returns-then-length-lt3-clause-none : goal.returns-then-length-lt3-clause-none
returns-then-length-lt3-clause-none c = λ text rest n is whole. let within = pri_within _ text rest n is whole in omega (arith, within.0, c.pri_length-length.ensures.value, c.if-length-lt3.true)

pub returns-then-length-bytes-clause-none : goal.returns-then-length-bytes-clause-none
returns-then-length-bytes-clause-none c = λ text rest n is whole. let within = pri_within _ text rest n is whole in omega (arith, within.1, c.pri_length-length.ensures.value, c.if-length-bytes.true)

pub returns-else-value-lt192-clause-none : goal.returns-else-value-lt192-clause-none
returns-else-value-lt192-clause-none c = λ text rest n is whole.
    let low = pri_value _ text rest n c.in-Some.value is whole (rw (← c.pri_length-length.ensures.value) (sym c.in-Some.ensures)) in
    omega (arith, low, c.if-value-lt192.false)

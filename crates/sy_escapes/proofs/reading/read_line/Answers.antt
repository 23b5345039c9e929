use Rattle.std.proofs.Common.{rules, ◌≡◌, ◌++◌, ◌∷◌, [], arith}
use Rattle.std.specs.Prelude.{None}
use Rattle.sy_escapes.specs.internal.Firsts.{first_of, found}
use Rattle.sy_escapes.proofs.Exact.{empty}
use Rattle.sy_escapes.proofs.Readings.{no_more, nothing_reads, reads_more}
use Rattle.sy_escapes.proofs.reading.read_line.Goals as goal

pub returns-in_default-clause-none : goal.returns-in_default-clause-none
returns-in_default-clause-none c =
    let none : first_of c.loop-rest.rest.now ≡ None = search rules in
    let some : (c.loop-rest.rest.now ≡ []) → ⊥ = search (rules, arith) in
    nothing_reads _ _ _ c.loop-rest.invariant none some

pub loop-rest-preserved : goal.loop-rest-preserved
loop-rest-preserved c =
    let first : first_of c.loop-rest.rest.now ≡ found c.in-Some.byte c.in-Some.later.now = search rules in
    let pushed : c.push.new.self.items ≡ c.loop-rest.bytes.items ++ c.in-Some.byte ∷ [] = search rules in
    reads_more _ _ _ _ _ _ pushed c.loop-rest.invariant first

pub returns-clause-some : goal.returns-clause-some
returns-clause-some c = no_more _ _ _ c.loop-rest.invariant (empty _ (search (rules, arith)))

use Rattle.std.proofs.Common.{◌++◌, ap, sym, ◌∙◌, map}
use Rattle.std.specs.Fmt.{decimal}
use Rattle.sy_cert.proofs.RowLines.{no_occurrences, one_occurrence}
use Rattle.sy_cert.proofs.reading.occurrences.Goals as goal

pub loop-word-preserved : goal.loop-word-preserved
loop-word-preserved c =
    let n = c.in-Some-number.ensures.some in
    one_occurrence c.loop-word.occurrences c.push.new.self c.in-Some-number.occurrence c.in-Some.word.now _ _ _ c.loop-word.invariant.0 n.0 n.1
    c.in-Some.ensures.some c.loop-word.invariant.1 c.in-Ok.ensures.ok

pub returns-in-None-clause-err : goal.returns-in-None-clause-err
returns-in-None-clause-err c ns are e =
    no_occurrences (map decimal c.loop-word.occurrences) c.in-Some.word.now _ ns
    (e ∙ sym c.loop-word.invariant.1 ∙ ap (λ ws. map decimal c.loop-word.occurrences ++ ws) c.in-Some.ensures.some) are c.in-None.ensures.none

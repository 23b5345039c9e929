use Rattle.std.proofs.Common.{◌≡◌, ◌+◌, ◌++◌, [], ◌∷◌, suc, ◌∙◌, ap, arith, rules}
use Rattle.sy_journal.specs.Frames.{blank}
use Rattle.sy_journal.proofs.Fronts.{blank_more}
use Rattle.sy_journal.proofs.reading.blank_bytes.Goals as goal

pub loop-preserved : goal.loop-preserved
loop-preserved c =
    let with_batch : c.push.new.self.items ≡ c.loop.bytes.items ++ 0 ∷ [] = search rules in
    let next : suc c.loop.counter ≡ c.loop.counter + 1 = omega arith in
    with_batch ∙ ap (λ l. l ++ 0 ∷ []) c.loop.invariant ∙ blank_more c.loop.counter ∙ ap blank next

use Rattle.sy_waits.proofs.waits.jam_of.Goals as goal

pub returns-then-all_fit : goal.returns-then-all_fit
returns-then-all_fit c = λ none. (c.as_slice-2.result.now, c.all_fit.ensures c.if-all_fit.true)

use Rattle.sy_waits.proofs.waits.own_round_of.Goals as goal

pub returns-then-group_fits : goal.returns-then-group_fits
returns-then-group_fits c = λ none. (c.as_slice-3.result.now, c.group_fits.ensures c.if-group_fits.true)

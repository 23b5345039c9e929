use Rattle.sy_waits.proofs.waits.round_in.Goals as goal

pub returns-then-group_fits : goal.returns-then-group_fits
returns-then-group_fits c = λ none. (c.args.numbers.now, c.group_fits.ensures c.if-group_fits.true)

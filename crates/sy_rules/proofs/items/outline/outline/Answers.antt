use Rattle.std.proofs.Common.{arith}
use Rattle.sy_rules.proofs.lemmas.items.PlacedItems.{outlined}
use Rattle.sy_rules.proofs.items.outline.outline.Goals as goal

pub returns-clause-items : goal.returns-clause-items
returns-clause-items c = outlined c.loop-rest.found.items c.loop-rest.rest.now c.args.script.now.tops (omega (arith, c.in_default.len_below)) c.loop-rest.invariant

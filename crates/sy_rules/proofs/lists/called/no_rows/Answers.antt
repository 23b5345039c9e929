use Rattle.std.proofs.Common.{length, sym, subst}
use Rattle.sy_rules.specs.internal.FlowWalk.{IsKnownRow}
use Rattle.sy_rules.proofs.lemmas.lists.KnownRows.{known_more, no_known_row}
use Rattle.sy_rules.proofs.lists.called.no_rows.Goals as goal

pub loop-table-preserved : goal.loop-table-preserved
loop-table-preserved c = λ tests lists classes.
    let list = length c.loop-table.rows.items in
    known_more tests lists classes c.loop-table.rows.items c.push.new.self.items c.new.result (c.loop-table.invariant tests lists classes)
    (subst (IsKnownRow tests lists classes list) (sym c.new.ensures) (no_known_row tests lists classes list)) c.in_ok-push.ensures.items

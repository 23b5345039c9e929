use Rattle.std.proofs.Common.{rules}
use Rattle.sy_runtime.proofs.Taken.{back}
use Rattle.sy_runtime.proofs.connection.taking.take_item.Goals as goal

pub returns-in-Err-clause-kept : goal.returns-in-Err-clause-kept
returns-in-Err-clause-kept c = λ read left reported later h.
    back read c.args.end.now reported c.args.item c.in-Message.node c.in-Err.node later left (search rules) (search rules) h

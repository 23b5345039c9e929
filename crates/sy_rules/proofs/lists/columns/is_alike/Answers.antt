use Rattle.std.proofs.Common.{sym, ◌∙◌}
use Rattle.sy_rules.proofs.lists.columns.is_alike.Goals as goal

pub returns-then-is_free : goal.returns-then-is_free
returns-then-is_free c = λ free. c.is_free.ensures free c.args.one ∙ sym (c.is_free.ensures free c.args.other)

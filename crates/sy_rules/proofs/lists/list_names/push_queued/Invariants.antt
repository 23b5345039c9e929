use Rattle.std.proofs.Common.{◌≡◌, ◌++◌, drop}
use Rattle.sy_rules.specs.parts.Plans.{queued_names}
use Rattle.sy_rules.proofs.lists.list_names.push_queued.Given as goal

-- the names so far, and those of the rest
abbrev pub invariant-loop-action : goal.invariant-loop-action
invariant-loop-action l = l.names.items ++ queued_names l.number (drop l.action-index l.actions) ≡ l.initial.names.items ++ queued_names 0 l.actions

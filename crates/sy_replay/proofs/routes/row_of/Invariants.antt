use Rattle.std.proofs.Common.{◌≡◌, ◌≤◌, length}
use Rattle.sy_site.specs.Sites.{plan_at}
use Rattle.sy_replay.specs.internal.Routes.{first_of, target_at}
use Rattle.sy_replay.proofs.routes.row_of.Given as goal

abbrev pub invariant-loop-action : goal.invariant-loop-action
invariant-loop-action l = record {
  made : l.row.items ≡ first_of (target_at l.fn.site l.fn.relay) l.action;
  all : l.actions ≡ length (plan_at l.fn.site l.fn.relay).actions;
  within : l.action ≤ l.actions;
}

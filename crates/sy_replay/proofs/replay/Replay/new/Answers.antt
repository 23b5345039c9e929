use Rattle.std.proofs.Common.{subst, sym}
use Rattle.sy_replay.specs.internal.States.{AreOf}
use Rattle.sy_replay.proofs.Replays.{opened_of, opened_reached, opened_state}
use Rattle.sy_replay.proofs.replay.Replay.new.Goals as goal

pub invariant_of-result : goal.invariant_of-result
invariant_of-result c =
    let site = c.args.site.now in
    let parts = c.in_ok-parts.ensures in
    rw c.in_ok-routes.ensures (
      subst (AreOf site) (sym parts) (opened_of site),
      rw (parts, c.new.ensures.items, c.new-2.ensures.items, c.new-3.ensures.items) (opened_reached site),
    )

pub returns : goal.returns
returns c = (
  c.in_ok-routes.ensures,
  c.in_ok-parts.ensures,
  rw (c.in_ok-parts.ensures, c.new.ensures.items, c.new-2.ensures.items, c.new-3.ensures.items) (opened_state c.args.site.now),
)

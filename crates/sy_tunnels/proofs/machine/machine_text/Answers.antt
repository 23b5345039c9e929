use Rattle.std.proofs.lemmas.List.{get_or_default}
use Rattle.sy_tunnels.specs.Lines.{line_feed}
use Rattle.sy_tunnels.specs.Tunnels.{machine_line}
use Rattle.sy_tunnels.proofs.Joining.{joined_next}
use Rattle.sy_tunnels.proofs.machine.machine_text.Goals as goal

pub loop-line-preserved : goal.loop-line-preserved
loop-line-preserved c =
    let so = c.loop-line.invariant in (
      so.0,
      so.1,
      joined_next machine_line (λ line. line.now) line_feed (machine_line so.0) _ c.loop-line.line-index _ c.loop-line.machine.items _ _ c.loop-line-test.true
          (get_or_default _ _ _ _ c.loop-line-test.true)
          so.2 c.in_ok-push.ensures.items c.in_ok-append_line-2.ensures,
    )

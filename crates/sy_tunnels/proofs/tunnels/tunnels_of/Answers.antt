use Rattle.std.proofs.Common.{arith, [], sym, subst, inl, inr, ⊎_elim}
use Rattle.sy_tunnels.specs.Tunnels.{AreTunnels}
use Rattle.sy_tunnels.proofs.Reading.{fault_here, tunnels_next}
use Rattle.sy_tunnels.proofs.tunnels.tunnels_of.Goals as goal

pub loop-at-init : goal.loop-at-init
loop-at-init c = (c.in-Ok.ensures, subst (AreTunnels c.args.site.now []) (sym c.new-tunnels.ensures.items) AreTunnels.none)

pub returns-in-Err-clause-err : goal.returns-in-Err-clause-err
returns-in-Err-clause-err c =
    ⊎_elim (λ none. inl none)
    (λ faulty. inr
    (fault_here (λ line. line.now) c.in-Ok.lines.items c.args.site.now c.args.text.now c.loop-at.at c.index.result.now c.loop-at.tunnels.items
    c.in-Err.fault (omega (arith, c.loop-at-test.true, c.len-at-end.ensures)) (sym c.index.ensures) c.loop-at.invariant.0 c.loop-at.invariant.1 faulty))
    c.in-Err.ensures.err

pub loop-at-preserved : goal.loop-at-preserved
loop-at-preserved c = (
  c.loop-at.invariant.0,
  tunnels_next (λ line. line.now) c.in-Ok.lines.items c.args.site.now c.loop-at.at c.index.result.now c.loop-at.tunnels.items
      c.push_line.new.tunnels.items (omega (arith, c.loop-at-test.true, c.len-at-end.ensures)) (sym c.index.ensures) c.loop-at.invariant.1 c.in-Ok-push_line.ensures.ok,
)

use Rattle.std.proofs.Common.{refl, sym, subst}
use Rattle.sy_runtime.specs.Connections.{Between, Serves, since}
use Rattle.sy_runtime.proofs.Turning.{first, not_read}
use Rattle.sy_runtime.proofs.relay.Relay.turns.Goals as goal

pub loop-init : goal.loop-init
loop-init g c = record {
  next = tt;
  finite = tt;
  serves =
      subst
      (λ (b : Between). Serves (g.S.Source.remaining c.args.reader.now) (g.S.Source.remaining c.args.reader.now) b.end (since (g.U.UnreadSink.kept c.args.unread.now) (g.U.UnreadSink.kept c.args.unread.now)) b.left)
      (sym c.new-connection.ensures) (first _ _);
  faults = refl;
}

pub returns-in-NotRead : goal.returns-in-NotRead
returns-in-NotRead g c =
    not_read _ _ _ _ _ _ _ _ _ _ _ _ c.ended_so.ensures.answer c.ended_so.ensures.end c.ended_so.ensures.items c.ended_so.ensures.left
    (c.in-NotRead.ensures.kept _ _ c.loop.invariant.serves) c.loop.invariant.faults c.in-NotRead.ensures.fails

use Rattle.std.proofs.Common.{ℕ, sym, ap, subst, ◌≡◌, ◌∙◌}
use Rattle.sy_wire.specs.Frames.{Held}
use Rattle.sy_runtime.specs.Connections.{Between, Connects, Serves, rest_of, since}
use Rattle.sy_runtime.specs.Turns.{TurnIs}
use Rattle.sy_runtime.proofs.connection.turns.turn.Goals as goal
use Rattle.sy_runtime.proofs.connection.turns.turn.Goals.{in-GoesOn, in-NotRead, in-Over}

pub returns-clause-kept : goal.returns-clause-kept
returns-clause-kept g c = λ ahead before s.
    let end_is : c.args.connection.end ≡ c.connection.inside.end = sym (ap (λ (b : Between). b.end) c.connection.view_is) in
    let left_is : c.args.connection.left ≡ c.swap_room.new.framer.left = sym (ap (λ (b : Between). b.left) c.connection.view_is) ∙ sym (ap (λ (h : Held). h.left) c.swap_room.ensures.framer) in
    let begun = subst (λ l. Serves ahead (g.S.Source.remaining c.args.source.now) c.connection.inside.end (since before (g.U.UnreadSink.kept c.args.sink.now)) l) left_is
    (subst (λ e. Serves ahead (g.S.Source.remaining c.args.source.now) e (since before (g.U.UnreadSink.kept c.args.sink.now)) c.args.connection.left) end_is s) in
    elim c.match-read_and_take.branch [
      | in-GoesOn w ↦ subst (λ t. TurnIs t ahead (g.S.Source.remaining c.read_and_take.new.source) (since before (g.U.UnreadSink.kept c.read_and_take.new.sink))) (sym w.result-is)
          (w.in-GoesOn.ensures.kept ahead before begun)
      | in-NotRead w ↦ subst (λ t. TurnIs t ahead (g.S.Source.remaining c.read_and_take.new.source) (since before (g.U.UnreadSink.kept c.read_and_take.new.sink))) (sym w.result-is)
          (w.in-NotRead.ensures.kept ahead before begun)
      | in-Over w ↦
          let same = w.take_batch-items.ensures.items in
          subst (λ t. TurnIs t ahead (g.S.Source.remaining c.read_and_take.new.source) (since before (g.U.UnreadSink.kept c.read_and_take.new.sink))) (sym w.result-is)
          (subst
          (λ items. (failed failed' : ℕ) → Connects w.in-Over.answer c.read_and_take.new.end (since before (g.U.UnreadSink.kept c.read_and_take.new.sink)) (rest_of items w.shrink_to_fit.new.self.left) ahead (g.S.Source.remaining c.read_and_take.new.source) failed failed')
          (sym same)
          (subst
          (λ (h : Held). (failed failed' : ℕ) → Connects w.in-Over.answer c.read_and_take.new.end (since before (g.U.UnreadSink.kept c.read_and_take.new.sink)) (rest_of c.read_and_take.new.intake.batch.items h.left) ahead (g.S.Source.remaining c.read_and_take.new.source) failed failed')
          (sym w.shrink_to_fit.ensures) (w.in-Over.ensures.kept ahead before begun)))
    ]

use Rattle.std.proofs.Common.{◌≡◌, ◌+◌, ◌∷◌, ◌∙◌, ap, rules, subst, drop}
use Rattle.std.proofs.lemmas.List.{drop_more}
use Rattle.std.specs.Io.KnownBytes.{Appends}
use Rattle.sy_wire.specs.Frames.{frame, stream}
use Rattle.sy_outlets.specs.Left.{texts_of}
use Rattle.sy_outlets.proofs.LeftFrames.{held_here, held_there}
use Rattle.sy_outlets.proofs.leaving.left.write_held.Goals as goal
use Rattle.sy_outlets.proofs.leaving.left.write_held.Goals.{then-input+in_ok-write_frame, else-input}

pub loop-entry-preserved : goal.loop-entry-preserved
loop-entry-preserved g c = λ end later.
    let at : drop c.loop-entry.entry-index c.args.entries.now ≡ c.entry-item.result ∷ drop (c.loop-entry.entry-index + 1) c.args.entries.now =
    drop_more c.args.entries.now c.loop-entry.entry-index c.entry-item.result (search rules)
    ∙ ap (λ x. x ∷ drop (c.loop-entry.entry-index + 1) c.args.entries.now) (search rules) in
    c.loop-entry.invariant end
    (elim c.if-input.branch [
      | then-input+in_ok-write_frame w ↦
          held_here _ _ end c.args.input c.entry-item.result (drop (c.loop-entry.entry-index + 1) c.args.entries.now)
          (drop c.loop-entry.entry-index c.args.entries.now) at (search rules) (search rules)
          (subst (λ x. Appends (g.W.Sink.contents x) end (stream (texts_of c.args.input (drop (c.loop-entry.entry-index + 1) c.args.entries.now))))
          w.writer-is later)
      | else-input w ↦
          held_there _ end c.args.input c.entry-item.result (drop (c.loop-entry.entry-index + 1) c.args.entries.now)
          (drop c.loop-entry.entry-index c.args.entries.now) at (search rules)
          (subst (λ x. Appends (g.W.Sink.contents x) end (stream (texts_of c.args.input (drop (c.loop-entry.entry-index + 1) c.args.entries.now))))
          w.writer-is later)
    ])

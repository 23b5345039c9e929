use Rattle.std.proofs.Common.{rules, subst}
use Rattle.std.specs.Io.KnownBytes.{Appends}
use Rattle.sy_wire.specs.Frames.{frame}
use Rattle.sy_runtime.specs.Connections.{text_of}
use Rattle.sy_outlets.proofs.LeftFrames.{items_at_front}
use Rattle.sy_outlets.proofs.leaving.left.write_items.Goals as goal

pub loop-item-preserved-in_ok-write_frame-2 : goal.loop-item-preserved-in_ok-write_frame-2
loop-item-preserved-in_ok-write_frame-2 g c = λ end later.
    let one : Appends (g.W.Sink.contents c.loop-item.writer) (g.W.Sink.contents c.write_frame.new.writer) (frame (text_of c.in-Some.item)) =
    subst (λ t. Appends (g.W.Sink.contents c.loop-item.writer) (g.W.Sink.contents c.write_frame.new.writer) (frame t)) c.text.ensures
    c.in_ok-write_frame.ensures in
    c.loop-item.invariant end (items_at_front _ _ end c.loop-item.items.items c.in-Some.item c.pop_front.new.self.items (search rules) one later)

pub loop-item-preserved : goal.loop-item-preserved
loop-item-preserved g c = λ end later.
    let one : Appends (g.W.Sink.contents c.loop-item.writer) (g.W.Sink.contents c.write_frame.new.writer) (frame (text_of c.in-Some.item)) =
    subst (λ t. Appends (g.W.Sink.contents c.loop-item.writer) (g.W.Sink.contents c.write_frame.new.writer) (frame t)) c.text.ensures
    c.in_ok-write_frame.ensures in
    c.loop-item.invariant end (items_at_front _ _ end c.loop-item.items.items c.in-Some.item c.pop_front.new.self.items (search rules) one later)

use Rattle.std.proofs.Common.{rules, ◌≡◌, ◌+◌, ◌++◌, map, take, ap, sym, ◌∙◌, length, arith}
use Rattle.std.proofs.lemmas.List.{length-map}
use Rattle.std.specs.Arc.{arc_value}
use Rattle.sy_wire.specs.Messages.{Said}
use Rattle.sy_relp.specs.Frames.{frame, stream}
use Rattle.sy_relp.specs.Answers.{syslog}
use Rattle.sy_relp.specs.Exchanges.{numbered}
use Rattle.sy_relp.proofs.Written.{bytes_next, each_next, next_of}
use Rattle.sy_relp.proofs.write.gather.Goals as goal

pub loop-count-preserved : goal.loop-count-preserved
loop-count-preserved c =
    let k = c.loop-count.count in
    let ys = map arc_value c.args.messages.now in
    let m = arc_value c.index-messages-count.result in
    let added : c.add_message.new.room.items ≡ c.loop-count.room.items ++ frame (syslog (c.args.next + k) c.raw-raw.result.now) = search rules in
    let raw : c.raw-raw.result.now ≡ m.raw = c.raw-raw.ensures ∙ ap (λ (s : Said). s.raw) c.deref-in-loop-count.ensures in
    let next = next_of arc_value c.args.messages.now k _ c.if-count-messages.true c.index-messages-count.is in
    record {
      few = omega (arith, c.loop-count-test.true);
      within = omega (arith, c.if-count-messages.true);
      each = each_next c.args.next ys k m (omega (arith, c.if-count-messages.true, length-map c.args.messages.now (λ x. arc_value x))) next (omega (arith, c.requires, c.loop-count-test.true)) (omega (arith, c.if-raw-gt-MAX_FRAME.false, ap length raw)) c.loop-count.invariant.each;
      frames = added ∙ ap (λ x. x ++ frame (syslog (c.args.next + k) c.raw-raw.result.now)) c.loop-count.invariant.frames ∙ ap (λ r. stream (numbered c.args.next (take k ys)) ++ frame (syslog (c.args.next + k) r)) raw
          ∙ sym (bytes_next c.args.next ys k m (omega (arith, c.if-count-messages.true, length-map c.args.messages.now (λ x. arc_value x))) next);
    }

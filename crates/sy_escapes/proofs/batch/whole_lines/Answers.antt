use Rattle.std.proofs.Common.{rules, ◌≡◌, drop, map, arith}
use Rattle.std.proofs.lemmas.List.{length-map}
use Rattle.std.specs.Arc.{arc_value}
use Rattle.sy_escapes.specs.internal.Lines.{line_len}
use Rattle.sy_escapes.proofs.Lines.{next_at, next_len, size_next}
use Rattle.sy_escapes.proofs.batch.whole_lines.Goals as goal

pub loop-whole-preserved : goal.loop-whole-preserved
loop-whole-preserved c =
    let ys = map arc_value c.args.messages.now in
    let k = c.loop-whole.whole in
    let next = next_at ys k (omega (arith, c.loop-whole-test.true, length-map c.args.messages.now (λ m. arc_value m))) in
    let len : c.line_len-len.result ≡ line_len (drop c.loop-whole.start c.args.text.now) = search rules in
    let size = next_len ys c.args.text.now k c.loop-whole.start next.0 c.requires.lines next.1 c.loop-whole.invariant.start in
    let more = size_next ys k c.loop-whole.start next.0 next.1 c.loop-whole.invariant.start in
    record {
      within = omega (arith, c.loop-whole-test.true);
      bound = omega (arith, c.if-reached-start.false, c.loop-whole.invariant.bound);
      start = omega (arith, more, size, len);
    }

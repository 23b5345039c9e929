use Rattle.std.proofs.Common.{rules, ◌≡◌, ◌++◌, map, take, ap, sym, ◌∙◌, arith}
use Rattle.std.specs.Arc.{arc_value}
use Rattle.sy_wire.specs.Messages.{Said}
use Rattle.sy_actions.proofs.OneByOne.{next_of}
use Rattle.sy_escapes.specs.Escapes.{line_of_bytes, lines_of}
use Rattle.sy_escapes.proofs.Lines.{lines_next}
use Rattle.sy_escapes.proofs.batch.Batch.gather.Goals as goal

pub loop-count-preserved : goal.loop-count-preserved
loop-count-preserved c =
    let k = c.loop-count.count in
    let ys = map arc_value c.args.messages.now in
    let added : c.push_line.new.self.text.items ≡ c.loop-count.self.text.items ++ line_of_bytes c.raw.result.now = search rules in
    let raw : c.raw.result.now ≡ (arc_value c.index-messages-count.result).raw = c.raw.ensures ∙ ap (λ (m : Said). m.raw) c.deref.ensures in
    let next = next_of arc_value c.args.messages.now k _ c.loop-count-test.true c.index-messages-count.is in
    record {
      within = omega (arith, c.loop-count-test.true);
      lines = added ∙ ap (λ x. x ++ line_of_bytes c.raw.result.now) c.loop-count.invariant.lines
          ∙ ap (λ r. lines_of (take k ys) ++ line_of_bytes r) raw ∙ sym (lines_next ys k _ next);
      out = c.push_line.ensures.out ∙ c.loop-count.invariant.out;
    }

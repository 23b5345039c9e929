use Rattle.std.proofs.Common.{inl, inr, rules, ◌≡◌, ◌≤◌, ◌+◌, ◌++◌, ◌∙◌, ap, sym, length, drop, map, take, arith}
use Rattle.std.proofs.lemmas.List.{drop_all, drop_at, length-map, length-take}
use Rattle.std.specs.Arc.{arc_value}
use Rattle.sy_escapes.specs.Escapes.{line_of, lines_of}
use Rattle.sy_escapes.specs.internal.Lines.{line_len}
use Rattle.sy_escapes.proofs.Lines.{lines_next, next_at, next_len, rejoined, text_and_next, text_so_far}
use Rattle.sy_escapes.proofs.batch.Batch.cut.Goals.{else-self-start, then-self-start}
use Rattle.sy_escapes.proofs.batch.Batch.cut.Goals as goal

pub returns : goal.returns
returns c =
    let ys = map arc_value c.args.messages.now in
    let text = c.args.self.now.text.items in
    let k = c.whole_lines-whole.result.0 in
    let start = c.whole_lines-whole.result.1 in
    let out = c.args.self.now.out in
    let next = next_at ys k (omega (arith, c.whole_lines-whole.ensures.next, length-map c.args.messages.now (λ m. arc_value m))) in
    let size = next_len ys text k start next.0 c.requires.lines next.1 c.whole_lines-whole.ensures.start in
    let value : c.as_slice.result.now ≡ text = search rules in
    let kept : c.truncate.new.self.items ≡ take (start + c.if-self-start.len) text = search rules in
    record {
      within = omega (arith, c.whole_lines-whole.ensures.next, length-map c.args.messages.now (λ m. arc_value m));
      next = next.0;
      is_next = next.1;
      parts = elim c.if-self-start.branch [
        | then-self-start w ↦
            let none : c.if-self-start.len ≡ 0 = search rules in
            let same : out ≡ start = search rules in
            inl (
              drop_all out c.truncate.new.self.items (omega (arith, none, same, ap length kept, length-take (start + c.if-self-start.len) text)),
              ap (λ n. take n text) same ∙ text_so_far ys text k start next.0 c.requires.lines next.1 c.whole_lines-whole.ensures.start,
            )
        | else-self-start w ↦
            let len : c.if-self-start.len ≡ length (line_of next.0) = search rules in
            let all = text_and_next ys text k start c.if-self-start.len next.0 c.requires.lines next.1 c.whole_lines-whole.ensures.start len in
            let within : out ≤ start + c.if-self-start.len = omega (arith, c.whole_lines-whole.ensures.last, ap (λ t. line_len (drop start t)) value, size, len) in
            inr (
              ap (drop start) (kept ∙ all) ∙ drop_at (lines_of (take k ys)) (line_of next.0) start (sym c.whole_lines-whole.ensures.start),
              ap (λ t. take out text ++ drop out t) kept ∙ rejoined out (start + c.if-self-start.len) text _ within (all ∙ sym (lines_next ys k next.0 next.1)),
            )
      ];
    }

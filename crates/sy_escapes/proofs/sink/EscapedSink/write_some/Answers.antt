use Rattle.std.proofs.Common.{rules, ◌≡◌, ◌≤◌, ◌∙◌, ap, sym, subst, length, map, take, arith}
use Rattle.std.proofs.lemmas.List.{length-map, take-map}
use Rattle.std.specs.Arc.{arc_value}
use Rattle.sy_escapes.specs.Escapes.{lines_of}
use Rattle.sy_escapes.specs.internal.Lines.{IsCut}
use Rattle.sy_escapes.proofs.Runs.{all_out, cut_out, no_room}
use Rattle.sy_escapes.proofs.sink.EscapedSink.write_some.Goals as goal

pub returns-then-count-eq0-clause-run : goal.returns-then-count-eq0-clause-run
returns-then-count-eq0-clause-run g c =
    let ys = map arc_value c.args.messages.now in
    let zero : c.gather-count.result ≡ 0 = search rules in
    let none : c.gather-count.new.self.text.items ≡ lines_of (take 0 ys) = c.gather-count.ensures.lines ∙ ap (λ n. lines_of (take n ys)) zero in
    no_room _ _ _ ys (omega (arith, c.requires.some, length-map c.args.messages.now (λ m. arc_value m))) c.requires.nothing none

pub cut-requires-clause-lines : goal.cut-requires-clause-lines
cut-requires-clause-lines g c =
    let same : c.write.new.self.text.items ≡ c.gather-count.new.self.text.items = ap (λ s. s.text.items) c.write.ensures.same in
    let front : c.split_at.result.0.now ≡ take c.gather-count.result c.args.messages.now = search rules in
    same ∙ c.gather-count.ensures.lines ∙ ap lines_of (take-map (λ m. arc_value m) c.gather-count.result c.args.messages.now ∙ ap (λ l. map arc_value l) (sym front))

pub returns-in-Ok-clause-run : goal.returns-in-Ok-clause-run
returns-in-Ok-clause-run g c =
    all_out _ _ c.args.self.now.batch c.gather-count.new.self c.write.new.self _ _ c.requires.nothing c.gather-count.ensures.out c.gather-count.ensures.lines (ap (λ s. s.text.items) c.write.ensures.same) (search rules) c.write.ensures.bytes

pub returns-in-Err-clause-run : goal.returns-in-Err-clause-run
returns-in-Err-clause-run g c =
    let front : c.split_at.result.0.now ≡ take c.gather-count.result c.args.messages.now = search rules in
    let some : map arc_value c.split_at.result.0.now ≡ take c.gather-count.result (map arc_value c.args.messages.now) =
    ap (λ l. map arc_value l) front ∙ sym (take-map (λ m. arc_value m) c.gather-count.result c.args.messages.now) in
    let few : c.gather-count.result ≤ length (map arc_value c.args.messages.now) = omega (arith, c.gather-count.ensures.within, length-map c.args.messages.now (λ m. arc_value m)) in
    cut_out _ _ c.args.self.now.batch c.gather-count.new.self c.write.new.self c.cut.new.self _ _ _ few c.requires.nothing c.gather-count.ensures.out c.gather-count.ensures.lines (ap (λ s. s.text.items) c.write.ensures.same) c.write.ensures.bytes
    (subst (λ l. IsCut l c.write.new.self c.cut.new.self c.cut.result) some c.cut.ensures)

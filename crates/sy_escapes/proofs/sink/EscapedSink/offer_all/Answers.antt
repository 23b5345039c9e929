use Rattle.std.proofs.Common.{rules, ◌≡◌, ◌≤◌, ◌∙◌, ap, sym, subst, drop, length, map, arith}
use Rattle.std.proofs.lemmas.List.{drop-map, length-map}
use Rattle.std.specs.Arc.{arc_value}
use Rattle.std.specs.Prelude.{IfNone}
use Rattle.sy_escapes.specs.internal.Runs.{Run}
use Rattle.sy_escapes.proofs.Runs.{not_resumed, resumed}
use Rattle.sy_escapes.proofs.sink.EscapedSink.offer_all.Goals as goal

pub returns-in-Err-clause-wrote : goal.returns-in-Err-clause-wrote
returns-in-Err-clause-wrote g c = not_resumed _ _ _ _ _ _ (search rules) c.resume.ensures.bytes

pub returns-clause-wrote : goal.returns-clause-wrote
returns-clause-wrote g c =
    let back : c.split_at.result.1.now ≡ drop c.in-Ok.begun c.args.messages.now = search rules in
    let later : map arc_value c.split_at.result.1.now ≡ drop c.in-Ok.begun (map arc_value c.args.messages.now) =
    ap (λ l. map arc_value l) back ∙ sym (drop-map (λ m. arc_value m) c.in-Ok.begun c.args.messages.now) in
    let count : c.in-Ok.begun ≤ length c.args.messages.now = search rules in
    let few : c.in-Ok.begun ≤ length (map arc_value c.args.messages.now) = omega (arith, count, length-map c.args.messages.now (λ m. arc_value m)) in
    let full : IfNone c.write_all-count.result.1 (c.write_all-count.result.0 ≡ length (drop c.in-Ok.begun (map arc_value c.args.messages.now))) =
    subst (λ n. IfNone c.write_all-count.result.1 (c.write_all-count.result.0 ≡ n)) (sym (length-map c.split_at.result.1.now (λ m. arc_value m)) ∙ ap length later) c.write_all-count.ensures.all in
    resumed _ _ _ _ _ _ _ _ _ _ (search rules) few c.resume.ensures.bytes
    (subst (λ l. Run (g.W.Sink.contents c.resume.new.self.writer) (g.W.Sink.contents c.write_all-count.new.self.writer) c.resume.new.self.batch c.write_all-count.new.self.batch l c.write_all-count.result.0 c.write_all-count.result.1) later c.write_all-count.ensures.run)
    full

use Rattle.std.proofs.Common.{◌≡◌, ◌≤◌, length, map, drop, ◌∙◌, sym, ap, arith}
use Rattle.std.proofs.lemmas.List.{drop-map, length-map}
use Rattle.std.specs.Arc.{arc_value}
use Rattle.sy_relp.proofs.Windows.{go_on_part, go_on_whole, nothing_sent}
use Rattle.sy_relp.proofs.sender.Sender.send_all.Goals as goal

pub loop-taken-init : goal.loop-taken-init
loop-taken-init g c = record { within = omega arith; so_far = nothing_sent g.R.Source.remaining g.W.Sink.contents c.args.self.now }

pub returns-in-Some-clause-some : goal.returns-in-Some-clause-some
returns-in-Some-clause-some g c =
    let rest : map arc_value c.split_at.result.1.now ≡ drop c.loop-taken.taken (map arc_value c.args.messages.now) = ap (map arc_value) c.split_at.ensures.back ∙ sym (drop-map arc_value c.loop-taken.taken c.args.messages.now) in
    let within : c.loop-taken.taken ≤ length (map arc_value c.args.messages.now) = omega (arith, c.loop-taken.invariant.within, length-map c.args.messages.now (λ x. arc_value x)) in
    go_on_part g.R.Source.remaining g.W.Sink.contents _ _ _ _ _ c.loop-taken.taken _ rest within c.loop-taken.invariant.so_far (rw c.in-Some.is at c.exchange-count.ensures.some)

pub loop-taken-preserved : goal.loop-taken-preserved
loop-taken-preserved g c =
    let rest : map arc_value c.split_at.result.1.now ≡ drop c.loop-taken.taken (map arc_value c.args.messages.now) = ap (map arc_value) c.split_at.ensures.back ∙ sym (drop-map arc_value c.loop-taken.taken c.args.messages.now) in
    let all = rw c.in_default.is at c.exchange-count.ensures.none in
    record {
      within = omega (arith, all.1, c.split_at.ensures.back_len, c.loop-taken-test.true);
      so_far = go_on_whole g.R.Source.remaining g.W.Sink.contents _ _ _ _ _ c.loop-taken.taken _ rest c.loop-taken.invariant.so_far all.2;
    }

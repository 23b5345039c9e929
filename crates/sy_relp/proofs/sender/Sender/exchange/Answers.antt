use Rattle.std.proofs.Common.{◌≡◌, ◌<◌, ◌≤◌, [], length, map, take, ◌∙◌, sym, subst, arith}
use Rattle.std.proofs.lemmas.List.{append-nil, length-map}
use Rattle.std.proofs.KnownBytes.{Appends-kept}
use Rattle.std.specs.Arc.{arc_value}
use Rattle.sy_relp.specs.Frames.{stream}
use Rattle.sy_relp.specs.Exchanges.{Breaks, Link, numbered}
use Rattle.sy_relp.proofs.Windows.{answered, refused, torn, unanswered}
use Rattle.sy_relp.proofs.sender.Sender.exchange.Goals as goal

pub returns-then-self-clause-some : goal.returns-then-self-clause-some
returns-then-self-clause-some g c =
    let some : 0 < length (map arc_value c.args.messages.now) = omega (arith, c.requires, length-map c.args.messages.now (λ x. arc_value x)) in
    refused g.R.Source.remaining g.W.Sink.contents c.args.self.now _ some

pub returns-then-self-gt-LAST_START-clause-some : goal.returns-then-self-gt-LAST_START-clause-some
returns-then-self-gt-LAST_START-clause-some g c =
    let some : 0 < length (map arc_value c.args.messages.now) = omega (arith, c.requires, length-map c.args.messages.now (λ x. arc_value x)) in
    refused g.R.Source.remaining g.W.Sink.contents c.args.self.now _ some

pub returns-in_default-clause-some : goal.returns-in_default-clause-some
returns-in_default-clause-some g c =
    let some : 0 < length (map arc_value c.args.messages.now) = omega (arith, c.requires, length-map c.args.messages.now (λ x. arc_value x)) in
    subst (λ (s : Link _ _). Breaks g.R.Source.remaining g.W.Sink.contents c.args.self.now (map arc_value c.args.messages.now) 0 s) (sym c.self.view_is)
    (refused g.R.Source.remaining g.W.Sink.contents c.args.self.now _ some)

pub returns-then-sent-eq0-clause-some : goal.returns-then-sent-eq0-clause-some
returns-then-sent-eq0-clause-some g c =
    let some : 0 < length (map arc_value c.args.messages.now) = omega (arith, c.requires, length-map c.args.messages.now (λ x. arc_value x)) in
    subst (λ (s : Link _ _). Breaks g.R.Source.remaining g.W.Sink.contents c.args.self.now (map arc_value c.args.messages.now) 0 s) (sym c.self.view_is)
    (refused g.R.Source.remaining g.W.Sink.contents c.args.self.now _ some)

pub returns-in_default-write_all-clause-some : goal.returns-in_default-write_all-clause-some
returns-in_default-write_all-clause-some g c =
    let some : 0 < length (map arc_value c.args.messages.now) = omega (arith, c.requires, length-map c.args.messages.now (λ x. arc_value x)) in
    let t = c.in_default-write_all.ensures.torn in
    torn g.R.Source.remaining g.W.Sink.contents c.args.self.now _ c.self.inside.reader c.self.inside.writer _ c.self.inside.frames c.self.inside.next _ c.self.inside.unanswered c.in-Ok.sent c.self.inside.is_broken t.front t.is_front.rest c.self.view_is c.if-self.false some c.in-Ok.ensures.each
    (sym c.in-Ok.ensures.frames ∙ sym c.as_slice.ensures.value ∙ t.is_front.joined) t.wrote

pub returns-in_default-flush-clause-some : goal.returns-in_default-flush-clause-some
returns-in_default-flush-clause-some g c =
    let some : 0 < length (map arc_value c.args.messages.now) = omega (arith, c.requires, length-map c.args.messages.now (λ x. arc_value x)) in
    let all = stream (numbered c.self.inside.next (take c.in-Ok.sent (map arc_value c.args.messages.now))) in
    let text : c.as_slice.result.now ≡ all = c.as_slice.ensures.value ∙ c.in-Ok.ensures.frames in
    let wrote = rw text at (Appends-kept _ _ _ c.as_slice.result.now c.in-Ok-write_all.ensures.whole c.flush.ensures.bytes) in
    torn g.R.Source.remaining g.W.Sink.contents c.args.self.now _ c.self.inside.reader c.self.inside.writer _ c.self.inside.frames c.self.inside.next _ c.self.inside.unanswered c.in-Ok.sent c.self.inside.is_broken all [] c.self.view_is c.if-self.false some c.in-Ok.ensures.each (sym (append-nil all)) wrote

pub returns-then-count-sent-clause-some : goal.returns-then-count-sent-clause-some
returns-then-count-sent-clause-some g c =
    let fits : c.in-Ok.sent ≤ length (map arc_value c.args.messages.now) = omega (arith, c.in-Ok.ensures.within, length-map c.args.messages.now (λ x. arc_value x)) in
    let all = stream (numbered c.self.inside.next (take c.in-Ok.sent (map arc_value c.args.messages.now))) in
    let text : c.as_slice.result.now ≡ all = c.as_slice.ensures.value ∙ c.in-Ok.ensures.frames in
    let wrote = rw text at (Appends-kept _ _ _ c.as_slice.result.now c.in-Ok-write_all.ensures.whole c.flush.ensures.bytes) in
    unanswered g.R.Source.remaining g.W.Sink.contents c.args.self.now _ c.self.inside.reader _ c.self.inside.writer _ c.self.inside.frames _ c.self.inside.next c.self.inside.unanswered c.in-Ok.sent _ c.self.inside.is_broken c.self.view_is c.if-self.false fits c.if-count-sent.true c.in-Ok.ensures.each wrote c.hear-count.ensures

pub returns-clause-none : goal.returns-clause-none
returns-clause-none g c =
    let fits : c.in-Ok.sent ≤ length (map arc_value c.args.messages.now) = omega (arith, c.in-Ok.ensures.within, length-map c.args.messages.now (λ x. arc_value x)) in
    let all = stream (numbered c.self.inside.next (take c.in-Ok.sent (map arc_value c.args.messages.now))) in
    let text : c.as_slice.result.now ≡ all = c.as_slice.ensures.value ∙ c.in-Ok.ensures.frames in
    let wrote = rw text at (Appends-kept _ _ _ c.as_slice.result.now c.in-Ok-write_all.ensures.whole c.flush.ensures.bytes) in (
      omega (arith, c.if-sent-eq0.false),
      c.in-Ok.ensures.within,
      answered g.R.Source.remaining g.W.Sink.contents c.args.self.now _ c.self.inside.reader _ c.self.inside.writer _ c.self.inside.frames _ c.self.inside.next c.self.inside.unanswered c.in-Ok.sent _ c.self.inside.is_broken c.self.view_is c.if-self.false fits c.if-count-sent.false c.in-Ok.ensures.each wrote c.hear-count.ensures,
    )

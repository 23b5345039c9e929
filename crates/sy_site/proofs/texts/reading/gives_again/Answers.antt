use Rattle.std.proofs.Common.{refl, sym, subst}
use Rattle.sy_site.specs.internal.Lines.{line_of}
use Rattle.sy_site.specs.internal.Reading.{kind}
use Rattle.sy_site.specs.texts.Lines.{words}
use Rattle.sy_site.proofs.lemmas.texts.Again.{SaysAgain, other_kind, other_same, other_says, same_kind, says_again, says_apart}
use Rattle.sy_site.proofs.texts.reading.gives_again.Goals as goal

pub returns-in-Relay-clause-again : goal.returns-in-Relay-clause-again
returns-in-Relay-clause-again c = λ e.
    let earlier = c.args.earlier.now in
    let line = c.args.line.now in
    let again = subst (λ it. SaysAgain (line_of it) (words earlier.behind.now) (words line.behind.now)) (sym c.in-Relay.is) (c.same_first_word.ensures.same e) in
    says_again (line_of line.line) (kind (line_of earlier.line)) (words earlier.behind.now) (words line.behind.now)
    (same_kind c.kind.result.now c.kind-2.result.now (kind (line_of earlier.line)) (kind (line_of line.line)) c.kind.ensures c.kind-2.ensures c.if-ne.ensures)
    again

pub returns-in-Relay-clause-apart : goal.returns-in-Relay-clause-apart
returns-in-Relay-clause-apart c = λ e.
    let earlier = c.args.earlier.now in
    let line = c.args.line.now in
    says_apart (line_of line.line) (kind (line_of earlier.line)) (words earlier.behind.now) (words line.behind.now)
    (same_kind c.kind.result.now c.kind-2.result.now (kind (line_of earlier.line)) (kind (line_of line.line)) c.kind.ensures c.kind-2.ensures c.if-ne.ensures)
    (λ h. c.same_first_word.ensures.apart e
    (subst (λ it. SaysAgain (line_of it) (words earlier.behind.now) (words line.behind.now)) c.in-Relay.is h))

pub returns-in_default-clause-again : goal.returns-in_default-clause-again
returns-in_default-clause-again c = λ e.
    let earlier = c.args.earlier.now in
    let line = c.args.line.now in
    says_again (line_of line.line) (kind (line_of earlier.line)) (words earlier.behind.now) (words line.behind.now)
    (same_kind c.kind.result.now c.kind-2.result.now (kind (line_of earlier.line)) (kind (line_of line.line)) c.kind.ensures c.kind-2.ensures c.if-ne.ensures)
    (other_says line.line c.in_default.not-Policy c.in_default.not-Relay c.in_default.not-Entry c.in_default.not-Outside (words earlier.behind.now) (words line.behind.now) (c.same_words.ensures.same e))

pub returns-in_default-clause-apart : goal.returns-in_default-clause-apart
returns-in_default-clause-apart c = λ e.
    let earlier = c.args.earlier.now in
    let line = c.args.line.now in
    says_apart (line_of line.line) (kind (line_of earlier.line)) (words earlier.behind.now) (words line.behind.now)
    (same_kind c.kind.result.now c.kind-2.result.now (kind (line_of earlier.line)) (kind (line_of line.line)) c.kind.ensures c.kind-2.ensures c.if-ne.ensures)
    (λ h. c.same_words.ensures.apart e (other_same line.line c.in_default.not-Policy c.in_default.not-Relay c.in_default.not-Entry c.in_default.not-Outside (words earlier.behind.now) (words line.behind.now) h))

pub returns-in-Policy-clause-apart : goal.returns-in-Policy-clause-apart
returns-in-Policy-clause-apart c = λ e.
    let earlier = c.args.earlier.now in
    let line = c.args.line.now in
    says_apart (line_of line.line) (kind (line_of earlier.line)) (words earlier.behind.now) (words line.behind.now)
    (same_kind c.kind.result.now c.kind-2.result.now (kind (line_of earlier.line)) (kind (line_of line.line)) c.kind.ensures c.kind-2.ensures c.if-ne.ensures)
    (λ h. subst (λ it. SaysAgain (line_of it) (words earlier.behind.now) (words line.behind.now)) c.in-Policy.is h)

pub returns-then-ne-clause-again : goal.returns-then-ne-clause-again
returns-then-ne-clause-again c = λ e.
    let earlier = c.args.earlier.now in
    let line = c.args.line.now in
    c.shares_name.ensures.again e
    (other_kind c.kind.result.now c.kind-2.result.now (kind (line_of earlier.line)) (kind (line_of line.line)) c.kind.ensures c.kind-2.ensures c.if-ne.ensures)

pub returns-then-ne-clause-apart : goal.returns-then-ne-clause-apart
returns-then-ne-clause-apart c = λ e.
    let earlier = c.args.earlier.now in
    let line = c.args.line.now in
    c.shares_name.ensures.apart e
    (other_kind c.kind.result.now c.kind-2.result.now (kind (line_of earlier.line)) (kind (line_of line.line)) c.kind.ensures c.kind-2.ensures c.if-ne.ensures)

pub returns-in-Entry-clause-again : goal.returns-in-Entry-clause-again
returns-in-Entry-clause-again c = λ e.
    let earlier = c.args.earlier.now in
    let line = c.args.line.now in
    let again = subst (λ it. SaysAgain (line_of it) (words earlier.behind.now) (words line.behind.now)) (sym c.in-Entry.is) (c.same_two_words.ensures.same e) in
    says_again (line_of line.line) (kind (line_of earlier.line)) (words earlier.behind.now) (words line.behind.now)
    (same_kind c.kind.result.now c.kind-2.result.now (kind (line_of earlier.line)) (kind (line_of line.line)) c.kind.ensures c.kind-2.ensures c.if-ne.ensures)
    again

pub returns-in-Entry-clause-apart : goal.returns-in-Entry-clause-apart
returns-in-Entry-clause-apart c = λ e.
    let earlier = c.args.earlier.now in
    let line = c.args.line.now in
    says_apart (line_of line.line) (kind (line_of earlier.line)) (words earlier.behind.now) (words line.behind.now)
    (same_kind c.kind.result.now c.kind-2.result.now (kind (line_of earlier.line)) (kind (line_of line.line)) c.kind.ensures c.kind-2.ensures c.if-ne.ensures)
    (λ h. c.same_two_words.ensures.apart e
    (subst (λ it. SaysAgain (line_of it) (words earlier.behind.now) (words line.behind.now)) c.in-Entry.is h))

pub returns-in-Outside-clause-again : goal.returns-in-Outside-clause-again
returns-in-Outside-clause-again c = λ e.
    let earlier = c.args.earlier.now in
    let line = c.args.line.now in
    let again = subst (λ it. SaysAgain (line_of it) (words earlier.behind.now) (words line.behind.now)) (sym c.in-Outside.is) (c.same_receiver.ensures.same e) in
    says_again (line_of line.line) (kind (line_of earlier.line)) (words earlier.behind.now) (words line.behind.now)
    (same_kind c.kind.result.now c.kind-2.result.now (kind (line_of earlier.line)) (kind (line_of line.line)) c.kind.ensures c.kind-2.ensures c.if-ne.ensures)
    again

pub returns-in-Outside-clause-apart : goal.returns-in-Outside-clause-apart
returns-in-Outside-clause-apart c = λ e.
    let earlier = c.args.earlier.now in
    let line = c.args.line.now in
    says_apart (line_of line.line) (kind (line_of earlier.line)) (words earlier.behind.now) (words line.behind.now)
    (same_kind c.kind.result.now c.kind-2.result.now (kind (line_of earlier.line)) (kind (line_of line.line)) c.kind.ensures c.kind-2.ensures c.if-ne.ensures)
    (λ h. c.same_receiver.ensures.apart e
    (subst (λ it. SaysAgain (line_of it) (words earlier.behind.now) (words line.behind.now)) c.in-Outside.is h))

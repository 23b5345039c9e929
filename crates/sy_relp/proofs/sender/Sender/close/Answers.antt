use Rattle.std.proofs.Common.{◌≡◌, ◌<◌, ◌⊎◌, inl, inr, false, [], ◌∙◌, sym, arith}
use Rattle.std.proofs.lemmas.List.{append-nil}
use Rattle.std.proofs.KnownBytes.{Appends-kept}
use Rattle.sy_relp.specs.Closings.{close_frame}
use Rattle.sy_relp.specs.Frames.{frame}
use Rattle.sy_relp.proofs.Ends.{closes, unended, unwritten}
use Rattle.sy_relp.proofs.sender.Sender.close.Goals as goal
use Rattle.sy_relp.proofs.sender.Sender.close.Goals.{else-self-via-then-self+else-self-eq0, else-self-via-else-self}

pub returns-in_default-write_all-clause-some : goal.returns-in_default-write_all-clause-some
returns-in_default-write_all-clause-some g c =
    let may : (c.self.inside.is_broken ≡ false) ⊎ (0 < c.self.inside.unanswered) = elim c.else-self.branch [
      | else-self-via-then-self+else-self-eq0 w ↦ inr (omega (arith, w.if-self-eq0.false))
      | else-self-via-else-self w ↦ inl w.if-self.false
    ] in
    let t = c.in_default-write_all.ensures.torn in
    unwritten g.R.Source.remaining g.W.Sink.contents c.args.self.now c.self.inside.reader c.self.inside.writer _ c.self.inside.frames c.self.inside.next c.self.inside.unanswered c.self.inside.is_broken t.front t.is_front.rest c.self.view_is c.self.invariant.1 may
    (sym c.in-Ok.ensures ∙ sym c.as_bytes.ensures.value ∙ t.is_front.joined) t.wrote

pub returns-in_default-flush-clause-some : goal.returns-in_default-flush-clause-some
returns-in_default-flush-clause-some g c =
    let may : (c.self.inside.is_broken ≡ false) ⊎ (0 < c.self.inside.unanswered) = elim c.else-self.branch [
      | else-self-via-then-self+else-self-eq0 w ↦ inr (omega (arith, w.if-self-eq0.false))
      | else-self-via-else-self w ↦ inl w.if-self.false
    ] in
    let all = frame (close_frame c.self.inside.next) in
    let text : c.as_bytes.result.now ≡ all = c.as_bytes.ensures.value ∙ c.in-Ok.ensures in
    let wrote = rw text at (Appends-kept _ _ _ c.as_bytes.result.now c.in-Ok-write_all.ensures.whole c.flush.ensures.bytes) in
    unwritten g.R.Source.remaining g.W.Sink.contents c.args.self.now c.self.inside.reader c.self.inside.writer _ c.self.inside.frames c.self.inside.next c.self.inside.unanswered c.self.inside.is_broken all [] c.self.view_is c.self.invariant.1 may (sym (append-nil all)) wrote

pub returns-then-not-is_over-clause-some : goal.returns-then-not-is_over-clause-some
returns-then-not-is_over-clause-some g c =
    let may : (c.self.inside.is_broken ≡ false) ⊎ (0 < c.self.inside.unanswered) = elim c.else-self.branch [
      | else-self-via-then-self+else-self-eq0 w ↦ inr (omega (arith, w.if-self-eq0.false))
      | else-self-via-else-self w ↦ inl w.if-self.false
    ] in
    let text : c.as_bytes.result.now ≡ frame (close_frame c.self.inside.next) = c.as_bytes.ensures.value ∙ c.in-Ok.ensures in
    let wrote = rw text at (Appends-kept _ _ _ c.as_bytes.result.now c.in-Ok-write_all.ensures.whole c.flush.ensures.bytes) in
    unended g.R.Source.remaining g.W.Sink.contents c.args.self.now c.self.inside.reader _ c.self.inside.writer _ c.self.inside.frames _ c.self.inside.next c.self.inside.unanswered _ c.self.inside.is_broken _ c.self.view_is c.self.invariant.1 may wrote c.hear_end-count.ensures c.if-not-is_over.true

pub returns-clause-none : goal.returns-clause-none
returns-clause-none g c =
    let may : (c.self.inside.is_broken ≡ false) ⊎ (0 < c.self.inside.unanswered) = elim c.else-self.branch [
      | else-self-via-then-self+else-self-eq0 w ↦ inr (omega (arith, w.if-self-eq0.false))
      | else-self-via-else-self w ↦ inl w.if-self.false
    ] in
    let text : c.as_bytes.result.now ≡ frame (close_frame c.self.inside.next) = c.as_bytes.ensures.value ∙ c.in-Ok.ensures in
    let wrote = rw text at (Appends-kept _ _ _ c.as_bytes.result.now c.in-Ok-write_all.ensures.whole c.flush.ensures.bytes) in
    closes g.R.Source.remaining g.W.Sink.contents c.args.self.now c.self.inside.reader _ c.self.inside.writer _ c.self.inside.frames _ c.self.inside.next c.self.inside.unanswered _ c.self.inside.is_broken _ c.self.view_is c.self.invariant.1 may wrote c.hear_end-count.ensures c.if-not-is_over.false

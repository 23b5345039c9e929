use Rattle.std.proofs.Common.{◌≡◌, ◌<◌, ◌++◌, ◌∷◌, List, length, refl, sym, ap, ◌∙◌, append_assoc, arith, true, false}
use Rattle.sy_chain.specs.Entries.{Entry}
use Rattle.sy_marks.specs.Marks.{is_kept, is_lost}
use Rattle.sy_marks.proofs.Fronts.{front_next, front_skip, drop_next, kept_if_due, finished_if_idle}
use Rattle.sy_marks.proofs.queue.sort_out.Goals as goal

pub loop-remaining-preserved-then-is_lost : goal.loop-remaining-preserved-then-is_lost
loop-remaining-preserved-then-is_lost c =
    let e = c.in-Some.node in
    let es = c.pop_front.new.self in
    let xs = c.loop-remaining.nodes in
    let r = c.loop-remaining.remaining in
    let some : 0 < r = c.loop-remaining-test.true in
    let is : xs ≡ e ∷ es = c.in-Some.ensures.some in
    let n : c.len.result ≡ length es = c.len.ensures.exact (omega (arith, ap length is, c.loop-remaining.invariant.fits)) in
    let d : is_lost c.args.marks e (length es) ≡ true = rw n at (sym c.is_lost.ensures ∙ c.if-is_lost.true) in
    record {
      there = omega (arith, ap length is);
      fits = omega (arith, ap length is, c.loop-remaining.invariant.fits);
      rest = sym (drop_next e es r xs some is) ∙ c.loop-remaining.invariant.rest;
      kept = ap (λ (z : List Entry). c.loop-remaining.kept ++ z) (sym (front_skip (is_kept c.args.marks) e es r xs some is (rw d refl))) ∙ c.loop-remaining.invariant.kept;
      lost = rw (c.push_back.ensures, append_assoc) (ap (λ (z : List Entry). c.loop-remaining.lost ++ z) (sym (front_next (is_lost c.args.marks) e es r xs some is d)) ∙ c.loop-remaining.invariant.lost);
    }

pub loop-remaining-preserved-then-has_work : goal.loop-remaining-preserved-then-has_work
loop-remaining-preserved-then-has_work c =
    let e = c.in-Some.node in
    let es = c.pop_front.new.self in
    let xs = c.loop-remaining.nodes in
    let r = c.loop-remaining.remaining in
    let some : 0 < r = c.loop-remaining-test.true in
    let is : xs ≡ e ∷ es = c.in-Some.ensures.some in
    let n : c.len.result ≡ length es = c.len.ensures.exact (omega (arith, ap length is, c.loop-remaining.invariant.fits)) in
    let d : is_lost c.args.marks e (length es) ≡ false = rw n at (sym c.is_lost.ensures ∙ c.if-is_lost.false) in
    let due = kept_if_due c.args.marks e (length es) d (sym c.has_work.ensures ∙ c.if-has_work.true) in
    record {
      there = omega (arith, ap length is);
      fits = omega (arith, ap length is, c.loop-remaining.invariant.fits);
      rest = sym (drop_next e es r xs some is) ∙ c.loop-remaining.invariant.rest;
      kept = rw (c.push_back-then-has_work.ensures, append_assoc) (ap (λ (z : List Entry). c.loop-remaining.kept ++ z) (sym (front_next (is_kept c.args.marks) e es r xs some is due)) ∙ c.loop-remaining.invariant.kept);
      lost = ap (λ (z : List Entry). c.loop-remaining.lost ++ z) (sym (front_skip (is_lost c.args.marks) e es r xs some is d)) ∙ c.loop-remaining.invariant.lost;
    }

pub loop-remaining-preserved : goal.loop-remaining-preserved
loop-remaining-preserved c =
    let e = c.in-Some.node in
    let es = c.pop_front.new.self in
    let xs = c.loop-remaining.nodes in
    let r = c.loop-remaining.remaining in
    let some : 0 < r = c.loop-remaining-test.true in
    let is : xs ≡ e ∷ es = c.in-Some.ensures.some in
    let n : c.len.result ≡ length es = c.len.ensures.exact (omega (arith, ap length is, c.loop-remaining.invariant.fits)) in
    let d : is_lost c.args.marks e (length es) ≡ false = rw n at (sym c.is_lost.ensures ∙ c.if-is_lost.false) in
    let idle = finished_if_idle c.args.marks e (length es) d (sym c.has_work.ensures ∙ c.if-has_work.false) in
    record {
      there = omega (arith, ap length is);
      fits = omega (arith, ap length is, c.loop-remaining.invariant.fits);
      rest = sym (drop_next e es r xs some is) ∙ c.loop-remaining.invariant.rest;
      kept = ap (λ (z : List Entry). c.loop-remaining.kept ++ z) (sym (front_skip (is_kept c.args.marks) e es r xs some is idle)) ∙ c.loop-remaining.invariant.kept;
      lost = ap (λ (z : List Entry). c.loop-remaining.lost ++ z) (sym (front_skip (is_lost c.args.marks) e es r xs some is d)) ∙ c.loop-remaining.invariant.lost;
    }

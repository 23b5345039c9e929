use Rattle.std.proofs.Common.{arith, ◌≡◌, length, min, ap, ◌∙◌}
use Rattle.sy_marks.specs.Marks.{kept_of, lost_of}
use Rattle.sy_marks.proofs.Fronts.{kept_min, lost_min}
use Rattle.sy_marks.proofs.queue.MarkQueue.grab.Goals as goal

pub returns-clause-kept : goal.returns-clause-kept
returns-clause-kept c =
    let bound = c.self.invariant in
    let long : c.len.result ≡ length c.self.inside.nodes = c.len.ensures.exact (omega (arith, bound.0, bound.1)) in
    let count : c.min-count.result ≡ min c.args.n (length c.args.self.now.entries) = rw (← c.self.view_is) (omega (arith, long)) in
    (rw c.new-kept.ensures at c.sort_out.ensures.kept) ∙ ap (λ q. kept_of q.marks c.min-count.result q.entries) c.self.view_is ∙ kept_min c.args.self.now.marks c.min-count.result c.args.n c.args.self.now.entries count

pub returns-clause-lost : goal.returns-clause-lost
returns-clause-lost c =
    let bound = c.self.invariant in
    let long : c.len.result ≡ length c.self.inside.nodes = c.len.ensures.exact (omega (arith, bound.0, bound.1)) in
    let count : c.min-count.result ≡ min c.args.n (length c.args.self.now.entries) = rw (← c.self.view_is) (omega (arith, long)) in
    (rw c.new-lost.ensures at c.sort_out.ensures.lost) ∙ ap (λ q. lost_of q.marks c.min-count.result q.entries) c.self.view_is ∙ lost_min c.args.self.now.marks c.min-count.result c.args.n c.args.self.now.entries count

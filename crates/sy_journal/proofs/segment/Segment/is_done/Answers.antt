use Rattle.std.proofs.Common.{List, ℕ, take, ◌∙◌, subst, arith}
use Rattle.sy_journal.specs.Finishes.{AllSet}
use Rattle.sy_journal.proofs.Segments.{all_done}
use Rattle.sy_journal.proofs.segment.Segment.is_done.Goals as goal

pub returns-clause-done : goal.returns-clause-done
returns-clause-done g c is_set base entries many =
    let finishes = g.S.Storage.seen c.args.self.now.finishes in
    let r = c.requires.ready in
    let same = c.deref.ensures.value ∙ c.in_ok-finishes.ensures.bytes in
    let all : AllSet (take c.args.self.now.count finishes) = subst (λ (l : List ℕ). AllSet (take c.args.self.now.count l)) same (c.all_set.ensures is_set) in
    all_done base c.args.self.now.count entries finishes many (omega (arith, r.within, r.places)) all

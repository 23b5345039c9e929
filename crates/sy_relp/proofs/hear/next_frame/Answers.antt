use Rattle.sy_relp.proofs.Heard.{fed_fails, fed_more, fed_same, hears_none, hears_one, stops_left}
use Rattle.std.proofs.Common.{◌≡◌, ap}
use Rattle.sy_wire.specs.Frames.{Held}
use Rattle.sy_relp.proofs.hear.next_frame.Goals as goal

pub returns-in-Ok-true-clause-yes : goal.returns-in-Ok-true-clause-yes
returns-in-Ok-true-clause-yes g c = let h = rw c.in-Ok-true.field-0-test at c.in-Ok-true.ensures.ok in λ t. hears_one _ _ _ _ _ _ c.loop.invariant h

pub returns-in-Err-clause-no : goal.returns-in-Err-clause-no
returns-in-Err-clause-no g c = λ t. hears_none _ _ _ _ (fed_same _ _ _ _ _ (stops_left _ _ _ c.in-Err.ensures.err) c.loop.invariant)

pub returns-then-count-eq0-clause-no : goal.returns-then-count-eq0-clause-no
returns-then-count-eq0-clause-no g c =
    let h = rw c.in-Ok-false.field-0-test at c.in-Ok-false.ensures.ok in
    let same : c.next_into.new.self.left ≡ c.loop.frames.left = ap (λ (v : Held). v.left) h.1 in
    λ t. hears_none _ _ _ _ (fed_more _ _ _ _ _ _ _ (fed_same _ _ _ _ _ same c.loop.invariant) c.in-Ok.ensures.ok)

pub returns-in-Err-fill-clause-no : goal.returns-in-Err-fill-clause-no
returns-in-Err-fill-clause-no g c =
    let h = rw c.in-Ok-false.field-0-test at c.in-Ok-false.ensures.ok in
    let same : c.next_into.new.self.left ≡ c.loop.frames.left = ap (λ (v : Held). v.left) h.1 in
    λ t. hears_none _ _ _ _ (fed_fails _ _ _ _ _ _ _ (fed_same _ _ _ _ _ same c.loop.invariant) c.in-Err-fill.ensures.err)

pub returns-clause-no : goal.returns-clause-no
returns-clause-no g c = λ t. hears_none _ _ _ _ c.loop.invariant

pub loop-preserved : goal.loop-preserved
loop-preserved g c =
    let h = rw c.in-Ok-false.field-0-test at c.in-Ok-false.ensures.ok in
    let same : c.next_into.new.self.left ≡ c.loop.frames.left = ap (λ (v : Held). v.left) h.1 in
    fed_more _ _ _ _ _ _ _ (fed_same _ _ _ _ _ same c.loop.invariant) c.in-Ok.ensures.ok

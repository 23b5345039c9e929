use Rattle.std.proofs.Common.{◌∙◌, sym, ap}
use Rattle.std.specs.Str.{bytes_eq}
use Rattle.sy_rules.proofs.lemmas.lists.Places.{here, not_here}
use Rattle.sy_rules.proofs.lists.build.scope.place_of.Goals as goal

pub returns-then-eq : goal.returns-then-eq
returns-then-eq c =
    let same = ap (bytes_eq c.args.name.now) (sym c.as_slice.ensures) ∙ sym c.if-eq.ensures in
    sym (here c.args.name.now c.args.rulesets.now c.loop-place.place c.index-rulesets-place.result c.loop-place-test.true c.index-rulesets-place.is same) ∙ c.loop-place.invariant

pub loop-place-preserved : goal.loop-place-preserved
loop-place-preserved c =
    let other = ap (bytes_eq c.args.name.now) (sym c.as_slice.ensures) ∙ sym c.if-eq.ensures in
    sym (not_here c.args.name.now c.args.rulesets.now c.loop-place.place c.index-rulesets-place.result c.loop-place-test.true c.index-rulesets-place.is other) ∙ c.loop-place.invariant

use Rattle.std.proofs.Common.{◌≡◌, ◌∙◌, ◌<◌, Some, arith, length, refl, sym, subst}
use Rattle.std.specs.Prelude.{slice_get}
use Rattle.std.proofs.lemmas.Bool.{false≢true}
use Rattle.std.proofs.lemmas.Option.{slice_get_read, slice_get_within}
use Rattle.sy_checker.specs.declared.course.Course.{Course}
use Rattle.sy_flows.specs.Flows.{AreSame}
use Rattle.sy_flows.proofs.Alike.{one_value}
use Rattle.sy_flows.proofs.Places.{more_below}
use Rattle.sy_checker.proofs.course.same_at.Goals as goal

pub returns-then-same_flows-clause-some : goal.returns-then-same_flows-clause-some
returns-then-same_flows-clause-some c =
    let low : c.loop-place.place < length c.args.courses.now = omega (arith, c.loop-place-test.true, c.loop-place.auto.place-end) in
    record {
      course = c.index-courses-place.result;
      stands = slice_get_read c.args.courses.now (length c.args.courses.now) c.loop-place.place c.index-courses-place.result refl low
          c.index-courses-place.is;
      same = subst (λ (y : Course). AreSame y.flows.lists c.args.flows.now) (sym c.index-courses-place.is) (c.same_flows.ensures.0 c.if-same_flows.true);
    }

pub loop-place-preserved : goal.loop-place-preserved
loop-place-preserved c =
    let courses = c.args.courses.now in
    let low : c.loop-place.place < length courses = omega (arith, c.loop-place-test.true, c.loop-place.auto.place-end) in
    let here = slice_get_read courses (length courses) c.loop-place.place c.index-courses-place.result refl low c.index-courses-place.is in
    λ k course below.
    more_below (λ n. (x : Course) → slice_get courses n ≡ Some x → AreSame x.flows.lists c.args.flows.now → ⊥) c.loop-place.place
    (λ x stands same. false≢true (sym c.if-same_flows.false
    ∙ c.same_flows.ensures.1 (subst (λ (y : Course). AreSame y.flows.lists c.args.flows.now) (one_value (sym stands ∙ here) ∙ c.index-courses-place.is) same)))
    (λ n less x. c.loop-place.invariant n x less) k below course

pub returns-clause-none : goal.returns-clause-none
returns-clause-none c = λ place course stands.
    let low = slice_get_within c.args.courses.now place course stands in
    let past = c.loop-place-test.false in
    let end = c.loop-place.auto.place-end in
    c.loop-place.invariant place course (omega (arith, low, past, end)) stands

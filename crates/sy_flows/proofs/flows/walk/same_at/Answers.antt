use Rattle.std.proofs.Common.{◌≡◌, ◌∙◌, ◌<◌, Some, arith, length, refl, sym, subst}
use Rattle.std.specs.Prelude.{slice_get}
use Rattle.std.proofs.lemmas.Bool.{false≢true}
use Rattle.std.proofs.lemmas.Option.{slice_get_read, slice_get_within}
use Rattle.sy_flows.specs.declared.flows.walk.Walk.{Walk}
use Rattle.sy_flows.specs.Flows.{AreSame}
use Rattle.sy_flows.proofs.Alike.{one_value}
use Rattle.sy_flows.proofs.Places.{more_below}
use Rattle.sy_flows.proofs.flows.walk.same_at.Goals as goal

pub returns-then-same_flows-clause-some : goal.returns-then-same_flows-clause-some
returns-then-same_flows-clause-some c =
    let low : c.loop-place.place < length c.args.walks.now = omega (arith, c.loop-place-test.true, c.loop-place.auto.place-end) in
    record {
      walk = c.index-walks-place.result;
      stands = slice_get_read c.args.walks.now (length c.args.walks.now) c.loop-place.place c.index-walks-place.result refl low
          c.index-walks-place.is;
      same = subst (λ (y : Walk). AreSame y.flows.lists c.args.flows.now) (sym c.index-walks-place.is) (c.same_flows.ensures.0 c.if-same_flows.true);
    }

pub loop-place-preserved : goal.loop-place-preserved
loop-place-preserved c =
    let walks = c.args.walks.now in
    let low : c.loop-place.place < length walks = omega (arith, c.loop-place-test.true, c.loop-place.auto.place-end) in
    let here = slice_get_read walks (length walks) c.loop-place.place c.index-walks-place.result refl low c.index-walks-place.is in
    λ k walk below.
    more_below (λ n. (x : Walk) → slice_get walks n ≡ Some x → AreSame x.flows.lists c.args.flows.now → ⊥) c.loop-place.place
    (λ x stands same. false≢true (sym c.if-same_flows.false
    ∙ c.same_flows.ensures.1 (subst (λ (y : Walk). AreSame y.flows.lists c.args.flows.now) (one_value (sym stands ∙ here) ∙ c.index-walks-place.is) same)))
    (λ n less x. c.loop-place.invariant n x less) k below walk

pub returns-clause-none : goal.returns-clause-none
returns-clause-none c = λ place walk stands.
    let low = slice_get_within c.args.walks.now place walk stands in
    let past = c.loop-place-test.false in
    let end = c.loop-place.auto.place-end in
    c.loop-place.invariant place walk (omega (arith, low, past, end)) stands

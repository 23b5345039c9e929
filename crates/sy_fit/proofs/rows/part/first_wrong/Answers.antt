use Rattle.std.proofs.Common.{◌∙◌, ap, arith, inl, inr, length, refl, subst, sym}
use Rattle.std.specs.Prelude.{slice_get}
use Rattle.std.proofs.lemmas.Bool.{cases_eq, false≢true}
use Rattle.std.proofs.lemmas.Option.{slice_get_read, slice_get_within}
use Rattle.sy_fit.specs.Fit.{IsRightAt}
use Rattle.sy_fit.proofs.Comparing.{one_value}
use Rattle.sy_fit.proofs.rows.part.first_wrong.Goals as goal

pub loop-place-init : goal.loop-place-init
loop-place-init c = λ k is low. absurd (omega (arith, low))

pub loop-place-preserved : goal.loop-place-preserved
loop-place-preserved c = λ k is low there.
    let at = slice_get_read c.args.part.now (length c.args.part.now) c.loop-place.place c.index-part-place.result refl c.loop-place-test.true
    c.index-part-place.is in
    elim (cases_eq k c.loop-place.place) [
      | inl same ↦
          let it = one_value (sym at ∙ ap (slice_get c.args.part.now) (sym same) ∙ there) in
          subst (λ n. IsRightAt c.args.site.now c.args.class c.args.part.now c.args.rows.now n is) (sym same)
          (subst (IsRightAt c.args.site.now c.args.class c.args.part.now c.args.rows.now c.loop-place.place) it
          (c.is_right_at.ensures.0 c.if-not-is_right_at.false))
      | inr apart ↦ c.loop-place.invariant k is (omega (arith, low, apart)) there
    ]

pub is_right_at-requires : goal.is_right_at-requires
is_right_at-requires c = record {
  flows = c.requires.flows;
  wanted = c.requires.wanted;
  member = (c.loop-place.place, c.loop-place-test.true, sym c.index-part-place.is);
}

pub returns-then-not-is_right_at-clause-some : goal.returns-then-not-is_right_at-clause-some
returns-then-not-is_right_at-clause-some c = record {
  is = c.index-part-place.result;
  is_wanted = slice_get_read c.args.part.now (length c.args.part.now) c.loop-place.place c.index-part-place.result refl c.loop-place-test.true
      c.index-part-place.is;
  kind_is = c.wanted_kind.ensures;
  wrong = λ h. false≢true (sym c.if-not-is_right_at.true ∙ c.is_right_at.ensures.1 h);
  before = λ k is low there. c.loop-place.invariant k is low there;
}

pub returns-clause-none : goal.returns-clause-none
returns-clause-none c = λ k is there.
    let low = slice_get_within c.args.part.now k is there in
    c.loop-place.invariant k is (omega (arith, low, c.loop-place-test.false)) there

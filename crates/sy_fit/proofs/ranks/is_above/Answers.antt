use Rattle.std.proofs.Common.{◌∙◌, ap, arith, inl, inr, length, refl, subst, sym}
use Rattle.std.specs.Prelude.{slice_get}
use Rattle.std.proofs.lemmas.Bool.{cases_eq, false≢true}
use Rattle.std.proofs.lemmas.Option.{slice_get_read}
use Rattle.sy_fit.specs.internal.Ranked.{FallsAt}
use Rattle.sy_fit.proofs.Comparing.{above_all, above_at, input_there, one_value}
use Rattle.sy_fit.proofs.ranks.is_above.Goals as goal

pub loop-is-init : goal.loop-is-init
loop-is-init c = λ k is low. absurd (omega (arith, low))

pub loop-is-preserved : goal.loop-is-preserved
loop-is-preserved c = λ k is low there.
    let at = slice_get_read c.args.part.now (length c.args.part.now) c.loop-is.is-index c.is-item.result refl c.loop-is-test.true c.is-item.is in
    elim (cases_eq k c.loop-is.is-index) [
      | inl same ↦
          subst (FallsAt c.args.site.now c.args.class c.args.part.now c.args.rows.now c.args.relay c.args.rank)
          (one_value (sym at ∙ ap (slice_get c.args.part.now) (sym same) ∙ there)) (c.falls_at.ensures.0 c.if-not-falls_at.false)
      | inr apart ↦ c.loop-is.invariant k is (omega (arith, low, apart)) there
    ]

pub falls_at-requires : goal.falls_at-requires
falls_at-requires c = record {
  wanted = c.requires.wanted;
  flows = c.requires.flows;
  there = input_there c.args.site.now c.args.class c.args.part.now c.requires.wanted c.is_lawful.ensures c.is-item.result
      (c.loop-is.is-index, c.loop-is-test.true, sym c.is-item.is);
}

pub returns-then-not-falls_at : goal.returns-then-not-falls_at
returns-then-not-falls_at c = (
  λ no. absurd (false≢true no),
  λ above. absurd (false≢true (sym c.if-not-falls_at.true
      ∙ c.falls_at.ensures.1 (above_at c.args.site.now c.args.class c.args.part.now c.requires.wanted c.args.rows.now c.args.relay c.args.rank above
      c.is-item.result (c.loop-is.is-index, c.loop-is-test.true, sym c.is-item.is)))),
)

pub returns : goal.returns
returns c = (
  λ yes. above_all c.args.site.now c.args.class c.args.part.now c.requires.wanted c.args.rows.now c.args.relay c.args.rank c.loop-is.is-index
      c.loop-is-test.false c.loop-is.invariant,
  λ above. refl,
)

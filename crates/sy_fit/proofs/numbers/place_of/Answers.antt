use Rattle.std.proofs.Common.{◌≡◌, ℕ, ◌+◌, ◌-◌, ◌/◌, false, true, sym, ◌∙◌, arith}
use Rattle.std.proofs.lemmas.Bool.{false≢true}
use Rattle.sy_fit.proofs.Standing.{behind, not_behind}
use Rattle.sy_fit.proofs.numbers.place_of.Goals as goal

pub loop-low-preserved-then-is_before_at : goal.loop-low-preserved-then-is_before_at
loop-low-preserved-then-is_before_at c =
    let low = c.loop-low-test.true in
    let before = c.is_before_at.ensures.0 c.if-is_before_at.true in (
      omega (arith, low),
      λ place is. (
        (let later = behind c.args.site.now c.args.class c.args.part.now c.requires.wanted c.args.inner
            (c.loop-low.low + (c.loop-low.high - c.loop-low.low) / 2) place before is in omega (arith, later)),
        (c.loop-low.invariant.1 place is).1,
      ),
    )

pub loop-low-preserved : goal.loop-low-preserved
loop-low-preserved c =
    let low = c.loop-low-test.true in (
      omega (arith, low),
      λ place is. (
        (c.loop-low.invariant.1 place is).0,
        not_behind c.args.site.now c.args.class c.args.part.now c.requires.wanted c.args.inner
            (c.loop-low.low + (c.loop-low.high - c.loop-low.low) / 2) place
            (λ before. false≢true (sym c.if-is_before_at.false ∙ c.is_before_at.ensures.1 before)) is,
      ),
    )

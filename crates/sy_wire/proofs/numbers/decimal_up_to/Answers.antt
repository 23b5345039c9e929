use Rattle.std.proofs.Common.{◌≡◌, ◌≤◌, arith, length, get_or, subst, sym}
use Rattle.std.specs.Prelude.{IfNone, IfSome, ℕ}
use Rattle.std.specs.Fmt.{decimal}
use Rattle.sy_wire.proofs.Numerals.{no_zero, spelt, unread}
use Rattle.sy_wire.proofs.numbers.decimal_up_to.Goals as goal
use Rattle.sy_wire.proofs.numbers.decimal_up_to.Goals.{else-word-gt1-via-then-word-gt1+else-word-eq48, else-word-gt1-via-else-word-gt1}

pub returns-then-word-eq48-clause-none : goal.returns-then-word-eq48-clause-none
returns-then-word-eq48-clause-none c n small e =
    no_zero c.args.word.now n (omega (arith, small, c.ranges.most.fits)) e c.if-word-eq48.true c.if-word-gt1.true

pub returns-clause-some : goal.returns-clause-some
returns-clause-some c =
    let w = c.args.word.now in
    let first : get_or w 0 0 ≡ 48 → length w ≤ 1 =
    λ zero. elim c.else-word-gt1.branch [
      | else-word-gt1-via-then-word-gt1+else-word-eq48 s ↦ absurd (s.if-word-eq48.false zero)
      | else-word-gt1-via-else-word-gt1 s ↦ omega (arith, s.if-word-gt1.false)
    ] in
    subst (λ o. IfSome o (λ n. (n ≤ c.args.most) × (w ≡ decimal n))) (sym c.number_up_to.ensures) (spelt w c.args.most (omega (arith, c.ranges.most.fits)) first)

pub returns-clause-none : goal.returns-clause-none
returns-clause-none c =
    subst (λ o. IfNone o ((n : ℕ) → n ≤ c.args.most → c.args.word.now ≡ decimal n → ⊥)) (sym c.number_up_to.ensures)
    (unread c.args.word.now c.args.most (omega (arith, c.ranges.most.fits)))

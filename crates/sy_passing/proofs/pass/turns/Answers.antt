use Rattle.std.proofs.Common.{◌≡◌, ◌∙◌, ap, refl, length, arith}
use Rattle.std.proofs.lemmas.Result.{err_from_is_err_and}
use Rattle.std.proofs.KnownBytes.{Keeps-refl}
use Rattle.sy_passing.proofs.Passes.{advances_nothing, advances_trans, calls_next, stop_after}
use Rattle.sy_passing.proofs.pass.turns.Goals as goal

pub loop-init : goal.loop-init
loop-init g c = record {
  between = c.requires.between;
  lent = refl;
  whole = c.requires.whole;
  room = let none : length c.args.framer.now.left ≡ 0 = ap length c.requires.new in omega (arith, none, c.requires.first);
  first = λ _. refl;
  calls = λ later. absurd (omega (arith, later));
  bound = omega arith;
  none_failed = (refl, refl);
  passed = λ input known. (input, known, rw (c.requires.new, c.requires.first) (advances_nothing input _ _ 0 (Keeps-refl _)));
}

pub returns-in_err-turn-clause-err : goal.returns-in_err-turn-clause-err
returns-in_err-turn-clause-err g c = λ input known.
    let p = err_from_is_err_and c.from_residual.result c.from_residual.ensures.1 in
    let before = c.loop.invariant.passed input known in
    rw (p.1, p.2) (stop_after _ _ _ _ _ _ _ _ _ before.2 (c.in_err-turn.ensures.turned before.0 before.1))

pub returns-then-not-branch-clause-ok : goal.returns-then-not-branch-clause-ok
returns-then-not-branch-clause-ok g c = λ input known.
    let before = c.loop.invariant.passed input known in
    let turned = rw c.if-not-branch.true at (c.in_ok-turn.ensures.turned before.0 before.1) in
    advances_trans _ _ _ _ _ _ _ _ _ before.2 turned

pub loop-preserved : goal.loop-preserved
loop-preserved g c =
    let more = rw c.if-not-branch.false at c.in_ok-turn.ensures in
    record {
      between = more.between refl;
      lent = more.lent ∙ c.loop.invariant.lent;
      whole = more.whole refl;
      room = omega (arith, more.room refl, c.loop.invariant.room);
      first = λ none. absurd (omega (arith, none));
      calls = λ later. calls_next _ _ _ _ c.loop.invariant.first c.loop.invariant.calls (more.call refl);
      bound = omega (arith, more.calls, c.loop.invariant.bound);
      none_failed = (more.none_failed.0 ∙ c.loop.invariant.none_failed.0, more.none_failed.1 ∙ c.loop.invariant.none_failed.1);
      passed = λ input known.
          let before = c.loop.invariant.passed input known in
          let turned = more.turned before.0 before.1 in
          (turned.0, turned.1, advances_trans _ _ _ _ _ _ _ _ _ before.2 turned.2);
    }

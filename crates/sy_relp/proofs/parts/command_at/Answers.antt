use Rattle.std.proofs.Common.{◌≡◌, ◌+◌, ◌≤◌, ◌<◌, get_or, length, refl, inl, inr, arith, rules}
use Rattle.sy_relp.specs.Frames.{IsLetter}
use Rattle.sy_relp.proofs.Numbers.{letters_more}
use Rattle.sy_relp.proofs.Stops.{command_short, never_letters, never_long, space_stands}
use Rattle.sy_relp.proofs.parts.command_at.Goals as goal
use Rattle.sy_relp.proofs.parts.command_at.Goals.{then-i-eq0-via-then-i-eq0, then-i-eq0-via-else-i-eq0+then-b-ne32}

pub returns-then-i-eq0-clause-err : goal.returns-then-i-eq0-clause-err
returns-then-i-eq0-clause-err c =
    let not : IsLetter (get_or c.args.bytes.now c.loop-i.i 0) → ⊥ = λ l. elim l [
      | inl h ↦ omega (arith, c.if-not-is_ascii_alphabetic.ensures.cases, h.0, h.1)
      | inr h ↦ omega (arith, c.if-not-is_ascii_alphabetic.ensures.cases, h.0, h.1)
    ] in
    never_letters c.args.bytes.now c.loop-i.i c.loop-i.invariant.letters c.loop-i-test.true not (elim c.then-i-eq0.branch [
      | then-i-eq0-via-then-i-eq0 w ↦ inl w.if-i-eq0.true
      | then-i-eq0-via-else-i-eq0+then-b-ne32 w ↦ inr w.if-b-ne32.true
    ])

pub returns-in-None-clause-err : goal.returns-in-None-clause-err
returns-in-None-clause-err c = absurd (space_stands c.args.bytes.now _ c.loop-i.i c.loop-i-test.true (let is : get_or c.args.bytes.now c.loop-i.i 0 ≡ 32 = omega (arith, c.if-b-ne32.false) in is) c.split_at.ensures.back c.in-None.ensures.none)

pub returns-then-i-ge-MAX_COMMAND-clause-err : goal.returns-then-i-ge-MAX_COMMAND-clause-err
returns-then-i-ge-MAX_COMMAND-clause-err c =
    let letter : IsLetter (get_or c.args.bytes.now c.loop-i.i 0) = search rules in
    let within : c.loop-i.i + 1 ≤ length c.args.bytes.now = omega (arith, c.loop-i-test.true) in
    let above : 32 < c.loop-i.i + 1 = omega (arith, c.if-i-ge-MAX_COMMAND.true) in
    never_long c.args.bytes.now (c.loop-i.i + 1) within above (letters_more c.args.bytes.now c.loop-i.i _ c.loop-i-test.true refl letter c.loop-i.invariant.letters)

pub returns-clause-err : goal.returns-clause-err
returns-clause-err c = command_short c.args.bytes.now c.loop-i.i c.loop-i-test.false c.loop-i.invariant.short c.loop-i.invariant.letters

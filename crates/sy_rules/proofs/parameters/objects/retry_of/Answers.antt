use Rattle.std.proofs.Common.{◌≡◌, ℕ, ◌≤◌, Fits, w32, false, codes, sym, ◌∙◌, arith}
use Rattle.sy_rules.specs.parameters.Objects.{is_word}
use Rattle.sy_rules.specs.parameters.Values.{given}
use Rattle.sy_rules.proofs.lemmas.parameters.Ranges.{retry_in_range}
use Rattle.sy_rules.proofs.parameters.objects.retry_of.Goals as goal

fits_32 : (n m : ℕ) → n ≡ m → m ≤ 2147483647 → Fits w32 n
fits_32 n m e le = omega (arith, e, le)

pub overflow_cast-count : goal.overflow_cast-count
overflow_cast-count c =
    let other : is_word (codes "-1") (given (codes "action.resumeRetryCount") c.args.params.now) ≡ false = rw (← c.given.ensures) (sym c.is_word.ensures ∙ c.if-is_word.false) in
    fits_32 _ _ c.number_of-count.ensures (omega (arith, (retry_in_range c.args.kind c.args.params.now c.requires.action c.requires.clean other).greatest))

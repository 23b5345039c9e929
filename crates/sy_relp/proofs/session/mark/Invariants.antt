use Rattle.std.proofs.Common.{◌≡◌, ◌<◌, ℕ}
use Rattle.std.specs.Prelude.{Some, slice_get}
use Rattle.sy_relp.specs.internal.Marks.{undone}
use Rattle.sy_relp.proofs.session.mark.Given as goal

abbrev pub invariant-loop-i : goal.invariant-loop-i
invariant-loop-i l = record {
  same : l.waiting.items ≡ l.fn.waiting.items;
  none : (k : ℕ) → k < l.i → slice_get l.waiting.items k ≡ Some (undone l.txnr) → ⊥;
}

use Rattle.std.proofs.Common.{[], ◌∷◌, false, inr, arith}
use Rattle.sy_relp.proofs.Ends.{ends_of, ends_short, ends_then}
use Rattle.sy_relp.proofs.closing.hear_end.Goals as goal

pub returns-then-count-waiting : goal.returns-then-count-waiting
returns-then-count-waiting g c = ends_short _ _ _ _ c.args.txnr c.args.waiting _ c.hear-count.ensures c.if-count-waiting.true

pub returns-then-not-next_frame : goal.returns-then-not-next_frame
returns-then-not-next_frame g c = ends_then false _ _ _ _ _ _ c.args.txnr c.args.waiting _ [] c.hear-count.ensures (omega (arith, c.if-count-waiting.false)) (c.next_frame.ensures.no c.if-not-next_frame.true) (λ same. inr tt)

pub returns : goal.returns
returns g c = ends_then _ _ _ _ _ _ _ c.args.txnr c.args.waiting _ (c.next_frame.new.answer ∷ []) c.hear-count.ensures (omega (arith, c.if-count-waiting.false)) (c.next_frame.ensures.yes c.if-not-next_frame.false)
    (ends_of _ c.args.txnr c.args.waiting _ c.next_frame.new.answer c.is_end.ensures.yes c.is_end.ensures.no)

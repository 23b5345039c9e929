use Rattle.std.proofs.Common.{◌≡◌, ◌∙◌, Ok, Err, false, sym, subst, true}
use Rattle.std.specs.Prelude.{IfOk, IfSome, None, Option, Result, Some}
use Rattle.sy_unread.specs.Repairs.{IsForeign}
use Rattle.sy_unread.proofs.repair.repair.Goals as goal

always : {X E : Type 0} {P : Type 0} (r : Result (Option X) E) → P → IfOk r (λ made. IfSome made (λ x. P))
always (Ok (Some x)) p = p
always (Ok None) p = tt
always (Err e) p = tt

pub returns-clause-hint : goal.returns-clause-hint
returns-clause-hint c = always c.whole.result (λ foreign.
    let there : c.is_foreign.result ≡ true = c.is_foreign.ensures.1 (subst IsForeign (sym c.of.ensures) foreign) in
    let never : true ≡ false = sym there ∙ c.if-is_foreign.false in
    cc)

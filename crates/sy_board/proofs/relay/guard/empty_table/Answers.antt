use Rattle.std.proofs.Common.{◌≡◌, false, [], ◌∷◌, ◌++◌, replicate, ap, subst, ◌∙◌, arith}
use Rattle.std.proofs.lemmas.List.{replicate_more}
use Rattle.sy_board.proofs.relay.guard.empty_table.Goals as goal

pub loop-init : goal.loop-init
loop-init c = c.in_ok-table.ensures.items

pub loop-preserved : goal.loop-preserved
loop-preserved c = c.in_ok-push.ensures.items ∙ (ap (λ table. table ++ false ∷ []) c.loop.invariant ∙ replicate_more c.loop.counter false)

pub returns : goal.returns
returns c =
    let end : c.loop.counter ≡ 12288 = omega arith in
    subst (λ n. c.loop.table.items ≡ replicate n false) end c.loop.invariant

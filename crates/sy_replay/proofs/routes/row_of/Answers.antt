use Rattle.std.proofs.Common.{◌∙◌, ◌∷◌, ◌++◌, [], ap, arith, sym}
use Rattle.sy_replay.specs.internal.Routes.{first_of, target_at}
use Rattle.sy_replay.proofs.Tables.{one_more_of}
use Rattle.sy_replay.proofs.routes.row_of.Goals as goal

pub loop-action-preserved : goal.loop-action-preserved
loop-action-preserved c =
    let below = c.loop-action-test.true in
    let f = target_at c.args.site.now c.args.relay in
    record {
      made = c.in_ok-push.ensures.items ∙ ap (λ xs. xs ++ c.target.result ∷ []) c.loop-action.invariant.made
          ∙ ap (λ t. first_of f c.loop-action.action ++ t ∷ []) c.target.ensures ∙ sym (one_more_of f c.loop-action.action);
      all = c.loop-action.invariant.all;
      within = omega (arith, below);
    }

use Rattle.std.proofs.Common.{◌∙◌, ◌∷◌, ◌++◌, [], ap, arith, sym}
use Rattle.sy_replay.specs.internal.Routes.{first_of, row_of}
use Rattle.sy_replay.proofs.Tables.{one_more_of, rows_more}
use Rattle.sy_replay.proofs.routes.table_of.Goals as goal

pub loop-relay-preserved : goal.loop-relay-preserved
loop-relay-preserved c =
    let below = c.loop-relay-test.true in
    let f = row_of c.args.site.now in
    record {
      made = rows_more c.loop-relay.rows.items c.in_ok-row_of.field-0 c.push.new.self.items c.in_ok-push.ensures.items
          ∙ ap (λ rs. rs ++ c.in_ok-row_of.field-0.items ∷ []) c.loop-relay.invariant.made
          ∙ ap (λ r. first_of f c.loop-relay.relay ++ r ∷ []) c.in_ok-row_of.ensures ∙ sym (one_more_of f c.loop-relay.relay);
      all = c.loop-relay.invariant.all;
      within = omega (arith, below);
    }

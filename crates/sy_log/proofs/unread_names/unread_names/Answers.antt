use Rattle.std.proofs.Common.{rules, arith, map, ℕ, List}
use Rattle.std.specs.Prelude.{option_map}
use Rattle.sy_rules.specs.declared.parts.Input.{Input}
use Rattle.sy_log.specs.UnreadFiles.{unread_file}
use Rattle.sy_log.proofs.Names.{one_more}
use Rattle.sy_log.proofs.unread_names.unread_names.Goals as goal

-- the file of one input more
pub loop-input-preserved : goal.loop-input-preserved
loop-input-preserved c =
    rw c.in_ok-push-2.ensures.items (one_more Input (unread_file (option_map (λ n. n.now) c.args.given)) c.args.inputs.now c.loop-input.input-index
    c.input-item.result (map (λ n. n.now) c.loop-input.names.items) (map (λ n. n.now) c.file_of.new.names.items) c.loop-input.of_inputs.items
    c.in_ok-file.file (search (rules, arith)) (search rules) c.in_ok-file.ensures.kept c.loop-input.invariant c.in_ok-file.ensures.there)

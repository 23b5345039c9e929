use Rattle.std.proofs.Common.{map, take}
use Rattle.std.specs.Prelude.{option_map}
use Rattle.sy_log.specs.UnreadFiles.{AreTheirFiles}
use Rattle.sy_log.proofs.unread_names.unread_names.Given as goal

-- those of the inputs so far
abbrev pub invariant-loop-input : goal.invariant-loop-input
invariant-loop-input l =
    AreTheirFiles (option_map (λ n. n.now) l.given) (take l.input-index l.inputs) (map (λ n. n.now) l.names.items) l.of_inputs.items

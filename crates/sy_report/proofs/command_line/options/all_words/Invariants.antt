use Rattle.std.proofs.Common.{◌≡◌, ◌∷◌, codes, map, take, string_bytes}
use Rattle.sy_report.proofs.command_line.options.all_words.Given as goal

abbrev pub invariant-loop-arg : goal.invariant-loop-arg
invariant-loop-arg l = map (λ s. s.now) l.words.items ≡ codes "syc" ∷ map string_bytes (take l.arg-index l.args)

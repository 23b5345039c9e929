use Rattle.std.proofs.Common.{◌≡◌, ◌∷◌, ◌++◌, codes, map, drop, string_bytes}
use Rattle.sy_report.specs.Words.{bare_of}
use Rattle.sy_report.proofs.command_line.options.bare_words.Given as goal

abbrev pub invariant-loop-arg : goal.invariant-loop-arg
invariant-loop-arg l = map (λ s. s.now) l.bare.items ++ bare_of (map string_bytes (drop l.arg-index l.args)) ≡ codes "syc" ∷ bare_of (map string_bytes l.args)

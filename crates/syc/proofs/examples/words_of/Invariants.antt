use Rattle.std.proofs.Common.{◌≡◌, ◌++◌, map, drop}
use Rattle.std.specs.Prelude.{string_bytes}
use Rattle.syc.proofs.examples.words_of.Given as goal

abbrev pub invariant-loop-word : goal.invariant-loop-word
invariant-loop-word l = map string_bytes l.found.items ++ map (λ word. word.now) (drop l.word-index l.words) ≡ map (λ word. word.now) l.words

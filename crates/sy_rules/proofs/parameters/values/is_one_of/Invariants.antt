use Rattle.std.proofs.Common.{◌≡◌, length, map}
use Rattle.std.specs.List.{list_any}
use Rattle.std.specs.Str.{bytes_eq}
use Rattle.sy_rules.proofs.parameters.values.is_one_of.Given as goal

abbrev pub invariant-loop-words : goal.invariant-loop-words
invariant-loop-words l = list_any (bytes_eq l.value) (map (λ w. w.now) l.words) ≡ list_any (bytes_eq l.value) (map (λ w. w.now) l.initial.words)

abbrev pub decreases-loop-words : goal.decreases-loop-words
decreases-loop-words l = length l.words

use Rattle.std.proofs.Common.{◌≡◌, option_map}
use Rattle.sy_inputs.specs.internal.Unkept.{NoneBefore}
use Rattle.sy_inputs.proofs.whole_entries.first_unkept.Given as goal

-- none of those before this one
abbrev pub invariant-loop-input : goal.invariant-loop-input
invariant-loop-input l =
    (l.number ≡ l.input-index) × NoneBefore l.site l.relay (option_map (λ n. n.now) l.given) l.number
